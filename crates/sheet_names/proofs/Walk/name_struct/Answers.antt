-- `sheet_names::Walk::name_struct` meets its contract: the number of a struct is small. Assumes nothing.
use Rattle.std.proofs.Common.{◌≡◌, sym, ◌∙◌, ◌+◌, ◌%◌, arith}
use Rattle.sheet_names.specs.Text.{is_struct}
use Rattle.sheet_names.proofs.SearchLaws.{first_is}
use Rattle.sheet_names.proofs.Walk.name_struct.Goals as goal

pub returns-in-Some : goal.returns-in-Some
returns-in-Some c =
    let w = c.args.self.now in
    let i = c.in-Some.ty in
    let e = sym c.struct_from.ensures ∙ c.in-Some.is in
    let few : (i + 1) % 4294967296 ≡ i + 1 = omega (arith, (first_is (is_struct w.types.now) w.ty 1024 i e).below) in
    rw (e, few, c.put_place.ensures)
