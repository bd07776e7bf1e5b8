-- `immediates_walk::type_slots` meets its contract. Assumes nothing.
use mathlib.Core.Path.{sym, ap, ◌∙◌}
use native.Mathlib.Omega.{arith}
use Rattle.ir_records.specs.Record.{decoded}
use Rattle.immediates_ranges.specs.Slots.{slots_found}
use Rattle.immediates_part.specs.Part.{slots_in, part_found}
use Rattle.immediates_walk.proofs.PartsLaws.{part_slots}
use Rattle.immediates_walk.proofs.type_slots.Goals as goal

pub returns-in_err-part : goal.returns-in_err-part
returns-in_err-part c =
    let a = c.args in
    let part = sym (ap part_found c.in_err-part.was) ∙ c.type_part.ensures in
    ap slots_found c.from_residual.ensures ∙ ap slots_in part ∙ part_slots (decoded a.types.now a.members.now) a.ty a.offset (omega arith)

pub returns : goal.returns
returns c =
    let a = c.args in
    let part = sym (ap part_found c.in_ok-part.was) ∙ c.type_part.ensures in
    ap slots_in part ∙ part_slots (decoded a.types.now a.members.now) a.ty a.offset (omega arith)
