use mathlib.Core.Path.{◌≡◌, refl, ◌∙◌, ap}
use Prim.Native.Nat.{suc, ◌-◌}
use native.Mathlib.Omega.{arith}
use Rattle.ir_records.specs.Record.{type_inner}
use Rattle.valid_type_info.specs.Verdict.{previous_of}
use Rattle.valid_members.proofs.previous_of.Goals as goal

pub returns-then-j-eq0 : goal.returns-then-j-eq0
unfolding previous_of
returns-then-j-eq0 c = rw c.if-j-eq0.true refl

pub returns : goal.returns
unfolding previous_of
returns c =
    let a = c.args in
    let one_more : suc (a.j - 1) ≡ a.j = omega (arith, c.if-j-eq0.false) in
    rw (c.member_offset.ensures, c.member_type.ensures) at c.struct_at.ensures
    ∙ ap (previous_of (type_inner a.types.now) a.part.now) one_more
