-- `valid_member_bounds::member_bounds` meets its contract: each answer follows from the tests on the way, in the order of the definition. Assumes nothing.
use mathlib.Core.Path.{refl, sym, ◌∙◌}
use Prim.Native.Nat.{◌+◌, ◌≤◌}
use native.Mathlib.Omega.{arith}
use borrow.Author.Tests.{le-leb}
use Rattle.valid_member_bounds.proofs.BoundsLaws.{summed}
use Rattle.valid_member_bounds.proofs.member_bounds.Goals as goal

pub returns-then-not-is_member_data : goal.returns-then-not-is_member_data
returns-then-not-is_member_data c = rw (sym c.is_member_data.ensures ∙ c.if-not-is_member_data.true, c.of_member.ensures)

pub returns : goal.returns
returns c =
    let sum = summed _ _ _ _ _ c.checked_add.ensures (sym c.ok_or.ensures.value ∙ c.in_ok-next.was) in
    let within = le-leb _ _ c.if-span-next.false in
    let fits : c.args.m.offset + c.args.m.size ≤ 4294967295 = omega (arith, sum.0) in
    rw (sym c.is_member_data.ensures ∙ c.if-not-is_member_data.false, sym c.is_apart.ensures ∙ c.if-not-is_apart.false, le-leb _ 4294967295 fits, rw sum.1 at within, sym c.is_within.ensures ∙ c.if-not-is_within.false, sym c.is_member_sized.ensures ∙ c.if-not-is_member_sized.false, c.member_flags.ensures, c.both-joined.ensures, sum.1) refl
