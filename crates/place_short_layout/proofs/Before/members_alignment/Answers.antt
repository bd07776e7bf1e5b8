-- `place_short_layout::members_alignment` meets its contract. The invariant: the first j members are earlier types, and a is their largest
-- alignment. Assumes nothing.
use mathlib.Core.Path.{refl, sym}
use native.Mathlib.Nat.{le_antisymm}
use Rattle.proc_type_alignment.specs.TypeAlignment.{members_alignment}
use Rattle.proc_type_alignment.proofs.AlignmentLaws.{member_earlier, member_late}
use Rattle.place_short_layout.specs.ShortRows.{short_layouts}
use Rattle.place_short_layout.proofs.Before.members_alignment.Goals as goal

pub returns-then-self-ty : goal.returns-then-self-ty
returns-then-self-ty c =
    let l = c.loop-j in
    let a = c.args in
    let late = rw c.member_type-ty.ensures at c.if-self-ty.true in
    rw c.of_member.ensures (sym (member_late (short_layouts a.self.words.now) a.self.i a.part.now l.j l.a l.invariant late a.count c.loop-j-test.true))
