-- `proc_type_alignment::members_alignment` meets its contract. The invariant: the first j members are earlier types, a is their largest
-- alignment, and where sources is 0 none of them has a blend source.
-- Assumes nothing.
use mathlib.Core.Path.{refl}
use native.Mathlib.Nat.{le_antisymm}
use native.Mathlib.Omega.{arith}
use Rattle.proc_type_alignment.specs.TypeAlignment.{members_alignment}
use Rattle.proc_type_alignment.specs.Serving.{layouts_in}
use Rattle.proc_type_alignment.proofs.AlignmentLaws.{member_earlier, member_late, one_more_sourceless}
use Rattle.proc_type_alignment.proofs.members_alignment.Goals as goal

pub loop-j-init : goal.loop-j-init
unfolding members_alignment
loop-j-init c = (refl, λ e j h. absurd (omega (arith, h)))

pub returns-then-before-ty : goal.returns-then-before-ty
returns-then-before-ty c =
    let l = c.loop-j in
    let a = c.args in
    let late = rw c.type_of-ty.ensures at c.if-before-ty.true in
    rw (member_late (layouts_in a.before.rows.now) a.before.i a.part.words.now l.j l.a l.invariant.0 late a.part.count c.loop-j-test.true)
    record { result_value = c.late_member.ensures; sources_told = tt }

pub loop-j-preserved : goal.loop-j-preserved
loop-j-preserved c =
    let l = c.loop-j in
    let a = c.args in
    let earlier = rw c.type_of-ty.ensures at c.if-before-ty.false in
    let step = member_earlier (layouts_in a.before.rows.now) a.before.i a.part.words.now l.j l.a l.invariant.0 earlier in (
      rw (c.max-a.ensures, c.word.ensures, c.type_of-ty.ensures) step,
      λ e. one_more_sourceless a.part.words.now l.j l.sources l.invariant.1 (rw c.source_of-sources.ensures at e),
    )

pub with_sources-requires : goal.with_sources-requires
with_sources-requires c =
    let l = c.loop-j in
    λ e j h. l.invariant.1 e j (omega (arith, h, c.args.part.counted, c.loop-j-test.false))

pub returns : goal.returns
returns c =
    let l = c.loop-j in
    rw (rw (le_antisymm l.auto.j-end c.loop-j-test.false) at l.invariant.0) c.with_sources.ensures
