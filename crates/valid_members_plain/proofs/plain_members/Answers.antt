-- `valid_members_plain::plain_members` meets its contract. The invariant: what the definitions have after j members is what the state has, where
-- that held at the start.
-- Assumes nothing.
use mathlib.Core.Path.{refl}
use native.Mathlib.Nat.{le_antisymm, le_refl}
use native.Mathlib.Numerals.{add-one}
use native.Mathlib.Omega.{arith}
use Rattle.ir_records.specs.Record.{type_inner}
use Rattle.valid_type_info.specs.Verdict.{previous_of}
use Rattle.valid_member_bounds.specs.MemberBounds.{bounds_after}
use Rattle.valid_member_rules.specs.MemberRules.{uniform_after, storage_after, immediates_after}
use Rattle.valid_members_plain.proofs.plain_members.Goals as goal

pub loop-j-init : goal.loop-j-init
loop-j-init c = (omega arith, c.requires, λ rule u immediates failed p. (failed, p))

pub plain_member-requires : goal.plain_member-requires
plain_member-requires c = rw (← c.type_of-t.ensures) at (c.args.s.now.members_earlier c.loop-j.j c.loop-j-test.true)

pub returns-in-None : goal.returns-in-None
returns-in-None c = let l = c.loop-j in record { taken_le_taken = l.invariant.0; taken_le_count = l.invariant.1; plain_after = λ rule u immediates failed p. (l.invariant.2 rule u immediates failed p).1 }

pub loop-j-preserved : goal.loop-j-preserved
unfolding bounds_after uniform_after storage_after immediates_after previous_of
loop-j-preserved c =
    let l = c.loop-j in
    let a = c.args in (
      omega (arith, l.invariant.0),
      omega (arith, c.loop-j-test.true),
      λ rule u immediates failed p.
          let known = l.invariant.2 rule u immediates failed p in
          let before = known.1 in
          let step = rw (c.in-Some.is, c.offset_of-offset.ensures, c.type_of-t.ensures) at (c.plain_member.ensures rule u a.s.now.part.count l.j (previous_of (type_inner a.s.now.types.now) a.s.now.part.words.now l.j) known.0 before.4) in
          (step.2, (rw (add-one, before.0) step.0, rw (add-one, before.1) step.1, rw (add-one, before.2) step.3, rw (add-one, before.3, step.4) refl, rw add-one step.5)),
    )

pub returns : goal.returns
returns c =
    let l = c.loop-j in
    let whole = le_antisymm l.invariant.1 c.loop-j-test.false in
    record { taken_le_taken = omega (arith, l.invariant.0, l.invariant.1); taken_le_count = le_refl _; plain_after = λ rule u immediates failed p. rw whole at (l.invariant.2 rule u immediates failed p).1 }
