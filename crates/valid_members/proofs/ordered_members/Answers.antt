-- `valid_members::ordered_members` meets its contract. The invariant: state is what the definition has after j members. Assumes nothing.
use mathlib.Core.Path.{◌∙◌}
use native.Mathlib.Nat.{le_antisymm, le_refl}
use native.Mathlib.Numerals.{add-one}
use native.Mathlib.Omega.{arith}
use Rattle.ir_records.specs.Record.{type_inner}
use Rattle.valid_type_info.specs.TypeInfo.{rows_in}
use Rattle.valid_type_info.specs.Verdict.{least_for}
use Rattle.valid_members.proofs.StateLaws.{state_step}
use Rattle.valid_members.proofs.ordered_members.Goals as goal

pub loop-j-init : goal.loop-j-init
loop-j-init c = let pre = c.requires in (omega arith, pre, λ e. e)

pub ordered_member-requires : goal.ordered_member-requires
ordered_member-requires c = rw (← c.type_of.ensures) at (c.args.s.now.members_earlier c.loop-j.j c.loop-j-test.true)

pub returns-in-None : goal.returns-in-None
returns-in-None c = let l = c.loop-j in record { taken_le_taken = l.invariant.0; taken_le_count = l.invariant.1; taken_value = l.invariant.2 }

pub loop-j-preserved : goal.loop-j-preserved
loop-j-preserved c =
    let l = c.loop-j in
    let a = c.args in (
      omega (arith, l.invariant.0),
      omega (arith, c.loop-j-test.true),
      λ e.
          let step = rw (c.in-Some.is, c.offset_of.ensures, c.type_of.ensures) at (c.ordered_member.ensures a.s.now.part.count) in
          rw add-one (state_step (least_for a.rule) (type_inner a.s.now.types.now) (rows_in a.s.now.before.rows.now) a.s.now.before.i a.s.now.part.count a.s.now.span a.s.now.part.words.now l.j l.state (l.invariant.2 e) ∙ step),
    )

pub returns : goal.returns
returns c =
    let l = c.loop-j in
    let whole = le_antisymm l.invariant.1 c.loop-j-test.false in
    record { taken_le_taken = omega (arith, l.invariant.0, l.invariant.1); taken_le_count = le_refl _; taken_value = λ e. rw whole at (l.invariant.2 e) }
