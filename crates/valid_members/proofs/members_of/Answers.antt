-- `valid_members::members_of` meets its contract. The invariant: state is what the definition has after j members. Assumes nothing.
use Rattle.std.proofs.Common.{rules, Err, ◌≡◌}
use Rattle.ir_records.specs.Refusal.{judged}
use mathlib.Core.Path.{sym, ap, ◌∙◌}
use Prim.Native.Nat.{◌+◌, ◌<◌}
use native.Mathlib.Nat.{le_antisymm}
use native.Mathlib.Omega.{arith}
use Rattle.ir_records.specs.Record.{type_inner}
use Rattle.valid_type_info.specs.TypeInfo.{rows_in}
use Rattle.valid_type_info.specs.Verdict.{least_for}
use Rattle.valid_members.proofs.StateLaws.{state_refused}
use Rattle.valid_members.proofs.members_of.Goals as goal

pub loop-reached-init : goal.loop-reached-init
loop-reached-init c = let pre = c.requires in (pre.taken_le_count, pre.taken_value)

pub together-there-requires : goal.together-there-requires
together-there-requires c = c.loop-reached.invariant.0

pub returns-then-there-s : goal.returns-then-there-s
returns-then-there-s c =
    let a = c.args in
    rw c.if-there-s.true at (sym (c.together-there.ensures.taken_value c.loop-reached.invariant.1))

pub step-requires : goal.step-requires
step-requires c =
    let o = c.together-there in
    record { in_part = omega (arith, o.ensures.taken_le_count, c.if-there-s.false); so_far = o.ensures.taken_value c.loop-reached.invariant.1 }

pub returns-in_err-step : goal.returns-in_err-step
returns-in_err-step c =
    let a = c.args in
    let o = c.together-there in
    let refused = rw c.in_err-step.was at (sym c.step.ensures) in
    let same : c.from_residual.result ≡ Err c.in_err-step.field-0.0 = search rules in
    ap judged same ∙ sym (state_refused (least_for a.rule) (type_inner a.s.now.types.now) (rows_in a.s.now.before.rows.now) a.s.now.before.i a.s.now.part.count a.s.now.span a.s.now.part.words.now (o.result.taken + 1) refused a.s.now.part.count (omega (arith, o.ensures.taken_le_count, c.if-there-s.false)))

pub overflow_add-reached : goal.overflow_add-reached
overflow_add-reached c =
    let count : c.args.s.now.part.count < 4294967296 = search rules in
    omega (arith, c.together-there.ensures.taken_le_count, c.if-there-s.false, count)

pub loop-reached-smaller : goal.loop-reached-smaller
loop-reached-smaller c = omega (arith, c.loop-reached-test.true, c.together-there.ensures.taken_le_taken)

pub loop-reached-preserved : goal.loop-reached-preserved
loop-reached-preserved c =
    let o = c.together-there in
    (omega (arith, o.ensures.taken_le_count, c.if-there-s.false), rw c.in_ok-step.was at (sym c.step.ensures))

pub returns : goal.returns
returns c =
    let l = c.loop-reached in
    rw (le_antisymm l.invariant.0 c.loop-reached-test.false) at (sym l.invariant.1)
