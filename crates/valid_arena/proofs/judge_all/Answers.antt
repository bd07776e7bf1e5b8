-- `valid_arena::judge_all` meets its contract. The invariant: the first i types pass numbers 2 to 7 and are accepted, their rows stand in place, and what
-- stands behind the n rows is as it was. Assumes nothing.
use Rattle.std.proofs.Common.{rules, Err}
use mathlib.Core.Path.{◌≡◌, refl, sym, ap, ◌∙◌}
use Prim.Native.Nat.{◌≤◌, ◌+◌, ◌*◌}
use native.Mathlib.Nat.{le_antisymm}
use native.Mathlib.Numerals.{add-one}
use native.Mathlib.Omega.{arith}
use lib.ListN.{length}
use Rattle.ir_records.specs.Result.{ok}
use Rattle.ir_records.specs.Outcome.{Accepted}
use Rattle.ir_records.specs.Refusal.{judged, outcome_of}
use Rattle.ir_records.proofs.RefusalLaws.{outcome_at_type, judged_at_type}
use Rattle.ir_records.proofs.TableLaws.{stays}
use Rattle.valid_type_info.specs.Verdict.{least_for}
use Rattle.valid_arena.specs.Serving.{laid_then_judged}
use Rattle.valid_arena.proofs.JudgeRows.{outcome-at, rest_kept, row_written}
use Rattle.valid_arena.proofs.judge_all.Goals as goal

pub record_row-judged-requires : goal.record_row-judged-requires
record_row-judged-requires c =
    let s = c in
    record { i_in_bounds = omega (arith, s.requires.n_in_bounds, c.loop-i-test.true); i_in_bounds_2 = omega (arith, s.requires.n_in_bounds_2, c.loop-i-test.true) }

pub returns-in_err-at_type : goal.returns-in_err-at_type
returns-in_err-at_type c =
    let a = c.args in let ts = a.types.now in let ms = a.members.now in
    let l = c.loop-i in
    let below = c.loop-i-test.true in
    let j = c.record_row-judged in
    let told = outcome-at (least_for a.rule) a.capabilities ts ms l.i l.invariant.0 l.rows _ j.result l.invariant.1 j.ensures in
    let same : c.from_residual.result ≡ Err c.in_err-at_type.field-0.0 = search rules in
    let refused = sym told ∙ sym (outcome_at_type j.result l.i) ∙ ap outcome_of (sym c.at_type.ensures ∙ c.in_err-at_type.was) in
    record {
      value = ap outcome_of same ∙ sym (stays (laid_then_judged (least_for a.rule) a.capabilities ts ms) l.i l.invariant.0 refused a.n below);
      rows_after = (λ accepted. let both : outcome_of {A = Unit {0}} (Err c.in_err-at_type.field-0.0) ≡ Accepted = sym (ap outcome_of same) ∙ accepted in cc);
      rows_unchanged = rest_kept (least_for a.rule) a.capabilities ts ms l.i l.invariant.0 l.rows _ j.result l.invariant.1 j.ensures (omega (arith, c.requires.n_in_bounds, below)) a.n below ∙ l.invariant.2;
    }

pub loop-i-preserved : goal.loop-i-preserved
loop-i-preserved c =
    let a = c.args in let ts = a.types.now in let ms = a.members.now in
    let l = c.loop-i in
    let below = c.loop-i-test.true in
    let j = c.record_row-judged in
    let room : l.i * 14 + 14 ≤ length l.rows = omega (arith, c.requires.n_in_bounds, below) in
    let told = outcome-at (least_for a.rule) a.capabilities ts ms l.i l.invariant.0 l.rows _ j.result l.invariant.1 j.ensures in
    let made : judged j.result ≡ ok tt = judged_at_type j.result l.i tt (sym c.at_type.ensures ∙ c.in_ok-at_type.was) in
    let passed = rw made at (sym told) in (
      rw (add-one, l.invariant.0, passed) refl,
      row_written (least_for a.rule) a.capabilities ts ms l.i l.invariant.0 l.rows _ j.result l.invariant.1 j.ensures room made,
      rest_kept (least_for a.rule) a.capabilities ts ms l.i l.invariant.0 l.rows _ j.result l.invariant.1 j.ensures room a.n below ∙ l.invariant.2,
      j.auto.rows ∙ l.invariant.3,
    )

pub returns : goal.returns
returns c =
    let l = c.loop-i in
    let end : l.i ≡ c.args.n = le_antisymm l.auto.i-end c.loop-i-test.false in
    record { value = rw end at (sym l.invariant.0); rows_after = (λ _. rw end at l.invariant.1); rows_unchanged = l.invariant.2 }
