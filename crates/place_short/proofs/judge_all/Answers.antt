-- `place_short::judge_all` meets its contract. The invariant: the first i types pass numbers 4 to 7 and are accepted, their words stand in place, and what
-- stands behind the words of n types is as it was. Assumes nothing.
use Rattle.std.proofs.Common.{rules, Err}
use Rattle.ir_records.specs.Refusal.{outcome_of}
use mathlib.Core.Path.{◌≡◌, refl, sym, ap, ◌∙◌}
use mathlib.Core.List.{List}
use Prim.Native.Nat.{ℕ, ◌≤◌, ◌+◌, ◌*◌}
use native.Mathlib.Nat.{le_antisymm}
use native.Mathlib.Numerals.{add-one}
use native.Mathlib.Omega.{arith}
use lib.ListN.{length, take}
use Rattle.ir_records.specs.Table.{outcome_at}
use Rattle.ir_records.proofs.TableLaws.{stays}
use Rattle.place_short.specs.Short.{three_at}
use Rattle.place_short.specs.Serving.{three_from, three_result}
use Rattle.place_short.proofs.ShortLaws.{three_wide, three_there, three_refusal, three_written, rest_kept}
use Rattle.place_short.proofs.OutcomeLaws.{not_accepted}
use Rattle.place_short.proofs.judge_all.Goals as goal

pub returns-in_err-judge_at : goal.returns-in_err-judge_at
returns-in_err-judge_at c =
    let a = c.args in
    let ts = a.arena.types.now in
    let ms = a.arena.members.now in
    let k = a.arena.capabilities in
    let l = c.loop-i in
    let at = c.judge_at in
    let below = c.loop-i-test.true in
    let words = take (l.i * 3) l.words in
    let same : c.from_residual.result ≡ Err c.in_err-judge_at.field-0.0 = search rules in
    let refused = ap (λ (w : List ℕ). outcome_at l.i (three_from k ts ms w l.i)) (sym l.invariant.1) ∙ sym at.ensures.value ∙ ap outcome_of c.in_err-judge_at.was in record { value = ap outcome_of same ∙ sym (stays (three_result k ts ms) l.i l.invariant.0 refused a.arena.n below); words_after = (λ accepted. absurd (not_accepted (sym (ap outcome_of same) ∙ accepted))); words_unchanged = rest_kept (three_at k ts ms) (three_wide k ts ms) l.i l.words _ (three_from k ts ms words l.i) l.invariant.1 at.ensures.words_after (three_there k ts ms l.i (sym (three_refusal k ts ms l.i) ∙ l.invariant.0) words l.invariant.1) (omega (arith, c.requires, below, l.invariant.3)) a.arena.n below ∙ l.invariant.2 }

pub loop-i-preserved : goal.loop-i-preserved
loop-i-preserved c =
    let a = c.args in
    let ts = a.arena.types.now in
    let ms = a.arena.members.now in
    let k = a.arena.capabilities in
    let l = c.loop-i in
    let at = c.judge_at in
    let below = c.loop-i-test.true in
    let words = take (l.i * 3) l.words in
    let room : l.i * 3 + 3 ≤ length l.words = omega (arith, c.requires, below, l.invariant.3) in
    let told = sym at.ensures.value ∙ ap outcome_of c.in_ok-judge_at.was in
    let passed = ap (λ (w : List ℕ). outcome_at l.i (three_from k ts ms w l.i)) (sym l.invariant.1) ∙ told in (
      rw (add-one, l.invariant.0, passed) refl,
      three_written (three_at k ts ms) (three_wide k ts ms) l.i l.words _ (three_from k ts ms words l.i) l.invariant.1 at.ensures.words_after (three_there k ts ms l.i (sym (three_refusal k ts ms l.i) ∙ l.invariant.0) words l.invariant.1) room told,
      rest_kept (three_at k ts ms) (three_wide k ts ms) l.i l.words _ (three_from k ts ms words l.i) l.invariant.1 at.ensures.words_after (three_there k ts ms l.i (sym (three_refusal k ts ms l.i) ∙ l.invariant.0) words l.invariant.1) room a.arena.n below ∙ l.invariant.2,
      at.auto.words ∙ l.invariant.3,
    )

pub returns : goal.returns
returns c =
    let l = c.loop-i in
    let end : l.i ≡ c.args.arena.n = le_antisymm l.auto.i-end c.loop-i-test.false in
    record { value = rw end at (sym l.invariant.0); words_after = (λ _. rw end at l.invariant.1); words_unchanged = l.invariant.2 }
