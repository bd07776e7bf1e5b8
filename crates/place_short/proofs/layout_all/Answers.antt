-- `place_short::layout_all` meets its contract. The invariant: the first i types pass numbers 4 to 7, their layouts stand in their words, and what stands
-- behind the words of n types is as it was. Assumes nothing.
use Rattle.std.proofs.Common.{rules, Err}
use Rattle.ir_records.specs.Refusal.{outcome_of}
use mathlib.Core.Path.{◌≡◌, refl, sym, ap, ◌∙◌}
use Prim.Native.Nat.{◌≤◌, ◌+◌, ◌*◌}
use native.Mathlib.Nat.{le_antisymm}
use native.Mathlib.Numerals.{add-one}
use native.Mathlib.Omega.{arith}
use lib.ListN.{length, take}
use Rattle.ir_records.specs.Record.{decoded}
use Rattle.ir_records.proofs.TableLaws.{stays}
use Rattle.proc_layouter.specs.Layouter.{layout_at}
use Rattle.place_short.specs.Serving.{laid_from}
use Rattle.place_short.proofs.ShortLaws.{laid_at, laid_wide, laid_outcome, laid_three, three_written, rest_kept}
use Rattle.place_short.proofs.layout_all.Goals as goal

pub returns-in_err-layout_at : goal.returns-in_err-layout_at
returns-in_err-layout_at c =
    let a = c.args in
    let ts = a.arena.types.now in
    let ms = a.arena.members.now in
    let l = c.loop-i in
    let at = c.layout_at in
    let below = c.loop-i-test.true in
    let same : c.from_residual.result ≡ Err c.in_err-layout_at.field-0.0 = search rules in
    let refused = sym (laid_outcome ts ms (take (l.i * 3) l.words) l.i l.invariant.1) ∙ sym at.ensures.value ∙ ap outcome_of c.in_err-layout_at.was in record { value = ap outcome_of same ∙ sym (stays (layout_at (decoded ts ms)) l.i l.invariant.0 refused a.arena.n below); words_unchanged = rest_kept (laid_at ts ms) (laid_wide ts ms) l.i l.words _ (laid_from ts ms (take (l.i * 3) l.words) l.i) l.invariant.1 at.ensures.words_after (laid_three ts ms (take (l.i * 3) l.words) l.i l.invariant.1) (omega (arith, c.requires, below, l.invariant.3)) a.arena.n below ∙ l.invariant.2 }

pub loop-i-preserved : goal.loop-i-preserved
loop-i-preserved c =
    let a = c.args in
    let ts = a.arena.types.now in
    let ms = a.arena.members.now in
    let l = c.loop-i in
    let at = c.layout_at in
    let below = c.loop-i-test.true in
    let room : l.i * 3 + 3 ≤ length l.words = omega (arith, c.requires, below, l.invariant.3) in
    let told = sym at.ensures.value ∙ ap outcome_of c.in_ok-layout_at.was in
    let passed = sym (laid_outcome ts ms (take (l.i * 3) l.words) l.i l.invariant.1) ∙ told in (
      rw (add-one, l.invariant.0, passed) refl,
      three_written (laid_at ts ms) (laid_wide ts ms) l.i l.words _ (laid_from ts ms (take (l.i * 3) l.words) l.i) l.invariant.1 at.ensures.words_after (laid_three ts ms (take (l.i * 3) l.words) l.i l.invariant.1) room told,
      rest_kept (laid_at ts ms) (laid_wide ts ms) l.i l.words _ (laid_from ts ms (take (l.i * 3) l.words) l.i) l.invariant.1 at.ensures.words_after (laid_three ts ms (take (l.i * 3) l.words) l.i l.invariant.1) room a.arena.n below ∙ l.invariant.2,
      at.auto.words ∙ l.invariant.3,
    )

pub returns : goal.returns
returns c =
    let l = c.loop-i in
    let end : l.i ≡ c.args.arena.n = le_antisymm l.auto.i-end c.loop-i-test.false in
    record { value = rw end at (sym l.invariant.0); words_unchanged = l.invariant.2 }
