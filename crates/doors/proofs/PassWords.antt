-- A pass in three lent words: what a step leaves is read back as the pass after it, so the theorem over histories speaks of the calls for C.
-- Assumes nothing.
use mathlib.Core.Path.{◌≡◌, refl, sym}
use mathlib.Core.Bool.{Bool, true, false}
use mathlib.Core.List.{List, ◌∷◌}
use Prim.Native.Nat.{ℕ, ◌≤◌}
use native.Mathlib.Omega.{arith}
use lib.ListN.{length, drop}
use borrow.Author.Tests.{le-leb}
use Rattle.ir_records.specs.Outcome.{Outcome}
use Rattle.ir_records.specs.Outcome.{Accepted, Refused}
use Rattle.immediates_pass.specs.declared.Pass.{Pass}
use Rattle.immediates_pass.specs.Pass.{Tried}
use Rattle.immediates_pass.specs.Pass.{begin, PassStep, SetRange, Choose, Dispatch, tried}
use Rattle.immediates_pass.specs.History.{Calls, started, called, Dispatched}
use Rattle.immediates_pass.proofs.CallLaws.{refused_keeps, calls_dispatch}
use Rattle.doors_words.specs.Words.{pass_of, chosen_word, with_pass, kept_words, tried_in, with_tried}
use Rattle.doors.specs.PassCalls.{WordCalls, begun, then_set, then_chosen, then_dispatched}

-- ---- the words after a step
pub read_back : (words : List ℕ) (p : Pass) → 3 ≤ length words → pass_of (with_pass words p) ≡ p
unfolding with_pass
read_back words p h = rw (le-leb 3 (length words) h) (go p.set p.needed p.chosen)
  where
    go : (set needed : ℕ) (chosen : Bool) → pass_of (set ∷ needed ∷ chosen_word chosen ∷ drop 3 words) ≡ record { set = set; needed = needed; chosen = chosen }
    go set needed true = refl
    go set needed false = refl

pub step_words : (words : List ℕ) (step : PassStep) → 3 ≤ length words → pass_of (with_tried words (tried_in words step)) ≡ (tried (pass_of words) step).pass
unfolding with_tried tried_in
step_words words step h = rw (le-leb 3 (length words) h) (go (tried (pass_of words) step).outcome refl)
  where
    go : (o : Outcome) → (tried (pass_of words) step).outcome ≡ o
        → pass_of (kept_words o (with_pass words (tried (pass_of words) step).pass) words) ≡ (tried (pass_of words) step).pass
    go Accepted e = read_back words (tried (pass_of words) step).pass h
    go (Refused number ty member detail) e = sym (refused_keeps (pass_of words) step e)

-- they are three or more again
pass_long : (words : List ℕ) (p : Pass) → 3 ≤ length words → 3 ≤ length (with_pass words p)
unfolding with_pass
pass_long words p h = rw (le-leb 3 (length words) h) (omega arith)

step_long : (words : List ℕ) (r : Tried) → 3 ≤ length words → 3 ≤ length (with_tried words r)
unfolding with_tried
step_long words r h = go r.outcome
  where
    go : (o : Outcome) → 3 ≤ length (kept_words o (with_pass words r.pass) words)
    go Accepted = pass_long words r.pass h
    go (Refused number ty member detail) = h

-- ---- calls made one after the other
after_step : (earlier : List PassStep) (words : List ℕ) (step : PassStep) → (3 ≤ length words) × Calls earlier (pass_of words)
    → (3 ≤ length (with_tried words (tried_in words step))) × Calls (step ∷ earlier) (pass_of (with_tried words (tried_in words step)))
after_step earlier words step before =
    (step_long words (tried_in words step) before.0, rw (step_words words step before.0) (called (tried (pass_of words) step) before.1 refl))

pub words_calls : {history : List PassStep} {left : List ℕ} → WordCalls history left → (3 ≤ length left) × Calls history (pass_of left)
words_calls {history} {left} (begun lent h) = (pass_long lent begin h, started (read_back lent begin h))
words_calls {history} {left} (then_set {earlier} {words} offset size calls) = after_step earlier words (SetRange offset size) (words_calls calls)
words_calls {history} {left} (then_chosen {earlier} {words} c ts ms rows ty calls) =
    after_step earlier words (Choose c ts ms rows ty) (words_calls calls)
words_calls {history} {left} (then_dispatched {earlier} {words} calls) =
    let p = words_calls calls in (p.0, called (tried (pass_of words) Dispatch) p.1 refl)

-- 02's sentence of the call for C
pub words_dispatch : {history : List PassStep} {words : List ℕ} → WordCalls history words → Dispatched history (tried_in words Dispatch)
unfolding tried_in
words_dispatch {history} {words} calls =
    let p = words_calls calls in calls_dispatch p.1 (tried_in words Dispatch) (rw (le-leb 3 (length words) p.0) refl)
