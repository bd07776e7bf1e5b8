-- Steps of a pass in three lent words: accepted, refused, and on fewer words.
-- Assumes nothing.
use mathlib.Core.Path.{◌≡◌, refl, ◌∙◌}
use mathlib.Core.List.{List, [], ◌∷◌}
use Prim.Native.Nat.{ℕ, ◌≤◌, ◌<◌}
use lib.ListN.{length}
use borrow.Author.Tests.{le-leb, lt-leb}
use Rattle.std.specs.Prelude.{Result, Ok, Err}
use Rattle.ir_records.specs.Refusal.{outcome_of}
use Rattle.ir_records.specs.Outcome.{Accepted, Refused}
use Rattle.ir_records.specs.declared.Refusal.{Refusal as WhyRefused}
use Rattle.immediates_pass.specs.declared.Pass.{Pass}
use Rattle.ir_records.specs.Refusal.{refusal}
use Rattle.ir_records.specs.declared.Fault.TheVariants.{TableLength}
use Rattle.immediates_ranges.specs.Answer as answer
use Rattle.immediates_pass.specs.declared.NotReady.{NotReady}
use Rattle.immediates_pass.specs.Pass.{PassStep, Choose, Dispatch, choose_answer, tried, tried_of, dispatched_of}
use Rattle.doors_words.specs.Words.{pass_of, with_pass, with_one, tried_in, with_tried}

module _ (words : List ℕ) (step : PassStep) where
  -- what a step that was answered leaves
  module _ (before : Pass) (long : 3 ≤ length words) (is : before ≡ pass_of words) where
    pub accepted : (after : Pass) → tried_of before (Ok after) ≡ tried before step → (Accepted ≡ (tried_in words step).outcome) × (with_pass words after ≡ with_tried words (tried_in words step))
    unfolding tried_in with_tried
    accepted after e = rw (le-leb 3 (length words) long, ← is, ← e) (refl, refl)

    pub refused : (why : WhyRefused) → tried_of before (Err why) ≡ tried before step
        → (outcome_of {A = Unit {0}} (Err why) ≡ (tried_in words step).outcome) × (words ≡ with_tried words (tried_in words step))
    unfolding tried_in with_tried
    refused why e = rw (le-leb 3 (length words) long, ← is, ← e) (refl, refl)

    pub answered : tried before step ≡ tried_in words step
    unfolding tried_in
    answered = rw (le-leb 3 (length words) long, is) refl

  pub short : length words < 3 → (Refused 1 0 0 0 ≡ (tried_in words step).outcome) × (words ≡ with_tried words (tried_in words step)) × (0 ≡ (tried_in words step).missing)
  unfolding tried_in with_tried
  short few = rw (lt-leb 3 (length words) few) (refl, refl, refl)

-- a word that is put twice
pub one_again : (words : List ℕ) (a b : ℕ) → with_one (with_one words a) b ≡ with_one words b
unfolding with_one
one_again [] a b = refl
one_again (w ∷ words) a b = refl

-- a choice that is refused with number 1
pub choice_refused : (before : Pass) (c : ℕ) (ts ms rows : List ℕ) (ty : ℕ) → choose_answer c ts ms rows ty ≡ answer.Refused 1 0 0 0
    → tried_of before (Err (refusal TableLength 0 0 0)) ≡ tried before (Choose c ts ms rows ty)
choice_refused before c ts ms rows ty e = rw e refl

-- what a dispatch leaves
pub dispatched_words : (words : List ℕ) (before : Pass) (r : Result (Unit {0}) NotReady) → 3 ≤ length words → before ≡ pass_of words → dispatched_of before r ≡ tried before Dispatch
    → dispatched_of before r ≡ tried_in words Dispatch
dispatched_words words before r long is e = e ∙ answered words Dispatch before long is
