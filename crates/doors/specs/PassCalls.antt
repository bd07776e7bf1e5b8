-- The words of a pass after calls made one after the other, the latest first, each by its contract: begun on three words or more.
-- Assumes nothing.
use Rattle.std.specs.Prelude.{List, [], ◌∷◌, ℕ, ◌≤◌, length}
use Rattle.immediates_pass.specs.Pass.{begin, PassStep, SetRange, Choose, Dispatch}
use Rattle.doors_words.specs.Words.{with_pass, with_tried, tried_in}

pub data WordCalls : List PassStep → List ℕ → Type 0 where
  begun : (words : List ℕ) → 3 ≤ length words → WordCalls [] (with_pass words begin)
  then_set : {earlier : List PassStep} {words : List ℕ} (offset size : ℕ) → WordCalls earlier words
      → WordCalls (SetRange offset size ∷ earlier) (with_tried words (tried_in words (SetRange offset size)))
  then_chosen : {earlier : List PassStep} {words : List ℕ} (c : ℕ) (ts ms rows : List ℕ) (ty : ℕ) → WordCalls earlier words
      → WordCalls (Choose c ts ms rows ty ∷ earlier) (with_tried words (tried_in words (Choose c ts ms rows ty)))
  then_dispatched : {earlier : List PassStep} {words : List ℕ} → WordCalls earlier words → WordCalls (Dispatch ∷ earlier) words
