-- 01, 'The slot word': what a call for slots answers: the two masks of a part, or a refusal.
-- Assumes nothing.
use Rattle.std.specs.Prelude.{ℕ}

pub data SlotsAnswer : Type 0 where
  Slots : (touched partly : ℕ) → SlotsAnswer
  Refused : (number ty member detail : ℕ) → SlotsAnswer
