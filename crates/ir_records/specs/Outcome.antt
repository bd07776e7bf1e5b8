-- 01, 'The refusal': the answer of an arena call, with number, type, member and detail of the first refusal.
-- Assumes nothing.
use Rattle.std.specs.Prelude.{ℕ}

pub data Outcome : Type 0 where
  Accepted : Outcome
  Refused : (number ty member detail : ℕ) → Outcome
