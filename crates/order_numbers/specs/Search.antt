-- The first number that passes a test.
-- Assumes nothing.
use Rattle.std.specs.Prelude.{Bool, true, false, ℕ, zero, suc}
use Rattle.ir_records.specs.Result.{pick}
use Rattle.std.specs.Prelude.{Option, Some, None}

-- among `left` numbers from k on
unfoldable pub first_from : (ℕ → Bool) → (left k : ℕ) → Option ℕ
first_from f zero k = None
first_from f (suc left) k = pick (f k) (Some k) (first_from f left (suc k))

abbrev pub is_found : Option ℕ → Bool
is_found (Some k) = true
is_found None = false

abbrev pub is_nothing : Option ℕ → Bool
is_nothing (Some k) = false
is_nothing None = true
