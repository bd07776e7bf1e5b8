-- The layout sheet: the first number that passes a test.
-- Assumes nothing.
use Rattle.std.specs.Prelude.{Bool, ℕ, ◌-◌, Option}
use Rattle.std.specs.List.{find, range_with_len}

-- among the numbers from a start on and before an end
unfoldable pub first_between : (ℕ → Bool) → (start end : ℕ) → Option ℕ
first_between test start end = find test (range_with_len start (end - start))
