-- Tests over the numbers below n: how many pass, and whether one does.
-- Assumes nothing.
use Rattle.std.specs.Prelude.{Bool, false, ◌||◌, ℕ, zero, suc, ◌+◌}
use Rattle.ir_records.specs.Result.{pick}

-- how many pass
unfoldable pub count : (ℕ → Bool) → ℕ → ℕ
count test zero = 0
count test (suc n) = count test n + pick (test n) 1 0

-- whether one passes
unfoldable pub some : (ℕ → Bool) → ℕ → Bool
some test zero = false
some test (suc n) = some test n || test n

-- the sum of their values
unfoldable pub sum : (ℕ → ℕ) → ℕ → ℕ
sum value zero = 0
sum value (suc n) = sum value n + value n
