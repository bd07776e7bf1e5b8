-- The types inside arrays: what is left gives what the whole gives.
-- Assumes nothing.
use mathlib.Core.Path.{◌≡◌}
use mathlib.Core.Bool.{true, false}
use mathlib.Core.List.{List}
use Prim.Native.Nat.{ℕ, suc, ◌+◌, ◌-◌, ◌≤◌, ◌<◌}
use native.Mathlib.Omega.{arith}
use lib.Dec.{eqb}
use Rattle.ir_records.specs.Record.{type_word, array_kind}
use Rattle.sheet_types.specs.Types.{inside_arrays}

one_more : (n k : ℕ) → k < n → n - k ≡ suc (n - (k + 1))
one_more n k h = omega arith

-- ---- the types inside arrays
module _ (types : List ℕ) (depth k t : ℕ) where
  pub arrays_step : k < depth → eqb (type_word types t 0) array_kind ≡ true → inside_arrays types (depth - k) t ≡ inside_arrays types (depth - (k + 1)) (type_word types t 1)
  unfolding inside_arrays
  arrays_step h e = rw (one_more depth k h, e)

  pub arrays_stop : k < depth → eqb (type_word types t 0) array_kind ≡ false → inside_arrays types (depth - k) t ≡ t
  unfolding inside_arrays
  arrays_stop h e = rw (one_more depth k h, e)

  pub arrays_done : depth ≤ k → inside_arrays types (depth - k) t ≡ t
  unfolding inside_arrays
  arrays_done h = let none : depth - k ≡ 0 = omega arith in rw none
