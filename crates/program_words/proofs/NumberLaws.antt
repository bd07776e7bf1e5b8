-- Digits and decimal numbers, byte by byte.
-- Assumes nothing.
use mathlib.Core.Path.{◌≡◌}
use mathlib.Core.List.{List, [], ◌∷◌}
use Prim.Native.Nat.{ℕ, ◌+◌, ◌-◌, ◌*◌, ◌≤◌, ◌<◌, min}
use native.Mathlib.Numerals.{add-one}
use native.Mathlib.Omega.{arith}
use native.Mathlib.Decide.{dec_le}
use lib.ListN.{length, get_or, drop, drop_of_length-le}
use lib.Seq.{drop-cons}
use Rattle.program_words.specs.Number.{decimal}

module _ (s : List ℕ) (i : ℕ) where
  pub decimal_more : (n : ℕ) → i < length s → decimal n (drop i s) ≡ decimal (n * 10 + (get_or s i 0 - 48)) (drop (i + 1) s)
  unfolding decimal
  decimal_more n h = rw (add-one, drop-cons s i 0 h)

  pub decimal_done : (n : ℕ) → length s ≤ i → decimal n (drop i s) ≡ n
  unfolding decimal
  decimal_done n h = rw (drop_of_length-le s h)

decimal_grows : (n : ℕ) (s : List ℕ) → n ≤ decimal n s
unfolding decimal
decimal_grows n [] = omega arith
decimal_grows n (b ∷ s) = omega (arith, decimal_grows (n * 10 + (b - 48)) s)

-- a number may be cut down to m before the next digits, if the whole is cut down to m too
pub decimal_capped : (n m : ℕ) (s : List ℕ) → min (decimal (min n m) s) m ≡ min (decimal n s) m
decimal_capped n m s = by (dec_le n m)
  where
    by : Dec (n ≤ m) → min (decimal (min n m) s) m ≡ min (decimal n s) m
    by (yes h) = let e : min n m ≡ n = omega arith in rw e
    by (no h) = omega (arith, decimal_grows (min n m) s, decimal_grows n s)
