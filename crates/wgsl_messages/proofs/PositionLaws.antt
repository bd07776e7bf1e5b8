-- Lines and columns, a byte further on; they are no more than the bytes before them and one.
-- Assumes nothing.
use mathlib.Core.Path.{◌≡◌}
use mathlib.Core.Bool.{Bool, true, false}
use mathlib.Core.List.{List}
use Prim.Native.Nat.{ℕ, zero, suc, ◌+◌, ◌≤◌}
use native.Mathlib.Omega.{arith}
use native.Mathlib.Numerals.{add-one}
use Rattle.ir_records.specs.Result.{pick}
use Rattle.wgsl_messages.specs.Position.{break_at, line_of, column_of}

pick_within : (b : Bool) (x y m : ℕ) → x ≤ m → y ≤ m → pick b x y ≤ m
pick_within true x y m h k = h
pick_within false x y m h k = k

module _ (s : List ℕ) where
  pub line_within : (i : ℕ) → line_of s i ≤ i + 1
  unfolding line_of
  line_within zero = omega arith
  line_within (suc i) =
      let h = line_within i in
      pick_within (break_at s i) (line_of s i + 1) (line_of s i) (suc i + 1) (omega (arith, h)) (omega (arith, h))

  pub column_within : (i : ℕ) → column_of s i ≤ i + 1
  unfolding column_of
  column_within zero = omega arith
  column_within (suc i) =
      let h = column_within i in
      pick_within (break_at s i) 1 (column_of s i + 1) (suc i + 1) (omega arith) (omega (arith, h))

  module _ (i : ℕ) where
    pub line_ends : break_at s i ≡ true → (line_of s (i + 1) ≡ line_of s i + 1) × (column_of s (i + 1) ≡ 1)
    unfolding line_of column_of
    line_ends e = (rw (add-one i, e), rw (add-one i, e))

    pub line_goes : break_at s i ≡ false → (line_of s (i + 1) ≡ line_of s i) × (column_of s (i + 1) ≡ column_of s i + 1)
    unfolding line_of column_of
    line_goes e = (rw (add-one i, e), rw (add-one i, e))
