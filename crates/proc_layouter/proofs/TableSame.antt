-- Laws of two tables made by different steps: what agrees, value by value, up to a type.
-- Assumes nothing.
use mathlib.Core.Path.{◌≡◌, refl, sym, ◌∙◌, ap, fun_ext}
use Prim.Native.Nat.{ℕ, zero, suc, ◌≤◌, ◌<◌}
use native.Mathlib.Omega.{arith}
use lib.Dec.{eqb}
use Rattle.ir_records.specs.Result.{Result, err, ok, pick, value_or}
use Rattle.ir_records.specs.Table.{table, result_at, value_at}

-- two results that are ok alike have the same value, or none
pub value_same {ℓ} : {A : Type ℓ} (z : A) (o o' : Result A) → ((a : A) → o ≡ ok a → o' ≡ ok a) → ((a : A) → o' ≡ ok a → o ≡ ok a)
    → value_or z o ≡ value_or z o'
value_same z (ok a) o' f g = rw (f a refl) refl
value_same z (err n m d) (ok b) f g = let e = g b refl in let x : ◌≡◌ {A = ℕ} 0 1 = cc in absurd (omega arith)
value_same z (err n m d) (err n' m' d') f g = refl

-- both steps make the same of the values before
module _ {ℓ} {A : Type ℓ} (z : A) (f g : (ℕ → A) → ℕ → Result A) where
  -- two tables whose steps make the same values below n are the same up to n
  pub tables_agree : (n : ℕ) → ((i : ℕ) → i < n → value_or z (f (table z f i) i) ≡ value_or z (g (table z f i) i)) → table z f n ≡ table z g n
  tables_agree zero h = refl
  tables_agree (suc n) h =
      let q = tables_agree n (λ i l. h i (omega arith)) in
      fun_ext (λ k. rw (h n (omega arith)) (ap (λ (t : ℕ → A). pick (eqb k n) (value_or z (g t n)) (t k)) q))

  -- and so is the value of i, where the steps make the same values up to i
  pub values_agree : (i : ℕ) → ((k : ℕ) → k ≤ i → value_or z (f (table z f k) k) ≡ value_or z (g (table z f k) k)) → value_at z f i ≡ value_at z g i
  unfolding value_at
  values_agree i h = h i (omega arith) ∙ ap (λ (t : ℕ → A). value_or z (g t i)) (tables_agree i (λ k l. h k (omega arith)))

  -- a result of the second step over the first table is the second table's result
  pub results_agree : (i : ℕ) → ((k : ℕ) → k < i → value_or z (f (table z f k) k) ≡ value_or z (g (table z f k) k))
      → (a : A) → g (table z f i) i ≡ ok a → result_at z g i ≡ ok a
  unfolding result_at
  results_agree i h a e = ap (λ (t : ℕ → A). g t i) (sym (tables_agree i h)) ∙ e
