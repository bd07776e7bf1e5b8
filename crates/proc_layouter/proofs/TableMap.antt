-- Laws of two tables of which the one's values are parts of the other's: where each step makes the part of what the other makes, the tables have the
-- same parts and refuse alike.
-- Assumes nothing.
use mathlib.Core.Path.{◌≡◌, refl, ◌∙◌, ap, fun_ext}
use mathlib.Core.Bool.{Bool, true, false}
use Prim.Native.Nat.{ℕ, zero, suc}
use lib.Dec.{eqb}
use Rattle.ir_records.specs.Result.{Result, err, ok, pick, value_or, and_then}
use Rattle.ir_records.specs.Table.{table, result_at, value_at, outcome_at, first_refusal}

module _ {ℓ κ} {A : Type ℓ} {B : Type κ} (part : A → B) where
  -- the part of a result
  abbrev part_of : Result A → Result B
  part_of o = and_then o (λ a. ok (part a))

  part_pick : (b : Bool) (x y : A) → part (pick b x y) ≡ pick b (part x) (part y)
  part_pick true x y = refl
  part_pick false x y = refl

  part_value : (z : A) (o : Result A) → part (value_or z o) ≡ value_or (part z) (part_of o)
  part_value z (ok a) = refl
  part_value z (err n m d) = refl

  part_outcome : (i : ℕ) (o : Result A) → outcome_at i (part_of o) ≡ outcome_at i o
  part_outcome i (ok a) = refl
  part_outcome i (err n m d) = refl

  module _ (z : A) (f : (ℕ → A) → ℕ → Result A) (g : (ℕ → B) → ℕ → Result B)
      (parts : (t : ℕ → A) (i : ℕ) → part_of (f t i) ≡ g (λ k. part (t k)) i) where
    part_table : (i k : ℕ) → part (table z f i k) ≡ table (part z) g i k
    part_table zero k = refl
    part_table (suc i) k =
        let before : (λ m. part (table z f i m)) ≡ table (part z) g i = fun_ext (λ m. part_table i m) in
        part_pick (eqb k i) (value_or z (f (table z f i) i)) (table z f i k)
        ∙ rw (part_value z (f (table z f i) i), parts (table z f i) i, part_table i k) (ap (λ (t : ℕ → B). pick (eqb k i) (value_or (part z) (g t i)) (table (part z) g i k)) before)

    -- the result for i has the part, or the refusal
    pub part_result : (i : ℕ) → part_of (result_at z f i) ≡ result_at (part z) g i
    unfolding result_at
    part_result i = parts (table z f i) i ∙ ap (λ (t : ℕ → B). g t i) (fun_ext (λ m. part_table i m))

    -- its value has the part
    pub part_value_at : (i : ℕ) → part (value_at z f i) ≡ value_at (part z) g i
    unfolding value_at
    part_value_at i =
        part_value z (f (table z f i) i)
        ∙ ap (value_or (part z)) (parts (table z f i) i ∙ ap (λ (t : ℕ → B). g t i) (fun_ext (λ m. part_table i m)))

    -- among n types the first refusal is the same
    pub part_refusal : (n : ℕ) → first_refusal (result_at z f) n ≡ first_refusal (result_at (part z) g) n
    part_refusal zero = refl
    part_refusal (suc n) = rw (part_refusal n, ← part_result n, part_outcome n (result_at z f n)) refl
