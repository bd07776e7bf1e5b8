-- Laws of tables made type by type, and of the first refusal.
-- Assumes nothing.
use mathlib.Core.Path.{◌≡◌, refl, sym, ◌∙◌, ap, subst, fun_ext}
use mathlib.Core.List.{List, ◌++◌}
use Prim.Native.Nat.{ℕ, zero, suc, ◌+◌, ◌*◌, ◌≤◌, ◌<◌}
use native.Mathlib.Nat.{not-suc-le-zero, zero-mul, suc-mul, mul-le-mul_right}
use native.Mathlib.Decide.{ℕ_discrete, le_ind}
use native.Mathlib.Omega.{arith}
use lib.Dec.{eqb}
use lib.ListN.{length, get_or, length-append, get_or-append}
use lib.Seq.{get_or-append-add}
use borrow.Author.Tests.{eq-eqb, ne_eqb}
use Rattle.ir_records.specs.Result.{Result, err, ok, pick}
use Rattle.ir_records.specs.Table.{table, result_at, value_at, outcome_at, also, first_refusal, flat}
use Rattle.ir_records.specs.Outcome.{Outcome}
use Rattle.ir_records.specs.Outcome.{Accepted, Refused}

module _ {ℓ} {A : Type ℓ} (z : A) (f : (ℕ → A) → ℕ → Result A) where
  pub table_value : (i k : ℕ) → k < i → table z f i k ≡ value_at z f k
  unfolding value_at
  table_value zero k h = absurd (not-suc-le-zero h)
  table_value (suc i) k h = go (λ l. table_value i k l) (ℕ_discrete k i)
    where
      go : (k < i → table z f i k ≡ value_at z f k) → Dec (k ≡ i) → table z f (suc i) k ≡ value_at z f k
      go ih (yes e) = rw (e, eq-eqb i i refl) refl
      go ih (no e) = rw (ne_eqb k i e) (ih (omega arith))

  pub table_above : (i k : ℕ) → i ≤ k → table z f i k ≡ z
  table_above zero k h = refl
  table_above (suc i) k h = let ne : k ≡ i → ⊥ = λ (e : k ≡ i). omega arith in rw (ne_eqb k i ne) (table_above i k (omega arith))

  pub value_ok : (i : ℕ) (a : A) → result_at z f i ≡ ok a → value_at z f i ≡ a
  unfolding value_at result_at
  value_ok i a e = rw e refl

  -- what each value below n has from those before it
  module _ {κ} (n : ℕ) (Q : A → Type κ)
      (step : (g : ℕ → A) (i : ℕ) → i < n → ((k : ℕ) → k < i → Q (g k)) → (a : A) → f g i ≡ ok a → Q a)
      (good : (i : ℕ) → i < n → (a : A) × (result_at z f i ≡ ok a)) where
    pub value_holds : (m : ℕ) → m ≤ n → (i : ℕ) → i < m → Q (value_at z f i)
    unfolding result_at
    value_holds zero l i h = absurd (not-suc-le-zero h)
    value_holds (suc m) l i h = go (λ k q. value_holds m (omega arith) k q) (ℕ_discrete i m)
      where
        go : ((k : ℕ) → k < m → Q (value_at z f k)) → Dec (i ≡ m) → Q (value_at z f i)
        go ih (no e) = ih i (omega arith)
        go ih (yes e) =
            let a = good m l in
            rw (e, value_ok m a.0 a.1)
            (step (table z f m) m l (λ k q. rw (table_value m k q) (ih k q)) a.0 a.1)

-- two tables whose values below n come out alike are alike up to n
module _ {ℓ} {A : Type ℓ} (z : A) (f g : (ℕ → A) → ℕ → Result A) (n : ℕ)
    (good : (i : ℕ) → i < n → (a : A) × (result_at z f i ≡ ok a))
    (alike : (i : ℕ) → i < n → (a : A) → f (table z f i) i ≡ ok a → g (table z f i) i ≡ ok a) where
  both : (i : ℕ) → i < n → table z f i ≡ table z g i → (a : A) × (result_at z f i ≡ ok a) × (result_at z g i ≡ ok a)
  unfolding result_at
  both i l q =
      let a = good i l in
      (a.0, a.1, subst (λ (t : ℕ → A). g t i ≡ ok a.0) q (alike i l a.0 a.1))

  pub same_table : (i : ℕ) → i ≤ n → table z f i ≡ table z g i
  unfolding result_at
  same_table zero l = refl
  same_table (suc i) l =
      let q = same_table i (omega arith) in
      let j = both i l q in
      fun_ext (λ k. rw (j.1, j.2) (ap (λ (t : ℕ → A). pick (eqb k i) j.0 (t k)) q))

  pub same_value : (i : ℕ) → i < n → value_at z f i ≡ value_at z g i
  same_value i l = let j = both i l (same_table i (omega arith)) in value_ok z f i j.0 j.1 ∙ sym (value_ok z g i j.0 j.2)

  pub same_good : (i : ℕ) → i < n → (a : A) × (result_at z g i ≡ ok a)
  same_good i l = let j = both i l (same_table i (omega arith)) in (j.0, j.2)

-- ---- the first refusal
pub also_accepted : (v w : Outcome) → also v w ≡ Accepted → (v ≡ Accepted) × (w ≡ Accepted)
also_accepted Accepted w e = (refl, e)
also_accepted (Refused n t m d) w e = let z : ◌≡◌ {A = ℕ} 0 1 = cc in absurd (omega arith)

pub outcome_accepted {ℓ} : {A : Type ℓ} (i : ℕ) (o : Result A) → outcome_at i o ≡ Accepted → (a : A) × (o ≡ ok a)
outcome_accepted i (err n m d) e = let z : ◌≡◌ {A = ℕ} 0 1 = cc in absurd (omega arith)
outcome_accepted i (ok a) e = (a, refl)

module _ {ℓ} {A : Type ℓ} (f : ℕ → Result A) where
  pub all_ok : (n : ℕ) → first_refusal f n ≡ Accepted → (i : ℕ) → i < n → (a : A) × (f i ≡ ok a)
  all_ok zero e i h = absurd (not-suc-le-zero h)
  all_ok (suc n) e i h = let p = also_accepted (first_refusal f n) (outcome_at n (f n)) e in go (all_ok n p.0) p.1 (ℕ_discrete i n)
    where
      go : ((k : ℕ) → k < n → (a : A) × (f k ≡ ok a)) → outcome_at n (f n) ≡ Accepted → Dec (i ≡ n) → (a : A) × (f i ≡ ok a)
      go ih p (yes q) = rw q (outcome_accepted n (f n) p)
      go ih p (no q) = ih i (omega arith)

  pub accepted_all : (n : ℕ) → ((i : ℕ) → i < n → (a : A) × (f i ≡ ok a)) → first_refusal f n ≡ Accepted
  accepted_all zero h = refl
  accepted_all (suc n) h = let q = h n (omega arith) in rw (accepted_all n (λ i l. h i (omega arith)), q.1) refl

  -- one more type, after i accepted ones
  pub one_more : (i : ℕ) → first_refusal f i ≡ Accepted → first_refusal f (suc i) ≡ outcome_at i (f i)
  one_more i e = rw e refl

  -- the refusal that is met first stays
  pub stays : (i : ℕ) → first_refusal f i ≡ Accepted → {number ty member detail : ℕ} → outcome_at i (f i) ≡ Refused number ty member detail
      → (n : ℕ) → i < n → first_refusal f n ≡ Refused number ty member detail
  stays i e {number} {ty} {member} {detail} r n h =
      le_ind (λ (m : ℕ). first_refusal f m ≡ Refused number ty member detail) (one_more i e ∙ r) (λ m k p. rw p refl) n h

-- ---- flat rows
module _ (row : ℕ → List ℕ) (width : ℕ) (wide : (i : ℕ) → length (row i) ≡ width) where
  pub flat_length : (i : ℕ) → length (flat row i) ≡ i * width
  flat_length zero = sym (zero-mul width)
  flat_length (suc i) = rw (length-append, flat_length i, wide i, suc-mul i width) refl

  pub flat_word : (n k j : ℕ) → k < n → j < width → get_or (flat row n) (k * width + j) 0 ≡ get_or (row k) j 0
  flat_word zero k j h g = absurd (not-suc-le-zero h)
  flat_word (suc n) k j h g = go (λ l. flat_word n k j l g) (ℕ_discrete k n)
    where
      go : (k < n → get_or (flat row n) (k * width + j) 0 ≡ get_or (row k) j 0) → Dec (k ≡ n) → get_or (flat row n ++ row n) (k * width + j) 0 ≡ get_or (row k) j 0
      go ih (yes q) =
          subst (λ (m : ℕ). get_or (flat row n ++ row n) (m * width + j) 0 ≡ get_or (row m) j 0) (sym q)
          (subst (λ (m : ℕ). get_or (flat row n ++ row n) (m + j) 0 ≡ get_or (row n) j 0) (flat_length n) (get_or-append-add (flat row n) (row n) j 0))
      go ih (no q) =
          let l : suc k ≤ n = omega arith in
          let below : k * width + j < length (flat row n) = rw (flat_length n) (omega (arith, mul-le-mul_right width l, suc-mul k width)) in
          get_or-append (flat row n) (row n) 0 (k * width + j) below ∙ ih (omega arith)
