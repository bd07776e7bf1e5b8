-- Laws of a search: one step of it, what it finds, and numbers that may be left out.
-- Assumes nothing.
use mathlib.Core.Path.{◌≡◌, refl, sym, ap, ◌∙◌}
use mathlib.Core.Bool.{Bool, true, false, ◌||◌}
use Prim.Native.Nat.{ℕ, zero, suc, ◌+◌, ◌-◌, ◌≤◌, ◌<◌}
use native.Mathlib.Decide.{ℕ_discrete, dec_le}
use native.Mathlib.Omega.{arith}
use native.Mathlib.Numerals.{add-one}
use Rattle.ir_records.specs.Result.{pick}
use Rattle.std.specs.Prelude.{Option, Some, None}
use Rattle.std.specs.List.{find, list_any, range_with_len}
use Rattle.order_numbers.specs.Search.{first_from, is_found}

one_more : (n k : ℕ) → k < n → n - k ≡ suc (n - (k + 1))
one_more n k h = omega arith

module _ (f : ℕ → Bool) (n k : ℕ) where
  pub first_hit : k < n → f k ≡ true → first_from f (n - k) k ≡ Some k
  unfolding first_from
  first_hit h e = rw (one_more n k h, e)

  pub first_miss : k < n → f k ≡ false → first_from f (n - k) k ≡ first_from f (n - (k + 1)) (k + 1)
  unfolding first_from
  first_miss h e = rw (one_more n k h, e, add-one k)

  pub first_done : n ≤ k → first_from f (n - k) k ≡ None
  unfolding first_from
  first_done h = let z : n - k ≡ 0 = omega arith in rw z

-- what is found passes the test, and none before it does
pub first_least : (f : ℕ → Bool) (left k m : ℕ) → first_from f left k ≡ Some m → (f m ≡ true) × (k ≤ m) × (m < left + k) × ((i : ℕ) → k ≤ i → i < m → f i ≡ false)
unfolding first_from
first_least f zero k m e = let z : ◌≡◌ {A = ℕ} 0 1 = cc in absurd (omega arith)
first_least f (suc left) k m e = go (f k) refl e (first_least f left (suc k) m)
  where
    go : (b : Bool) → f k ≡ b → pick b (Some k) (first_from f left (suc k)) ≡ Some m
        → (first_from f left (suc k) ≡ Some m → (f m ≡ true) × (suc k ≤ m) × (m < left + suc k) × ((i : ℕ) → suc k ≤ i → i < m → f i ≡ false))
        → (f m ≡ true) × (k ≤ m) × (m < suc left + k) × ((i : ℕ) → k ≤ i → i < m → f i ≡ false)
    go true q d ih = let same : k ≡ m = cc in (rw (← same) q, omega arith, omega arith, λ i h l. absurd (omega arith))
    go false q d ih =
        let r = ih d in
        (r.0, omega (arith, r.1), omega (arith, r.2), λ i h l. below i h l r.3 (ℕ_discrete i k))
      where
        below : (i : ℕ) → k ≤ i → i < m → ((i : ℕ) → suc k ≤ i → i < m → f i ≡ false) → Dec (i ≡ k) → f i ≡ false
        below i h l ih (yes s) = rw s q
        below i h l ih (no s) = ih i (omega arith) l

-- where nothing is found, none passes
pub first_none : (f : ℕ → Bool) (left k : ℕ) → first_from f left k ≡ None → (i : ℕ) → k ≤ i → i < left + k → f i ≡ false
unfolding first_from
first_none f zero k e i h l = absurd (omega arith)
first_none f (suc left) k e i h l = go (f k) refl e (first_none f left (suc k))
  where
    go : (b : Bool) → f k ≡ b → pick b (Some k) (first_from f left (suc k)) ≡ None
        → (first_from f left (suc k) ≡ None → (i : ℕ) → suc k ≤ i → i < left + suc k → f i ≡ false) → f i ≡ false
    go true q d ih = let z : ◌≡◌ {A = ℕ} 0 1 = cc in absurd (omega arith)
    go false q d ih = at (ℕ_discrete i k)
      where
        at : Dec (i ≡ k) → f i ≡ false
        at (yes s) = rw s q
        at (no s) = ih d i (omega arith) (omega arith)

-- and the other way round
pub none_found : (f : ℕ → Bool) (left k : ℕ) → ((i : ℕ) → k ≤ i → i < left + k → f i ≡ false) → first_from f left k ≡ None
unfolding first_from
none_found f zero k h = refl
none_found f (suc left) k h = rw (h k (omega arith) (omega arith)) (none_found f left (suc k) (λ i a b. h i (omega arith) (omega arith)))

-- numbers of which none passes may be left out
module _ (f : ℕ → Bool) (n : ℕ) where
  skip_by : (d k : ℕ) → ((i : ℕ) → k ≤ i → i < k + d → f i ≡ false) → first_from f (n - k) k ≡ first_from f (n - (k + d)) (k + d)
  skip_by zero k h = let z : k + 0 ≡ k = omega arith in ap (λ (x : ℕ). first_from f (n - x) x) (sym z)
  skip_by (suc d) k h =
      let z : k + 1 + d ≡ k + suc d = omega arith in
      go (dec_le n k) (skip_by d (k + 1) (λ i a b. h i (omega arith) (omega arith)) ∙ ap (λ (x : ℕ). first_from f (n - x) x) z)
    where
      go : Dec (n ≤ k) → first_from f (n - (k + 1)) (k + 1) ≡ first_from f (n - (k + suc d)) (k + suc d) → first_from f (n - k) k ≡ first_from f (n - (k + suc d)) (k + suc d)
      go (yes past) ih = first_done f n k past ∙ sym (first_done f n (k + suc d) (omega arith))
      go (no before) ih = first_miss f n k (omega arith) (h k (omega arith) (omega arith)) ∙ ih

  pub first_skip : (k m : ℕ) → k ≤ m → ((i : ℕ) → k ≤ i → i < m → f i ≡ false) → first_from f (n - k) k ≡ first_from f (n - m) m
  first_skip k m h none =
      let z : k + (m - k) ≡ m = omega arith in
      skip_by (m - k) k (λ i a b. none i a (omega arith)) ∙ ap (λ (x : ℕ). first_from f (n - x) x) z

-- ---- the same as searches of the library over a range
pub range_find : (f : ℕ → Bool) (left k : ℕ) → find f (range_with_len k left) ≡ first_from f left k
unfolding first_from
range_find f zero k = refl
range_find f (suc left) k = by (f k) (ap (λ (i : ℕ). find f (range_with_len i left)) (add-one k) ∙ range_find f left (suc k))
  where
    by : (b : Bool) {x y : Option ℕ} → x ≡ y → pick b (Some k) x ≡ pick b (Some k) y
    by true e = refl
    by false e = e

pub range_any : (f : ℕ → Bool) (left k : ℕ) → list_any f (range_with_len k left) ≡ is_found (first_from f left k)
unfolding first_from
range_any f zero k = refl
range_any f (suc left) k = by (f k) (first_from f left (suc k)) (ap (λ (i : ℕ). list_any f (range_with_len i left)) (add-one k) ∙ range_any f left (suc k))
  where
    by : (b : Bool) {x : Bool} (r : Option ℕ) → x ≡ is_found r → (b || x) ≡ is_found (pick b (Some k) r)
    by true r e = refl
    by false r e = e
