-- Numbers that share a bad place with one are no orders.
-- Assumes nothing.
use mathlib.Core.Path.{◌≡◌, refl, sym, ap, ◌∙◌}
use mathlib.Core.Bool.{Bool, true, false}
use Prim.Native.Nat.{ℕ, ◌+◌, ◌-◌, ◌*◌, ◌/◌, ◌%◌, ◌^◌, ◌≤◌, ◌<◌}
use native.Mathlib.Nat.{div-div-eq-div-mul, div-eq_of_lt-le, div-mul-le_self, lt-div-mul-add, one-le-pow, suc-mul, le_trans}
use native.Mathlib.Numerals.{add-one}
use native.Mathlib.Omega.{arith}
use lib.Pow.{pow-add}
use Rattle.std.specs.Prelude.{Option, Some, None}
use Rattle.order_numbers.specs.Search.{first_from, is_nothing}
use Rattle.order_numbers.specs.Order.{member_at, bad_place, is_order, after_place, next_try}
use Rattle.order_numbers.proofs.SearchLaws.{first_least}
use Rattle.order_numbers.proofs.OrderLaws.{good_place, place_good, bad_order}

-- one more than a quotient, multiplied
module _ (a p : ℕ) (positive : 0 < p) where
  above : (a / p + 1) * p ≡ a / p * p + p
  above = ap (λ (x : ℕ). x * p) (add-one (a / p)) ∙ suc-mul (a / p) p

  pub above_more : a < (a / p + 1) * p
  above_more = rw above (lt-div-mul-add positive)

-- a bad place by the members up to it
bad_shared : (n j : ℕ) (a b : ℕ → ℕ) → ((h : ℕ) → h ≤ j → a h ≡ b h) → bad_place n a j ≡ true → bad_place n b j ≡ true
bad_shared n j a b same e = go (bad_place n b j) refl
  where
    go : (t : Bool) → bad_place n b j ≡ t → bad_place n b j ≡ true
    go true q = q
    go false q =
        let r = good_place n b j q in
        let here = same j (omega arith) in
        let z : true ≡ false = sym e ∙ place_good n a j (rw here r.0) (λ h l w. r.1 h l (sym (same h (omega arith)) ∙ w ∙ here)) in
        let w : ◌≡◌ {A = ℕ} 0 1 = cc in
        absurd (omega arith)

module _ (n order : ℕ) where
  -- a digit by the quotient at a later place
  digit_by : (j h i : ℕ) → j < n → h ≤ j → member_at n i h ≡ i / 7 ^ (n - 1 - j) / 7 ^ (j - h) % 7
  unfolding member_at
  digit_by j h i l below =
      let z : n - 1 - h ≡ (n - 1 - j) + (j - h) = omega arith in
      ap (λ (k : ℕ). i / 7 ^ k % 7) z
      ∙ ap (λ (x : ℕ). i / x % 7) (pow-add 7 (n - 1 - j) (j - h))
      ∙ ap (λ (x : ℕ). x % 7) (sym (div-div-eq-div-mul i (7 ^ (n - 1 - j)) (7 ^ (j - h))))

  -- the members up to place j
  places_same : (j i : ℕ) → j < n → order ≤ i → i < after_place n order j → (h : ℕ) → h ≤ j → member_at n order h ≡ member_at n i h
  places_same j i l least most h below =
      let p = 7 ^ (n - 1 - j) in
      let e : i / p ≡ order / p = div-eq_of_lt-le p (le_trans (div-mul-le_self order p) least) most in
      digit_by j h order l below ∙ ap (λ (x : ℕ). x / 7 ^ (j - h) % 7) (sym e) ∙ sym (digit_by j h i l below)

  power_positive : (k : ℕ) → 0 < 7 ^ k
  power_positive k = one-le-pow k 7 (omega arith)

  -- none of the numbers that are left out is an order
  pub next_none : (i : ℕ) → order ≤ i → i < next_try n order (first_from (bad_place n (member_at n order)) n 0) → is_order n (member_at n i) ≡ false
  next_none i least = go (first_from (bad_place n (member_at n order)) n 0) refl
    where
      go : (r : Option ℕ) → first_from (bad_place n (member_at n order)) n 0 ≡ r → i < next_try n order r → is_order n (member_at n i) ≡ false
      go (Some j) q most =
          let f = first_least (bad_place n (member_at n order)) n 0 j q in
          let l : j < n = omega (arith, f.2) in
          bad_order n (member_at n i) j l (bad_shared n j (member_at n order) (member_at n i) (places_same j i l least most) f.0)
      go None q most = absurd (omega arith)

  -- where none is left out, the number is an order
  pub next_order : next_try n order (first_from (bad_place n (member_at n order)) n 0) ≡ order → is_order n (member_at n order) ≡ true
  unfolding is_order
  next_order = go (first_from (bad_place n (member_at n order)) n 0)
    where
      go : (r : Option ℕ) → next_try n order r ≡ order → is_nothing r ≡ true
      go (Some j) e = absurd (omega (arith, e, above_more order (7 ^ (n - 1 - j)) (power_positive (n - 1 - j))))
      go None e = refl

  -- and none before the number is tried
  pub next_least : order ≤ next_try n order (first_from (bad_place n (member_at n order)) n 0)
  next_least = go (first_from (bad_place n (member_at n order)) n 0)
    where
      go : (r : Option ℕ) → order ≤ next_try n order r
      go (Some j) = omega (arith, above_more order (7 ^ (n - 1 - j)) (power_positive (n - 1 - j)))
      go None = omega arith
