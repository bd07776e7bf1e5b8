-- The tests say what an order is.
-- Assumes nothing.
use mathlib.Core.Path.{◌≡◌, refl, sym, ◌∙◌}
use mathlib.Core.Bool.{Bool, true, false, ◌||◌}
use Prim.Native.Nat.{ℕ, ◌-◌, ◌≤◌, ◌<◌}
use native.Mathlib.Decide.{dec_le}
use native.Mathlib.Omega.{arith}
use lib.Dec.{eqb, leb}
use borrow.Author.Tests.{leb-false, lt-leb, le-leb, eqb-true, eqb-false, eq-eqb, ne_eqb}
use Rattle.std.specs.Prelude.{Option, Some, None}
use Rattle.order_numbers.specs.Search.{first_from, is_found, is_nothing}
use Rattle.order_numbers.specs.Order.{Order, StaysLast, alike, bad_place, is_order, stays_last}
use Rattle.order_numbers.proofs.SearchLaws.{first_none, none_found}

nothing_is : (r : Option ℕ) → is_nothing r ≡ true → r ≡ None
nothing_is (Some k) e = let z : ◌≡◌ {A = ℕ} 0 1 = cc in absurd (omega arith)
nothing_is None e = refl

not_found : (r : Option ℕ) → is_found r ≡ false → r ≡ None
not_found (Some k) e = let z : ◌≡◌ {A = ℕ} 0 1 = cc in absurd (omega arith)
not_found None e = refl

neither : (a b : Bool) → (a || b) ≡ false → (a ≡ false) × (b ≡ false)
neither true b e = let z : ◌≡◌ {A = ℕ} 0 1 = cc in absurd (omega arith)
neither false b e = (refl, e)

module _ (n : ℕ) (member : ℕ → ℕ) where
  -- a place that is not bad
  pub good_place : (j : ℕ) → bad_place n member j ≡ false → (member j < n) × ((h : ℕ) → h < j → ¬ (member h ≡ member j))
  unfolding bad_place
  good_place j e =
      let r = neither (is_found (first_from (alike member j) j 0)) (leb n (member j)) e in
      let none = first_none (alike member j) j 0 (not_found (first_from (alike member j) j 0) r.0) in
      (leb-false n (member j) r.1, λ h l. eqb-false (member h) (member j) (none h (omega arith) (omega arith)))

  pub order_is : is_order n member ≡ true → Order n member
  unfolding is_order
  order_is e =
      let good = first_none (bad_place n member) n 0 (nothing_is (first_from (bad_place n member) n 0) e) in
      record {
        within = λ j l. (good_place j (good j (omega arith) (omega arith))).0;
        apart = λ h j below l. (good_place j (good j (omega arith) (omega arith))).1 h below;
      }

  -- and the other way round
  pub place_good : (j : ℕ) → member j < n → ((h : ℕ) → h < j → ¬ (member h ≡ member j)) → bad_place n member j ≡ false
  unfolding bad_place
  place_good j l apart =
      let none = none_found (alike member j) j 0 (λ h a b. ne_eqb (member h) (member j) (apart h (omega arith))) in
      rw (none, lt-leb n (member j) l) refl

  -- no order has a bad place
  pub bad_order : (j : ℕ) → j < n → bad_place n member j ≡ true → is_order n member ≡ false
  bad_order j l e = go (is_order n member) refl
    where
      go : (b : Bool) → is_order n member ≡ b → is_order n member ≡ false
      go true q =
          let o = order_is q in
          let z : true ≡ false = sym e ∙ place_good j (o.within j l) (λ h below. o.apart h j below l) in
          let w : ◌≡◌ {A = ℕ} 0 1 = cc in
          absurd (omega arith)
      go false q = q

  pub is-order : Order n member → is_order n member ≡ true
  unfolding is_order
  is-order o = rw (none_found (bad_place n member) n 0 (λ j a b. place_good j (o.within j (omega arith)) (λ h l. o.apart h j l (omega arith)))) refl

  -- the runtime array
  pub last_stays : (last : Option ℕ) → stays_last n last member ≡ true → StaysLast n last member
  last_stays (Some k) e j q l =
      let same : k ≡ j = cc in
      let below : k < n = rw same l in
      eqb-true (member (n - 1)) k (rw (lt-leb n k below) at e) ∙ same
  last_stays None e j q l = let z : ◌≡◌ {A = ℕ} 0 1 = cc in absurd (omega arith)

  pub stays-last : (last : Option ℕ) → StaysLast n last member → stays_last n last member ≡ true
  stays-last (Some k) s = go (dec_le n k)
    where
      go : Dec (n ≤ k) → (leb n k || eqb (member (n - 1)) k) ≡ true
      go (yes h) = rw (le-leb n k h) refl
      go (no h) = rw (lt-leb n k (omega arith)) (eq-eqb (member (n - 1)) k (s k refl (omega arith)))
  stays-last None s = refl
