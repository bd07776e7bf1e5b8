-- Laws of the search: one step of it, and what the test of an order says.
-- Assumes nothing.
use mathlib.Core.Path.{◌≡◌, refl, sym, ◌∙◌}
use mathlib.Core.Bool.{Bool, true, false, ◌&&◌}
use mathlib.Core.List.{List}
use Prim.Native.Nat.{ℕ, ◌+◌, ◌-◌, ◌≤◌, ◌<◌, max}
use native.Mathlib.Decide.{ℕ_discrete}
use native.Mathlib.Omega.{arith}
use lib.Dec.{eqb, leb}
use borrow.Author.Tests.{leb-true, le-leb, eq-eqb, eqb-true}
use Rattle.std.specs.Prelude.{Option}
use Rattle.order_numbers.specs.Search.{first_from}
use Rattle.order_numbers.specs.Order.{member_at, bad_place, is_order, stays_last, next_try}
use Rattle.order_numbers.proofs.SearchLaws.{first_skip}
use Rattle.order_numbers.proofs.OrderLaws.{order_is, is-order, last_stays, stays-last}
use Rattle.order_numbers.proofs.SkipLaws.{next_none, next_order, next_least}
use Rattle.order_placement.specs.Placement.{span_of}
use Rattle.order_search.specs.Fitting.{fits, number_fits}
use Rattle.order_search.specs.FirstOrder.{Fits}

three : (a b c : Bool) → (a && b && c) ≡ true → (a ≡ true) × (b ≡ true) × (c ≡ true)
three true true c e = (refl, refl, e)
three true false c e = let z : ◌≡◌ {A = ℕ} 0 1 = cc in absurd (omega arith)
three false b c e = let z : ◌≡◌ {A = ℕ} 0 1 = cc in absurd (omega arith)

module _ (rows wanted : List ℕ) (n : ℕ) (last : Option ℕ) (span : ℕ) where
  -- ---- the test
  pub fits_is : (member : ℕ → ℕ) → fits rows wanted n last span member ≡ true → Fits rows wanted n last span member
  unfolding fits
  fits_is member e =
      let r = three (is_order n member) (stays_last n last member) (leb (span_of rows wanted n member) span) e in
      record {
        order = order_is n member r.0;
        stays = last_stays n member last r.1;
        within = leb-true (span_of rows wanted n member) span r.2;
      }

  pub is_fits : (member : ℕ → ℕ) → Fits rows wanted n last span member → fits rows wanted n last span member ≡ true
  unfolding fits
  is_fits member f = rw (is-order n member f.order, stays-last n member last f.stays, le-leb (span_of rows wanted n member) span f.within) refl

  -- ---- one step of the search, from a number with the next to try
  module _ (order next : ℕ) (is : next ≡ next_try n order (first_from (bad_place n (member_at n order)) n 0)) where
    -- it is an order that fits
    pub fits_here : (eqb next order && stays_last n last (member_at n order) && leb (span_of rows wanted n (member_at n order)) span) ≡ true
        → number_fits rows wanted n last span order ≡ true
    unfolding fits
    fits_here e =
        let r = three (eqb next order) (stays_last n last (member_at n order)) (leb (span_of rows wanted n (member_at n order)) span) e in
        rw (next_order n order (sym is ∙ eqb-true next order r.0), r.1, r.2) refl

    no_order : (i : ℕ) → is_order n (member_at n i) ≡ false → number_fits rows wanted n last span i ≡ false
    unfolding fits
    no_order i e = rw e refl

    -- none of those up to the next fits
    none_between : (eqb next order && stays_last n last (member_at n order) && leb (span_of rows wanted n (member_at n order)) span) ≡ false
        → (i : ℕ) → order ≤ i → i < max next (order + 1) → number_fits rows wanted n last span i ≡ false
    unfolding fits
    none_between e i least most = go (ℕ_discrete next order)
      where
        go : Dec (next ≡ order) → number_fits rows wanted n last span i ≡ false
        go (yes d) =
            let here : i ≡ order = omega arith in
            rw (here, next_order n order (sym is ∙ d)) (rw (eq-eqb next order d) at e)
        go (no d) = let below : i < next = omega (arith, d, next_least n order, is) in no_order i (next_none n order i least (rw is at below))

    pub search_on : (all : ℕ)
        → (eqb next order && stays_last n last (member_at n order) && leb (span_of rows wanted n (member_at n order)) span) ≡ false
        → first_from (number_fits rows wanted n last span) (all - order) order
        ≡ first_from (number_fits rows wanted n last span) (all - max next (order + 1)) (max next (order + 1))
    search_on all e = first_skip (number_fits rows wanted n last span) all order (max next (order + 1)) (omega arith) (none_between e)
