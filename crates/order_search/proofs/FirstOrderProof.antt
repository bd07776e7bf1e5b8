-- The theorem: the first order that fits.
-- Assumes nothing.
use mathlib.Core.Path.{◌≡◌, sym, ap, ◌∙◌}
use mathlib.Core.Bool.{true, false}
use mathlib.Core.List.{List}
use mathlib.Core.Logic.{inl, inr}
use Prim.Native.Nat.{ℕ, ◌-◌, ◌^◌, ◌≤◌, ◌<◌}
use native.Mathlib.Decide.{ℕ_discrete, dec_le}
use native.Mathlib.Omega.{arith}
use Rattle.std.specs.Prelude.{Option}
use Rattle.order_numbers.specs.Order.{Same, AtOrBefore, member_at}
use Rattle.order_numbers.proofs.SearchLaws.{first_least, first_none}
use Rattle.order_numbers.proofs.NumberLaws.{number_of, number_below, number_digit, number_before}
use Rattle.order_placement.proofs.PlacementLaws.{span_same}
use Rattle.order_search.specs.Fitting.{number_fits, first_order}
use Rattle.order_search.specs.FirstOrder.{Fits, FirstOrder}
use Rattle.order_search.proofs.FittingLaws.{fits_is, is_fits}

module _ (rows wanted : List ℕ) (n : ℕ) (last : Option ℕ) (span : ℕ) (seven : n ≤ 7) where
  -- an order by its number
  module _ (member : ℕ → ℕ) (f : Fits rows wanted n last span member) where
    digits : (j : ℕ) → j < n → member j < 7
    digits j l = omega (arith, f.order.within j l)

    same : Same n (member_at n (number_of member n)) member
    same = number_digit member n digits

    -- what holds the same members fits as well
    pub number-fits : number_fits rows wanted n last span (number_of member n) ≡ true
    number-fits =
        is_fits rows wanted n last span (member_at n (number_of member n))
        (record {
          order = record {
            within = λ j l. rw (same j l) (f.order.within j l);
            apart = λ h j below l e. f.order.apart h j below l (sym (same h (omega arith)) ∙ e ∙ same j l);
          };
          stays = λ k q l. same (n - 1) (omega (arith, l)) ∙ f.stays k q l;
          within = rw (span_same rows wanted (member_at n (number_of member n)) member n same) f.within;
        })

    -- and comes at or after a number that is no larger
    pub number_first : (order : ℕ) → order ≤ number_of member n → AtOrBefore n (member_at n order) member
    number_first order h = go (ℕ_discrete order (number_of member n))
      where
        go : Dec (order ≡ number_of member n) → AtOrBefore n (member_at n order) member
        go (yes d) = inl (λ j l. ap (λ (x : ℕ). member_at n x j) d ∙ same j l)
        go (no d) =
            let r = number_before n order (number_of member n) (omega arith) (number_below member n digits) in
            inr (record {
              place = r.place;
              inside = r.inside;
              alike = λ h l. r.alike h l ∙ same h (omega (arith, r.inside));
              less = rw (sym (same r.place r.inside)) r.less;
            })

-- true is not false
clash {ℓ} : {A : Type ℓ} → true ≡ false → A
clash e = let z : ◌≡◌ {A = ℕ} 0 1 = cc in absurd (omega arith)

pub first-order : FirstOrder
unfolding first_order
first-order =
    record {
      found = λ rows wanted n last span order seven e.
          let r = first_least (number_fits rows wanted n last span) (7 ^ n) 0 order e in (
            fits_is rows wanted n last span (member_at n order) r.0,
            λ member f.
                number_first rows wanted n last span seven member f order (least rows wanted n last span order seven member f r.3),
          );
      none = λ rows wanted n last span seven e member f.
          let o = number_of member n in
          clash (sym (number-fits rows wanted n last span seven member f)
          ∙ first_none (number_fits rows wanted n last span) (7 ^ n) 0 e o (omega arith) (omega (arith, number_below member n (λ j l. omega (arith, seven, f.order.within j l)))));
    }
  where
    least : (rows wanted : List ℕ) (n : ℕ) (last : Option ℕ) (span order : ℕ) → n ≤ 7 → (member : ℕ → ℕ) → Fits rows wanted n last span member
        → ((i : ℕ) → 0 ≤ i → i < order → number_fits rows wanted n last span i ≡ false) → order ≤ number_of member n
    least rows wanted n last span order seven member f none = go (dec_le order (number_of member n))
      where
        go : Dec (order ≤ number_of member n) → order ≤ number_of member n
        go (yes d) = d
        go (no d) = clash (sym (number-fits rows wanted n last span seven member f) ∙ none (number_of member n) (omega arith) (omega arith))
