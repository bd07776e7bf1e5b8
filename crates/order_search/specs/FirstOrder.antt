-- 02, E11: what is found is an allowed order that fits, and every allowed order that fits comes at or after it; where none is found, none fits.
-- Orders are told by the member at each place: no number stands in what is said of them.
-- Assumes nothing.
use Rattle.std.specs.Prelude.{◌≡◌, List, ℕ, ◌≤◌}
use Rattle.std.specs.Prelude.{Option, Some, None}
use Rattle.order_numbers.specs.Order.{Order, StaysLast, AtOrBefore, member_at}
use Rattle.order_placement.specs.Placement.{span_of}
use Rattle.order_search.specs.Fitting.{first_order}

-- each place holds a member of its own, the runtime array stands last, and the placement has at most the span
pub record Fits (rows wanted : List ℕ) (n : ℕ) (last : Option ℕ) (span : ℕ) (member : ℕ → ℕ) : Type 0 where
  pub order : Order n member
  pub stays : StaysLast n last member
  pub within : span_of rows wanted n member ≤ span

pub record FirstOrder : Type 0 where
  pub found : (rows wanted : List ℕ) (n : ℕ) (last : Option ℕ) (span order : ℕ) → n ≤ 7 → first_order rows wanted n last span ≡ Some order
      → Fits rows wanted n last span (member_at n order)
      × ((member : ℕ → ℕ) → Fits rows wanted n last span member → AtOrBefore n (member_at n order) member)
  pub none : (rows wanted : List ℕ) (n : ℕ) (last : Option ℕ) (span : ℕ) → n ≤ 7 → first_order rows wanted n last span ≡ None
      → (member : ℕ → ℕ) → ¬ Fits rows wanted n last span member
