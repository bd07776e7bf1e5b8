-- 02, E11: the first order by member numbers whose placement has at most a wanted span.
-- Assumes nothing.
use Rattle.std.specs.Prelude.{Bool, ◌&&◌, List, ℕ, ◌^◌, leb}
use Rattle.std.specs.Prelude.{Option}
use Rattle.order_numbers.specs.Search.{first_from}
use Rattle.order_numbers.specs.Order.{member_at, is_order, stays_last}
use Rattle.order_placement.specs.Placement.{span_of}

-- n of the wanted types, of which `last` is the runtime array, if one is
module _ (rows wanted : List ℕ) (n : ℕ) (last : Option ℕ) (span : ℕ) where
  -- an allowed order whose placement has at most the span
  unfoldable pub fits : (member : ℕ → ℕ) → Bool
  fits member = is_order n member && stays_last n last member && leb (span_of rows wanted n member) span

  abbrev pub number_fits : (order : ℕ) → Bool
  number_fits order = fits (member_at n order)

  -- the first, as a number
  unfoldable pub first_order : Option ℕ
  first_order = first_from number_fits (7 ^ n) 0
