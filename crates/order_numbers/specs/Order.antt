-- 02, E11: orders of up to seven members. An order is told by the member at each place; the code carries it as a number to base 7 whose digits are
-- the member numbers, the first place's the highest.
-- Assumes nothing.
use Rattle.std.specs.Prelude.{◌≡◌, Bool, true, ◌||◌, List, [], ◌∷◌, ◌⊎◌, ℕ, ◌+◌, ◌-◌, ◌*◌, ◌/◌, ◌%◌, ◌^◌, ◌<◌, eqb, leb}
use Rattle.std.specs.Prelude.{Option, Some, None}
use Rattle.order_numbers.specs.Search.{first_from, is_found, is_nothing}

-- ---- what an order is
-- n places, each with a member of its own: `member` says which
pub record Order (n : ℕ) (member : ℕ → ℕ) : Type 0 where
  pub within : (j : ℕ) → j < n → member j < n
  pub apart : (h j : ℕ) → h < j → j < n → ¬ (member h ≡ member j)

-- the runtime array, member `last` where there is one, stays last
abbrev pub StaysLast : (n : ℕ) (last : Option ℕ) (member : ℕ → ℕ) → Type 0
StaysLast n last member = (k : ℕ) → last ≡ Some k → k < n → member (n - 1) ≡ k

-- the first place at which two orders differ, where the first has the lesser member number
pub record Before (n : ℕ) (a b : ℕ → ℕ) : Type 0 where
  pub place : ℕ
  pub inside : place < n
  pub alike : (h : ℕ) → h < place → a h ≡ b h
  pub less : a place < b place

abbrev pub Same : (n : ℕ) (a b : ℕ → ℕ) → Type 0
Same n a b = (j : ℕ) → j < n → a j ≡ b j

-- by member numbers
abbrev pub AtOrBefore : (n : ℕ) (a b : ℕ → ℕ) → Type 0
AtOrBefore n a b = Same n a b ⊎ Before n a b

-- ---- the number of an order
-- the powers of 7, as the code has them
abbrev pub powers : List ℕ
powers = 1 ∷ 7 ∷ 49 ∷ 343 ∷ 2401 ∷ 16807 ∷ 117649 ∷ 823543 ∷ []

-- the member at place j of an order of n
unfoldable pub member_at : (n order j : ℕ) → ℕ
member_at n order j = order / 7 ^ (n - 1 - j) % 7

-- ---- the tests
-- places h and j hold the same member
abbrev pub alike : (member : ℕ → ℕ) (j h : ℕ) → Bool
alike member j h = eqb (member h) (member j)

-- place j holds a member that stands at an earlier place too, or none
unfoldable pub bad_place : (n : ℕ) (member : ℕ → ℕ) (j : ℕ) → Bool
bad_place n member j = is_found (first_from (alike member j) j 0) || leb n (member j)

-- each place holds a member of its own
unfoldable pub is_order : (n : ℕ) (member : ℕ → ℕ) → Bool
is_order n member = is_nothing (first_from (bad_place n member) n 0)

abbrev pub stays_last : (n : ℕ) (last : Option ℕ) (member : ℕ → ℕ) → Bool
stays_last n (Some k) member = leb n k || eqb (member (n - 1)) k
stays_last n None member = true

-- ---- numbers that need no test
-- the least number above all that hold the same members up to place j
abbrev pub after_place : (n order j : ℕ) → ℕ
after_place n order j = (order / 7 ^ (n - 1 - j) + 1) * 7 ^ (n - 1 - j)

-- from a number on, with its first bad place: the next to try
abbrev pub next_try : (n order : ℕ) → Option ℕ → ℕ
next_try n order (Some j) = after_place n order j
next_try n order None = order
