-- 02, E11: the answer for an order as words.
-- Assumes nothing.
use Rattle.std.specs.Prelude.{◌&&◌, List, [], ◌∷◌, ◌++◌, ℕ, leb, ltb, length, drop}
use Rattle.ir_records.specs.Result.{pick}
use Rattle.ir_records.specs.Outcome.{Outcome}
use Rattle.ir_records.specs.Outcome as outcome
use Rattle.order_numbers.specs.Order.{member_at}
use Rattle.order_call.specs.Answer.{OrderAnswer}
use Rattle.order_call.specs.Answer as answer

abbrev pub order_outcome : OrderAnswer → Outcome
order_outcome (answer.Found ty span order) = outcome.Accepted
order_outcome (answer.Refused number ty member detail) = outcome.Refused number ty member detail

-- the member at place j of an order of k; 0 for a place that it has not
unfoldable pub place_word : (k order j : ℕ) → ℕ
place_word k order j = pick (leb k 7 && ltb j k) (member_at k order j) 0

-- the struct's type number and its span, then a word for each of seven places; zeros for a refusal
unfoldable pub found_words : (k : ℕ) → OrderAnswer → List ℕ
found_words k (answer.Found ty span order) =
    ty ∷ span ∷ place_word k order 0 ∷ place_word k order 1 ∷ place_word k order 2 ∷ place_word k order 3 ∷ place_word k order 4 ∷ place_word k order 5
    ∷ place_word k order 6 ∷ []
found_words k (answer.Refused number ty member detail) = 0 ∷ 0 ∷ 0 ∷ 0 ∷ 0 ∷ 0 ∷ 0 ∷ 0 ∷ 0 ∷ []

-- a shorter buffer is left as it was
unfoldable pub with_found : (found : List ℕ) (k : ℕ) → OrderAnswer → List ℕ
with_found found k a = pick (ltb (length found) 9) found (found_words k a ++ drop 9 found)
