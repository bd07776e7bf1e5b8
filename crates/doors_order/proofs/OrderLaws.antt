-- The call for an order by a word of no rule, and its answer as words.
-- Assumes nothing.
use mathlib.Core.Path.{◌≡◌, refl}
use mathlib.Core.Bool.{Bool, true, false}
use mathlib.Core.List.{List, ◌++◌}
use Prim.Native.Nat.{ℕ, ◌<◌}
use lib.Dec.{ltb, leb}
use lib.ListN.{length, drop}
use borrow.Author.Tests.{lt-leb, le-leb, ltb-true, ltb-false}
use Rattle.std.specs.Prelude.{Result, Ok, Err, IfOk}
use Rattle.ir_records.specs.Result.{pick}
use Rattle.ir_records.specs.declared.Refusal.{Refusal}
use Rattle.valid_type_info.specs.declared.UniformRule.{UniformRule}
use Rattle.valid_arena.specs.Arena.{arena_answer, arena_words}
use Rattle.valid_rule_word.specs.RuleWord.{capabilities_by}
use Rattle.valid_rule_word.proofs.WordLaws.{unknown}
use Rattle.order_call.specs.declared.OrderedStruct.{OrderedStruct}
use Rattle.order_call.specs.Answer.{order_answer_of}
use Rattle.order_call.specs.Call.{refused, room, ordered}
use Rattle.order_words.specs.Words.{found_words, with_found}
use Rattle.doors_words.specs.Words.{with_front}
use Rattle.doors_order.specs.Serving.{words_of}

-- the nine words stand at the front, where there is room for them
front_is : (found words : List ℕ) → length words ≡ 9 → with_front found words ≡ pick (ltb (length found) 9) found (words ++ drop 9 found)
front_is found words nine = rw nine (by (ltb (length found) 9) refl)
  where
    by : (t : Bool) → ltb (length found) 9 ≡ t → pick (leb 9 (length found)) (words ++ drop 9 found) found ≡ pick t found (words ++ drop 9 found)
    by true e = rw (lt-leb 9 (length found) (ltb-true (length found) 9 e)) refl
    by false e = rw (le-leb 9 (length found) (ltb-false (length found) 9 e)) refl

pub found_is : (found : List ℕ) (k : ℕ) (made : Result OrderedStruct Refusal) → IfOk made (λ o. o.order.n ≡ k) → with_front found (words_of made) ≡ with_found found k (order_answer_of made)
unfolding found_words with_found
found_is found k (Ok o) e = rw (← e) (front_is found (words_of (Ok o)) refl)
found_is found k (Err r) e = front_is found (words_of (Err r)) refl

module _ (word c : ℕ) (other : 1 < word) (rule : UniformRule) (types : List ℕ) (n : ℕ) (members : List ℕ) (m : ℕ) where
  pub order_unknown : (rows wanted : List ℕ) (span : ℕ) → ordered rule (capabilities_by word c) types n members m rows wanted span ≡ refused rule (capabilities_by word c) types n members m 1 rows
  unfolding ordered arena_answer arena_words
  order_unknown rows wanted span = rw (unknown word c other) (both (room (length types) (length members) (length rows) n m (length wanted)))
    where
      both : (b : Bool) → pick b (refused rule (capabilities_by word c) types n members m 1 rows) (refused rule (capabilities_by word c) types n members m 1 rows) ≡ refused rule (capabilities_by word c) types n members m 1 rows
      both true = refl
      both false = refl
