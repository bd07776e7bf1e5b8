-- The words of the places, one by one.
-- Assumes nothing.
use mathlib.Core.Path.{◌≡◌, refl}
use mathlib.Core.List.{List, [], ◌∷◌}
use Prim.Native.Nat.{ℕ, zero, suc, ◌+◌, ◌≤◌, ◌<◌}
use native.Mathlib.Omega.{arith}
use lib.Dec.{ltb}
use lib.ListN.{set}
use borrow.Author.Tests.{le-leb}
use Rattle.ir_records.specs.Result.{pick}
use Rattle.order_numbers.specs.Order.{member_at}
use Rattle.order_call.specs.Answer as answer
use Rattle.order_words.specs.Words.{place_word, found_words}

module _ (n number : ℕ) where
  -- the word of place j where k places are written
  abbrev pub written : (k j : ℕ) → ℕ
  written k j = pick (ltb j k) (member_at n number j) 0

  abbrev pub words_with : (ty span k : ℕ) → List ℕ
  words_with ty span k = ty ∷ span ∷ written k 0 ∷ written k 1 ∷ written k 2 ∷ written k 3 ∷ written k 4 ∷ written k 5 ∷ written k 6 ∷ []

  pub one_written : (ty span k : ℕ) → k < 7 → set (words_with ty span k) (k + 2) (member_at n number k) ≡ words_with ty span (k + 1)
  one_written ty span zero h = refl
  one_written ty span (suc zero) h = refl
  one_written ty span (suc (suc zero)) h = refl
  one_written ty span (suc (suc (suc zero))) h = refl
  one_written ty span (suc (suc (suc (suc zero)))) h = refl
  one_written ty span (suc (suc (suc (suc (suc zero))))) h = refl
  one_written ty span (suc (suc (suc (suc (suc (suc zero)))))) h = refl
  one_written ty span (suc (suc (suc (suc (suc (suc (suc k))))))) h = absurd (omega arith)

  pub all_written : (ty span : ℕ) → n ≤ 7 → words_with ty span n ≡ found_words n (answer.Found ty span number)
  unfolding place_word found_words
  all_written ty span h = rw (le-leb n 7 h) refl
