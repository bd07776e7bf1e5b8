-- Stores from the front of a list: the masks, and one word.
-- Assumes nothing.
use mathlib.Core.Path.{◌≡◌, refl}
use mathlib.Core.List.{List, [], ◌∷◌}
use Prim.Native.Nat.{ℕ, ◌<◌, ◌≤◌}
use native.Mathlib.Omega.{arith}
use lib.ListN.{length, set, drop}
use borrow.Author.Tests.{le-leb}
use Rattle.immediates_ranges.specs.Answer.{SlotsAnswer}
use Rattle.doors_words.specs.Words.{touched_of, partly_of, with_front, with_masks, with_one}

-- two, three or four words from the front on, where there are as many
pub four_stores : (l : List ℕ) (a b c d : ℕ) → 4 ≤ length l → set (set (set (set l 0 a) 1 b) 2 c) 3 d ≡ a ∷ b ∷ c ∷ d ∷ drop 4 l
four_stores [] a b c d h = absurd (omega arith)
four_stores (w ∷ []) a b c d h = absurd (omega arith)
four_stores (w ∷ x ∷ []) a b c d h = absurd (omega arith)
four_stores (w ∷ x ∷ y ∷ []) a b c d h = absurd (omega arith)
four_stores (w ∷ x ∷ y ∷ z ∷ l) a b c d h = refl

pub three_stores : (l : List ℕ) (a b c : ℕ) → 3 ≤ length l → set (set (set l 0 a) 1 b) 2 c ≡ a ∷ b ∷ c ∷ drop 3 l
three_stores [] a b c h = absurd (omega arith)
three_stores (w ∷ []) a b c h = absurd (omega arith)
three_stores (w ∷ x ∷ []) a b c h = absurd (omega arith)
three_stores (w ∷ x ∷ y ∷ l) a b c h = refl

pub two_stores : (l : List ℕ) (a b : ℕ) → 2 ≤ length l → set (set l 0 a) 1 b ≡ a ∷ b ∷ drop 2 l
two_stores [] a b h = absurd (omega arith)
two_stores (w ∷ []) a b h = absurd (omega arith)
two_stores (w ∷ x ∷ l) a b h = refl

-- the masks by how many words are lent: one, or none or more
pub one_mask : (l : List ℕ) (found : SlotsAnswer) → length l ≡ 1 → set l 0 (touched_of found) ≡ with_masks l found
unfolding with_masks
one_mask [] found h = absurd (omega arith)
one_mask (w ∷ []) found h = refl
one_mask (w ∷ x ∷ l) found h = absurd (omega arith)

pub other_masks : (l : List ℕ) (found : SlotsAnswer) → (length l ≡ 1 → ⊥) → with_front l (touched_of found ∷ partly_of found ∷ []) ≡ with_masks l found
unfolding with_masks
other_masks [] found h = refl
other_masks (w ∷ []) found h = absurd (h refl)
other_masks (w ∷ x ∷ l) found h = let few : 2 ≤ length (w ∷ x ∷ l) = omega arith in rw (le-leb 2 (length (w ∷ x ∷ l)) few) refl

-- one word, where there is one
pub no_word : (l : List ℕ) (a : ℕ) → length l < 1 → l ≡ with_one l a
unfolding with_one
no_word [] a h = refl
no_word (w ∷ l) a h = absurd (omega arith)

pub one_store : (l : List ℕ) (a : ℕ) → 1 ≤ length l → set l 0 a ≡ with_one l a
unfolding with_one
one_store [] a h = absurd (omega arith)
one_store (w ∷ l) a h = refl
