-- Laws of placement: orders that hold the same members measure the same, and no offset is past the span where alignments are positive.
-- Assumes nothing.
use mathlib.Core.Path.{◌≡◌, refl, ap, ◌∙◌}
use mathlib.Core.List.{List}
use Prim.Native.Nat.{ℕ, zero, suc, ◌+◌, ◌≤◌, ◌<◌}
use native.Mathlib.Nat.{le_refl, le_trans}
use native.Mathlib.Decide.{ℕ_discrete}
use native.Mathlib.Omega.{arith}
use native.Mathlib.Numerals.{add-one}
use Rattle.std.specs.Prelude.{max}
use Rattle.std.specs.List.{fold, range_with_len}
use Rattle.proc_alignment.specs.Alignment.{round_up}
use Rattle.proc_alignment.proofs.RoundLaws.{round_up_next}
use Rattle.order_numbers.specs.Order.{Same}
use Rattle.order_placement.specs.Placement.{align_of, end_after, offset_of, align_of_struct, span_of}

module _ (rows wanted : List ℕ) where
  -- ---- the same members
  end_same : (a b : ℕ → ℕ) (n : ℕ) → Same n a b → end_after rows wanted a n ≡ end_after rows wanted b n
  unfolding end_after
  end_same a b zero s = refl
  end_same a b (suc n) s =
      let before = end_same a b n (λ j l. s j (omega arith)) in
      rw (before, s n (omega arith)) refl

  pub span_same : (a b : ℕ → ℕ) (n : ℕ) → Same n a b → span_of rows wanted n a ≡ span_of rows wanted n b
  unfolding span_of
  span_same a b n s = ap (round_up (align_of_struct rows wanted n)) (end_same a b n s)

  -- ---- the greatest alignment of a range, from the front
  fold_from : (n k : ℕ) → fold (λ most m. max most (align_of rows wanted m)) (align_of_struct rows wanted k) (range_with_len k n) ≡ align_of_struct rows wanted (n + k)
  unfolding align_of_struct
  fold_from zero k = let none : k ≡ 0 + k = omega arith in ap (align_of_struct rows wanted) none
  fold_from (suc n) k =
      let next : fold (λ most m. max most (align_of rows wanted m)) (align_of_struct rows wanted (suc k)) (range_with_len (suc k) n) ≡ align_of_struct rows wanted (n + suc k) = fold_from n (suc k) in
      let sum : n + suc k ≡ suc n + k = omega arith in
      ap (λ (i : ℕ). fold (λ most m. max most (align_of rows wanted m)) (align_of_struct rows wanted (suc k)) (range_with_len i n)) (add-one k) ∙ next ∙ ap (align_of_struct rows wanted) sum

  pub fold_alignments : (n : ℕ) → fold (λ most m. max most (align_of rows wanted m)) 1 (range_with_len 0 n) ≡ align_of_struct rows wanted n
  unfolding align_of_struct
  fold_alignments n = let all : n + 0 ≡ n = omega arith in fold_from n 0 ∙ ap (align_of_struct rows wanted) all

  -- ---- positive alignments
  align_positive : (n : ℕ) → 1 ≤ align_of_struct rows wanted n
  unfolding align_of_struct
  align_positive zero = le_refl 1
  align_positive (suc n) = omega (arith, align_positive n)

  module _ (member : ℕ → ℕ) (n : ℕ) (positive : (j : ℕ) → j < n → 1 ≤ align_of rows wanted (member j)) where
    offset-end : (j : ℕ) → offset_of rows wanted member j ≤ end_after rows wanted member (suc j)
    unfolding end_after
    offset-end j = omega arith

    end_more : (j : ℕ) → j < n → end_after rows wanted member j ≤ end_after rows wanted member (suc j)
    end_more j l = le_trans (round_up_next (align_of rows wanted (member j)) (end_after rows wanted member j) (positive j l)).0 (offset-end j)

    end_later : (m j : ℕ) → j ≤ m → m ≤ n → end_after rows wanted member j ≤ end_after rows wanted member m
    end_later zero j h l = let z : j ≡ 0 = omega arith in rw z (le_refl (end_after rows wanted member 0))
    end_later (suc m) j h l = go (ℕ_discrete j (suc m)) (λ k. end_later m j k (omega arith))
      where
        go : Dec (j ≡ suc m) → (j ≤ m → end_after rows wanted member j ≤ end_after rows wanted member m) → end_after rows wanted member j ≤ end_after rows wanted member (suc m)
        go (yes d) ih = rw d (le_refl (end_after rows wanted member (suc m)))
        go (no d) ih = le_trans (ih (omega arith)) (end_more m (omega arith))

    -- no offset is past the span
    pub offset-within : (j : ℕ) → j < n → offset_of rows wanted member j ≤ span_of rows wanted n member
    unfolding span_of
    offset-within j l =
        le_trans (offset-end j)
        (le_trans (end_later n (suc j) (omega arith) (le_refl n))
        (round_up_next (align_of_struct rows wanted n) (end_after rows wanted member n) (align_positive n)).0)
