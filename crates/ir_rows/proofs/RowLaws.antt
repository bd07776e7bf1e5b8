-- The lent words after a part of them was written, a row or any other width: what stands before, in and behind it. One more part.
-- Assumes nothing.
use mathlib.Core.Path.{◌≡◌, refl, sym, ap, ◌∙◌}
use mathlib.Core.List.{List, ◌++◌}
use Prim.Native.Nat.{ℕ, ◌+◌, ◌-◌, ◌*◌, ◌≤◌}
use native.Mathlib.Nat.{suc-mul}
use native.Mathlib.Omega.{arith}
use native.Mathlib.Numerals.{add-one}
use lib.ListN.{length, take, drop, length-append, length-drop}
use lib.Seq.{take_at, drop-append-add, drop-drop, length-take-le}
use Rattle.ir_records.specs.Table.{flat}
use Rattle.ir_rows.specs.Rows.{with_part}

module _ (width : ℕ) (words part : List ℕ) (at : ℕ) (whole : length part ≡ width) (room : at + width ≤ length words) where
  front : length (take at words ++ part) ≡ at + width
  front = omega (arith, length-append (take at words) part, length-take-le at words (omega arith))

  pub take_part : take (at + width) (with_part width words at part) ≡ take at words ++ part
  take_part = take_at (take at words ++ part) (drop (at + width) words) (at + width) front

  behind : (k : ℕ) → drop (at + width + k) (with_part width words at part) ≡ drop (at + width + k) words
  behind k =
      ap (λ (m : ℕ). drop (m + k) (with_part width words at part)) (sym front)
      ∙ drop-append-add (take at words ++ part) (drop (at + width) words) k
      ∙ drop-drop k (at + width) words

  pub drop_part : (m : ℕ) → at + width ≤ m → drop m (with_part width words at part) ≡ drop m words
  drop_part m h =
      let e : at + width + (m - (at + width)) ≡ m = omega arith in
      rw e at (behind (m - (at + width)))

  -- as many words as before
  pub part-length : length (with_part width words at part) ≡ length words
  part-length = omega (arith, front, length-append (take at words ++ part) (drop (at + width) words), length-drop (at + width) words)

-- the parts of i types and one more, written behind them
pub flat_more : (width : ℕ) (words : List ℕ) (part : ℕ → List ℕ) (i : ℕ) → take (i * width) words ≡ flat part i → length (part i) ≡ width
    → i * width + width ≤ length words → take ((i + 1) * width) (with_part width words (i * width) (part i)) ≡ flat part (i + 1)
flat_more width words part i e whole room =
    rw (add-one i, suc-mul i width, take_part width words (part i) (i * width) whole room, e) refl

-- lists that agree from a on agree from any later place on
pub drop_later : (xs ys : List ℕ) (a b : ℕ) → drop a xs ≡ drop a ys → a ≤ b → drop b xs ≡ drop b ys
drop_later xs ys a b e h =
    let split : a + (b - a) ≡ b = omega arith in
    rw split at (sym (drop-drop (b - a) a xs) ∙ ap (drop (b - a)) e ∙ drop-drop (b - a) a ys)
