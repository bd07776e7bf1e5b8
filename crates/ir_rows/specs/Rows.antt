-- 01, 'The result row': fourteen words for each type, in words that the caller lends.
-- Assumes nothing.
use Rattle.std.specs.Prelude.{ℕ, ◌+◌, ◌*◌, List, [], ◌∷◌, ◌++◌, get_or, take, drop, replicate}
use Rattle.ir_records.specs.Fields.{row_words}

-- word j of row k; 0 past the rows
abbrev pub row_word : List ℕ → ℕ → ℕ → ℕ
row_word rows k j = get_or rows (k * row_words + j) 0

-- the row of a type that has a layout and no judgement yet
abbrev pub layout_row : (size alignment : ℕ) → List ℕ
layout_row size alignment = size ∷ alignment ∷ 0 ∷ 0 ∷ 0 ∷ 0 ∷ 0 ∷ 0 ∷ 0 ∷ 0 ∷ 0 ∷ 0 ∷ 0 ∷ 0 ∷ []

-- the words with `width` of them, from `at` on, replaced
abbrev pub with_part : (width : ℕ) → List ℕ → (at : ℕ) → (part : List ℕ) → List ℕ
with_part width words at part = take at words ++ part ++ drop (at + width) words

-- the words with the first n zero
abbrev pub cleared : List ℕ → ℕ → List ℕ
cleared words n = replicate n 0 ++ drop n words
