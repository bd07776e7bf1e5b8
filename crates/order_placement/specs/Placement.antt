-- 02, E11: the WGSL placement of members in an order, by the layout's sizes and alignments. `wanted` has the given types, `rows` the rows of the arena;
-- `member` says which of the given types stands at a place. Numbers are not bounded here.
-- Assumes nothing.
use Rattle.std.specs.Prelude.{List, ℕ, zero, suc, ◌+◌, max, get_or}
use Rattle.ir_rows.specs.Rows.{row_word}
use Rattle.proc_alignment.specs.Alignment.{round_up}

module _ (rows wanted : List ℕ) where
  -- the layout of the given type m
  abbrev pub size_of : (m : ℕ) → ℕ
  size_of m = row_word rows (get_or wanted m 0) 0

  abbrev pub align_of : (m : ℕ) → ℕ
  align_of m = row_word rows (get_or wanted m 0) 1

  -- where the members of the first j places end: OffsetOfMember is the end of those before, rounded up to AlignOf the member
  unfoldable pub end_after : (member : ℕ → ℕ) (j : ℕ) → ℕ
  end_after member zero = 0
  end_after member (suc j) = round_up (align_of (member j)) (end_after member j) + size_of (member j)

  abbrev pub offset_of : (member : ℕ → ℕ) (j : ℕ) → ℕ
  offset_of member j = round_up (align_of (member j)) (end_after member j)

  -- AlignOf the struct: the largest of n
  unfoldable pub align_of_struct : (n : ℕ) → ℕ
  align_of_struct zero = 1
  align_of_struct (suc n) = max (align_of_struct n) (align_of n)

  -- SizeOf the struct
  unfoldable pub span_of : (n : ℕ) (member : ℕ → ℕ) → ℕ
  span_of n member = round_up (align_of_struct n) (end_after member n)
