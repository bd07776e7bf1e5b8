-- The layout sheet: the member that a byte of a struct belongs to.
-- Assumes nothing.
use Rattle.std.specs.Prelude.{Bool, ◌&&◌, List, ℕ, ◌+◌, leb, ltb, Option}
use Rattle.std.specs.List.{find, range_with_len}
use Rattle.ir_records.specs.Record.{member_type, member_offset}
use Rattle.ir_rows.specs.Rows.{row_word}

-- the byte lies at the offset of member j or after it, and below the offset plus the size of its type
abbrev pub holds : (part rows : List ℕ) (j byte : ℕ) → Bool
holds part rows j byte = leb (member_offset part j) byte && ltb byte (member_offset part j + row_word rows (member_type part j) 0)

-- the first of so many members that holds the byte; none where none does
abbrev pub holder_of : (part rows : List ℕ) (count byte : ℕ) → Option ℕ
holder_of part rows count byte = find (λ j. holds part rows j byte) (range_with_len 0 count)
