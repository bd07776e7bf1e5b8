-- The layout sheet: the width of the column of names, which is wide enough for all that are not too long.
-- Assumes nothing.
use Rattle.std.specs.Prelude.{List, ℕ, zero, suc, min, max}
use Rattle.sheet_names.specs.Names.{member_name}
use Rattle.sheet_names.specs.declared.NameTable.{NameTable}
use Rattle.sheet_types.specs.Types.{name_length}

-- its head is `member`
abbrev pub head_length : ℕ
head_length = 6

-- a longer name stands over the columns after it
abbrev pub most_name : ℕ
most_name = 40

-- the longest of the head and the names of the first so many members of struct i
unfoldable pub longest : (text : List ℕ) (names : NameTable) (types : List ℕ) (i count : ℕ) → ℕ
longest text names types i zero = head_length
longest text names types i (suc j) = max (longest text names types i j) (name_length (member_name text names types i j) j)

abbrev pub name_width : (text : List ℕ) (names : NameTable) (types : List ℕ) (i count : ℕ) → ℕ
name_width text names types i count = min (longest text names types i count) most_name
