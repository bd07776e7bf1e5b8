-- The layout sheet: the bytes of struct i that the report counts, two words a type, and whether it counts them.
-- Assumes nothing.
use Rattle.std.specs.Prelude.{Bool, ◌&&◌, List, ℕ, ◌+◌, ◌*◌, eqb, get_or}
use Rattle.ir_rows.specs.Rows.{row_word}
use Rattle.valid_flags.specs.Flags.{bit, host_shareable_bit}

abbrev pub carried_in : (counts : List ℕ) (i : ℕ) → ℕ
carried_in counts i = get_or counts (i * 2) 0

abbrev pub wasted_in : (counts : List ℕ) (i : ℕ) → ℕ
wasted_in counts i = get_or counts (i * 2 + 1) 0

-- both make up the size of a host-shareable type. The report leaves zeros where it counts nothing (number 27)
abbrev pub is_counted : (rows counts : List ℕ) (i : ℕ) → Bool
is_counted rows counts i = eqb (carried_in counts i + wasted_in counts i) (row_word rows i 0) && bit (row_word rows i 2) host_shareable_bit
