-- The layout sheet: what the words of a struct's row let a host do with it.
-- Assumes nothing.
use Rattle.std.specs.Prelude.{ℕ, Bool, ◌&&◌, List, ◌==◌}
use Rattle.valid_flags.specs.Flags.{bit, sized_bit, host_shareable_bit}
use Rattle.ir_rows.specs.Rows.{row_word}

-- it may stand in immediates: it is host-shareable and sized, and its immediates word is 0
abbrev pub may_be_immediate : (rows : List ℕ) → ℕ → Bool
may_be_immediate rows i = bit (row_word rows i 2) host_shareable_bit && bit (row_word rows i 2) sized_bit && row_word rows i 13 == 0

-- a host may fill a storage buffer with it: it is host-shareable, and the code of its storage verdict, word 8, is 0
abbrev pub is_usable : (rows : List ℕ) → ℕ → Bool
is_usable rows i = bit (row_word rows i 2) host_shareable_bit && row_word rows i 8 == 0
