-- 02, E10: what acceptance and flags read of a type of which three words are held: its size and its flags.
-- Assumes nothing.
use Rattle.std.specs.Prelude.{List, ℕ}
use Rattle.place_short_layout.specs.ShortRows.{short_word}

-- the first word of each type, and the third
abbrev pub short_sizes : List ℕ → ℕ → ℕ
short_sizes words k = short_word words k 0

abbrev pub short_flags : List ℕ → ℕ → ℕ
short_flags words k = short_word words k 2
