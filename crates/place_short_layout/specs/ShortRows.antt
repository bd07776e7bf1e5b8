-- 02, E10: three words for each type, in words that the caller lends: size, alignment, flags.
-- Assumes nothing.
use Rattle.std.specs.Prelude.{List, [], ◌∷◌, ℕ, ◌+◌, ◌*◌, get_or}
use Rattle.proc_type_alignment.specs.declared.TypeLayout.{TypeLayout}

abbrev pub short_width : ℕ
short_width = 3

-- word j of the three of type k; 0 past them
abbrev pub short_word : List ℕ → (k j : ℕ) → ℕ
short_word words k j = get_or words (k * short_width + j) 0

abbrev pub three_words : (size alignment flags : ℕ) → List ℕ
three_words size alignment flags = size ∷ alignment ∷ flags ∷ []

-- the layouts in the first two words of each type
abbrev pub short_layouts : List ℕ → ℕ → TypeLayout
short_layouts words k = record { size = short_word words k 0; alignment = short_word words k 1 }
