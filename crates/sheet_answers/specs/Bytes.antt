-- The layout sheet: the records at the start of a table, and the bytes that begin a module.
-- Assumes nothing.
use Rattle.std.specs.Prelude.{Bool, ◌||◌, List, [], ◌∷◌, ℕ, ◌*◌, eqb, take}
use Rattle.std.specs.List.{starts_with}

-- the words of so many records at the start of a table
abbrev pub made : (table : List ℕ) (records words : ℕ) → List ℕ
made table records words = take (records * words) table

-- bytes begin as a module does, in either order of a word's bytes
abbrev pub is_module : (bytes : List ℕ) → Bool
is_module bytes = starts_with eqb bytes (3 ∷ 2 ∷ 35 ∷ 7 ∷ []) || starts_with eqb bytes (7 ∷ 35 ∷ 2 ∷ 3 ∷ [])
