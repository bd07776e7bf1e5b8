-- The tables that the reader of WGSL text fills: type and member records in the lent words; for each struct its name and its shape, and the names
-- of the members of the struct that is being read. A name is two positions in the text.
-- Assumes nothing.
use Rattle.std.specs.Prelude.{Bool, true, false, ◌&&◌, ◌||◌, List, [], ◌∷◌, ◌++◌, ℕ, ◌*◌, ◌/◌, min, leb, length, take, Some, None}
use Rattle.std.specs.Prelude as std
use Rattle.std.proofs.Math.Option.{Option, none, some}
use Rattle.ir_records.specs.Result.{pick}
use Rattle.ir_records.specs.Record.{type_words, member_words}
use Rattle.ir_records.specs.Fields.{most_types, most_members}
use Rattle.ir_records.specs.declared.Records as counts
use Rattle.program_words.specs.Words.{part}
use Rattle.program_words.specs.declared.Span.{Span}
use Rattle.wgsl_names.specs.Names.{same}
use Rattle.wgsl_placement.specs.declared.Shape.{Shape}
use Rattle.wgsl_tables.specs.declared.NamedShape.{NamedShape}

-- ---- records made so far, and their words
pub record Records : Type 0 where
  pub made : ℕ
  pub words : List ℕ

abbrev pub records_in : (width : ℕ) → List ℕ → (made : ℕ) → Records
records_in width words made = record { made = made; words = take (made * width) words }

-- how many whole records so many lent words have room for, at most as many as an arena may have
abbrev pub room_in : (types members : ℕ) → counts.Records
room_in types members = record { types = min (types / type_words) most_types; members = min (members / member_words) most_members }

-- ---- names
unfoldable pub is_one_of : List ℕ → List (List ℕ) → Bool
is_one_of w [] = false
is_one_of w (x ∷ xs) = same w x || is_one_of w xs

-- a name in the text; two positions that are none in it stand for the empty name
abbrev pub name_in : List ℕ → (start end : ℕ) → List ℕ
name_in s start end = pick (leb start end && leb end (length s)) (part s start end) []

-- the last one first
unfoldable pub names_in : List ℕ → List Span → List (List ℕ)
names_in s [] = []
names_in s (n ∷ ns) = names_in s ns ++ name_in s n.start n.end ∷ []

-- ---- structs
pub record Named : Type 0 where
  pub name : List ℕ
  pub shape : Shape

-- the last one first
unfoldable pub structs_in : List ℕ → List NamedShape → List Named
structs_in s [] = []
structs_in s (n ∷ ns) = structs_in s ns ++ record { name = name_in s n.name.start n.name.end; shape = n.shape } ∷ []

-- ---- the struct of a name
unfoldable pub lookup : List ℕ → List Named → Option Shape
lookup w [] = none
lookup w (n ∷ ns) = pick (same w n.name) (some n.shape) (lookup w ns)

-- what the code answers
abbrev pub shape_found : std.Option Shape → Option Shape
shape_found (Some e) = some e
shape_found None = none
