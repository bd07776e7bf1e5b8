-- The layout sheet: the names of structs and members, which are parts of the text or of the module's bytes. A table says where they stand, by type
-- and by member row.
-- Assumes nothing.
use Rattle.std.specs.Prelude.{◌≡◌, ℕ, ◌+◌, ◌&&◌, List, length, nat_le, slice_range, get_or, Option, None, Some, MatchOption}
use Rattle.std.specs.Borrow.{Bor}
use Rattle.ir_records.specs.Result.{pick}
use Rattle.ir_records.specs.Record.{type_word}
use Rattle.program_words.specs.declared.Span.{Span}
use Rattle.sheet_names.specs.declared.NameTable.{NameTable}

-- where the name of type i stands
abbrev pub type_place : (names : NameTable) (i : ℕ) → Option Span
type_place names i = get_or (names.types) i None

-- where the name of member j of struct i stands, which its row has
abbrev pub member_place : (names : NameTable) (types : List ℕ) (i j : ℕ) → Option Span
member_place names types i j = get_or (names.members) (type_word types i 1 + j) None

-- the bytes from a start up to an end; none where that is no part of the text
abbrev pub part_of : (text : List ℕ) (start end : ℕ) → Option (List ℕ)
part_of text start end = pick (nat_le start end && nat_le end (length text)) (Some (slice_range text start end)) None

-- the name that stands there
abbrev pub name_at : (text : List ℕ) → Option Span → Option (List ℕ)
name_at text None = None
name_at text (Some place) = part_of text (place.start) (place.end)

-- the name of type i
abbrev pub type_name : (text : List ℕ) (names : NameTable) (i : ℕ) → Option (List ℕ)
type_name text names i = name_at text (type_place names i)

-- the name of member j of struct i
abbrev pub member_name : (text : List ℕ) (names : NameTable) (types : List ℕ) (i j : ℕ) → Option (List ℕ)
member_name text names types i j = name_at text (member_place names types i j)

-- a function answers with this name
abbrev pub NameIs : Option (List ℕ) → Option (Bor (List ℕ)) → Type 0
NameIs name answer = MatchOption answer (name ≡ None) (λ x. name ≡ Some (x.now))
