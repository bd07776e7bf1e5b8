-- The layout sheet: where the names of the structs and of the members of a module stand in its bytes, and where its types stand.
-- Assumes nothing.
use Rattle.std.specs.Prelude.{Bool, false, ◌&&◌, List, [], ◌∷◌, ℕ, ◌+◌, ◌*◌, eqb, ltb, length, get_or, set, replicate, Option, None, Some}
use Rattle.std.specs.List.{position_or_len, filter}
use Rattle.ir_records.specs.Result.{pick}
use Rattle.ir_records.specs.Record.{type_word, struct_kind}
use Rattle.program_words.specs.declared.Span.{Span}
use Rattle.spirv_words.specs.Module.{header_words, word_count, word, opcode, between, is_read}
use Rattle.sheet_names.specs.Names.{part_of}
use Rattle.sheet_names.specs.Search.{first_between}
use Rattle.sheet_names.specs.declared.NameTable.{NameTable}
use Rattle.sheet_names.specs.declared.Module.{Module}

-- ---- instructions
-- where all instructions stand
abbrev pub all_instructions : (words : List ℕ) → List ℕ
all_instructions words = between words header_words (length words)

-- where those stand that are read as types, in their order: the k-th of them gives type k
abbrev pub type_instructions : (words : List ℕ) → List ℕ
type_instructions words = filter (λ at. is_read (opcode words at)) (all_instructions words)

-- ---- what an instruction names
-- the instruction of type i gives this id
abbrev pub gives_id : (words : List ℕ) (id : ℕ) → (place : Option ℕ) → Bool
gives_id words id None = false
gives_id words id (Some at) = eqb (word words at 1) id

-- the type that an id stands for
abbrev pub type_of : (words : List ℕ) (places : List (Option ℕ)) (id : ℕ) → Option ℕ
type_of words places id = first_between (λ i. gives_id words id (get_or places i None)) 0 1024

-- a string up to a byte 0, which starts at a byte; none where it has no word
abbrev pub string_in : (start : ℕ) → (words : Option (List ℕ)) → Option Span
string_in start None = None
string_in start (Some words) =
    pick (eqb (length words) 0) None (Some (record { start = start; end = start + position_or_len (λ b. eqb b 0) words }))

-- the string of an instruction from its word k on; a word has four bytes
abbrev pub string_of : Module → (at k : ℕ) → Option Span
string_of m at k = let start = (at + k) * 4 in string_in start (part_of (m.bytes.now) start ((at + word_count (m.words.now) at) * 4))

-- the row of member j of type i, where it has that member
abbrev pub row_of : (types : List ℕ) (i j : ℕ) → Option ℕ
row_of types i j = pick (eqb (type_word types i 0) struct_kind && ltb j (type_word types i 2)) (Some (type_word types i 1 + j)) None

-- the same, where there is such a type
abbrev pub member_row_of : (types : List ℕ) → Option ℕ → (j : ℕ) → Option ℕ
member_row_of types None j = None
member_row_of types (Some i) j = row_of types i j

-- ---- names
-- a number and a string, where there are both
abbrev pub pair : Option ℕ → Option Span → Option (ℕ × Span)
pair None name = None
pair (Some i) None = None
pair (Some i) (Some name) = Some (i, name)

-- OpName: the type, and the string, which stands after the id
abbrev pub type_named : Module → (at : ℕ) → Option (ℕ × Span)
type_named m at = pair (type_of (m.words.now) (m.places.now) (word (m.words.now) at 1)) (string_of m at 2)

-- OpMemberName: the row, and the string, which stands after the id and the member's number
abbrev pub row_named : Module → (at : ℕ) → Option (ℕ × Span)
row_named m at =
    let i = type_of (m.words.now) (m.places.now) (word (m.words.now) at 1) in
    pair (member_row_of (m.types.now) i (word (m.words.now) at 2)) (string_of m at 3)

-- the string put down at the number
abbrev pub put : Option (ℕ × Span) → List (Option Span) → List (Option Span)
put None places = places
put (Some name) places = set places (name.0) (Some (name.1))

-- OpName is 5, OpMemberName 6
abbrev pub instruction_named : Module → (at : ℕ) → NameTable → NameTable
instruction_named m at names =
    pick (eqb (opcode (m.words.now) at) 5) (record { types = put (type_named m at) (names.types); members = names.members })
    (pick (eqb (opcode (m.words.now) at) 6) (record { types = names.types; members = put (row_named m at) (names.members) })
    names)

-- the instructions one after the other
unfoldable pub instructions_named : Module → (ats : List ℕ) → NameTable → NameTable
instructions_named m [] names = names
instructions_named m (at ∷ ats) names = instructions_named m ats (instruction_named m at names)

-- no names yet
abbrev pub no_names : NameTable
no_names = record { types = replicate 1024 None; members = replicate 4096 None }

-- each instruction in its order: a name that is given twice is the last one
abbrev pub module_names : Module → NameTable
module_names m = instructions_named m (all_instructions (m.words.now)) no_names
