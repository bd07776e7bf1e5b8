-- 01, 'The refusal', numbers 1, 2 and 3: the lengths of the tables, and the sets that the fields of a record lie in.
-- Assumes nothing.
use Rattle.std.specs.Prelude.{Bool, not, true, false, ◌&&◌, ◌||◌, List, ℕ, zero, suc, ◌+◌, ◌*◌, ◌/◌, ◌%◌, eqb, leb, ltb}
use Rattle.ir_records.specs.Result.{Result, ok, pick, require}
use Rattle.ir_records.specs.Record.{type_words, type_count, type_word, member_words, member_count, member_location, member_source, struct_members, scalar_kind, vector_kind, matrix_kind, cooperative_matrix_kind, atomic_kind, pointer_kind, value_pointer_kind, array_kind, struct_kind, image_kind, sampler_kind, acceleration_structure_kind, ray_query_kind, binding_array_kind}

-- ---- number 1
abbrev pub most_types : ℕ
most_types = 1024

abbrev pub most_members : ℕ
most_members = 4096

-- words of the result row of a type
abbrev pub row_words : ℕ
row_words = 14

-- whole records, not too many, and a row for each type
unfoldable pub tables_fit : (typesLength membersLength rowsLength : ℕ) → Bool
tables_fit t m r =
    eqb (t % type_words) 0 && leb t (most_types * type_words) && eqb (m % member_words) 0 && leb m (most_members * member_words) && leb (t / type_words * row_words) r

-- bits 0 to 13
abbrev pub all_capabilities : ℕ
all_capabilities = 16383

-- no capability bit above 13
abbrev pub capabilities_known : ℕ → Bool
capabilities_known c = leb c all_capabilities

-- ---- number 2: the sets, by name
abbrev pub most_scalar_kind : ℕ
most_scalar_kind = 5

abbrev pub most_width : ℕ
most_width = 255

abbrev pub most_space : ℕ
most_space = 9

abbrev pub most_dim : ℕ
most_dim = 3

abbrev pub most_class : ℕ
most_class = 3

abbrev pub most_role : ℕ
most_role = 2

abbrev pub scalar_ok : (kind width : ℕ) → Bool
scalar_ok kind width = leb kind most_scalar_kind && leb width most_width

abbrev pub vector_size_ok : ℕ → Bool
vector_size_ok n = leb 2 n && leb n 4

abbrev pub cooperative_size_ok : ℕ → Bool
cooperative_size_ok n = eqb n 8 || eqb n 16

abbrev pub space_ok : ℕ → Bool
space_ok space = leb space most_space

-- form 0 is constant, count at least 1; form 1 is dynamic, count 0
abbrev pub array_size_ok : (form count : ℕ) → Bool
array_size_ok form count = eqb form 0 && leb 1 count || eqb form 1 && eqb count 0

abbrev pub flag_ok : ℕ → Bool
flag_ok flag = leb flag 1

-- first member plus count, a sum without wrap-around
abbrev pub members_within : (rows first count : ℕ) → Bool
members_within rows first count = leb (first + count) rows

-- the words after the kind; those that it does not name are 0. rows: how many rows the member table has
unfoldable pub fields_ok : (rows kind a b c d e : ℕ) → Bool
fields_ok rows kind a b c d e =
    pick (eqb kind scalar_kind) (scalar_ok a b && eqb c 0 && eqb d 0 && eqb e 0)
    (pick (eqb kind vector_kind) (vector_size_ok a && scalar_ok b c && eqb d 0 && eqb e 0)
    (pick (eqb kind matrix_kind) (vector_size_ok a && vector_size_ok b && scalar_ok c d && eqb e 0)
    (pick (eqb kind cooperative_matrix_kind) (cooperative_size_ok a && cooperative_size_ok b && scalar_ok c d && leb e most_role)
    (pick (eqb kind atomic_kind) (scalar_ok a b && eqb c 0 && eqb d 0 && eqb e 0)
    (pick (eqb kind pointer_kind) (space_ok b && eqb c 0 && eqb d 0 && eqb e 0)
    (pick (eqb kind value_pointer_kind) (scalar_ok a b && space_ok c && eqb d 0 && eqb e 0)
    (pick (eqb kind array_kind) (array_size_ok b c && eqb e 0)
    (pick (eqb kind struct_kind) (members_within rows a b && eqb d 0 && eqb e 0)
    (pick (eqb kind image_kind) (leb a most_dim && flag_ok b && leb c most_class && eqb d 0 && eqb e 0)
    (pick (eqb kind sampler_kind) (eqb a 0 && eqb b 0 && eqb c 0 && eqb d 0 && eqb e 0)
    (pick (eqb kind acceleration_structure_kind) (flag_ok a && eqb b 0 && eqb c 0 && eqb d 0 && eqb e 0)
    (pick (eqb kind ray_query_kind) (flag_ok a && eqb b 0 && eqb c 0 && eqb d 0 && eqb e 0)
    (pick (eqb kind binding_array_kind) (array_size_ok b c && eqb d 0 && eqb e 0)
    false)))))))))))))

-- ---- number 3: the base of a pointer or a binding array is a type of the arena
abbrev pub base_within : (types kind base : ℕ) → Bool
base_within types kind base = not (eqb kind pointer_kind || eqb kind binding_array_kind) || ltb base types

-- ---- number 2 of a struct's own rows: a blend source requires a location
-- row j of a part lacks the location
abbrev pub is_unlocated : (part : List ℕ) → ℕ → Bool
is_unlocated part j = ltb 0 (member_source part j) && eqb (member_location part j) 0

-- none of the first j rows does
unfoldable pub located_to : (part : List ℕ) → ℕ → Bool
located_to part zero = true
located_to part (suc j) = pick (is_unlocated part j) false (located_to part j)

abbrev pub sources_located : (part : List ℕ) → Bool
sources_located part = located_to part (member_count part)

-- ---- numbers 2 and 3 of record i, 2 first
-- by its fields
abbrev pub fields_at : (ts ms : List ℕ) → ℕ → Result (Unit {0})
fields_at ts ms i =
    require
    (fields_ok (member_count ms) (type_word ts i 0) (type_word ts i 1) (type_word ts i 2) (type_word ts i 3) (type_word ts i 4) (type_word ts i 5))
    2 0 0
    (require (base_within (type_count ts) (type_word ts i 0) (type_word ts i 1)) 3 0 0 (ok tt))

unfoldable pub record_at : (ts ms : List ℕ) → ℕ → Result (Unit {0})
record_at ts ms i = require (sources_located (struct_members ts ms i)) 2 0 0 (fields_at ts ms i)
