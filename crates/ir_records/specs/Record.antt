-- 01, 'The type record' and 'The member record': the records in the caller's flat tables of words, and what each one says.
-- Assumes nothing.
use Rattle.std.specs.Prelude.{Option, Some, None, ◌&&◌, List, [], ◌≡◌, ℕ, ◌+◌, ◌*◌, ◌/◌, ◌<◌, eqb, leb, ltb, length, get_or, take, drop}
use Rattle.ir_records.specs.Result.{pick}
use Rattle.ir_records.specs.declared.Words.{Words}
use Rattle.ir_records.specs.declared.Leaf.TheVariants.{Scalar, Vector, Matrix, CooperativeMatrix, Atomic, RayQuery}
use Rattle.ir_records.specs.declared.NonData.TheVariants.{Pointer, ValuePointer, Image, Sampler, AccelerationStructure, BindingArray}
use Rattle.ir_records.specs.declared.TypeInner.{TypeInner}
use Rattle.ir_records.specs.declared.TypeInner.TheVariants.{Plain, Array, RuntimeArray, Struct, Other}

-- ---- kinds
abbrev pub scalar_kind : ℕ
scalar_kind = 0

abbrev pub vector_kind : ℕ
vector_kind = 1

abbrev pub matrix_kind : ℕ
matrix_kind = 2

abbrev pub cooperative_matrix_kind : ℕ
cooperative_matrix_kind = 3

abbrev pub atomic_kind : ℕ
atomic_kind = 4

abbrev pub pointer_kind : ℕ
pointer_kind = 5

abbrev pub value_pointer_kind : ℕ
value_pointer_kind = 6

abbrev pub array_kind : ℕ
array_kind = 7

abbrev pub struct_kind : ℕ
struct_kind = 8

abbrev pub image_kind : ℕ
image_kind = 9

abbrev pub sampler_kind : ℕ
sampler_kind = 10

abbrev pub acceleration_structure_kind : ℕ
acceleration_structure_kind = 11

abbrev pub ray_query_kind : ℕ
ray_query_kind = 12

abbrev pub binding_array_kind : ℕ
binding_array_kind = 13

-- ---- the type record: six words a type, the kind first
abbrev pub type_words : ℕ
type_words = 6

-- how many types a table has
abbrev pub type_count : List ℕ → ℕ
type_count ts = length ts / type_words

-- word k of record i
abbrev pub type_word : List ℕ → ℕ → ℕ → ℕ
type_word ts i k = get_or ts (i * type_words + k) 0

-- ---- the member record: four words, type, offset, location and blend source; the last two stored as value plus one, 0 for none
abbrev pub member_words : ℕ
member_words = 4

-- how many rows a member table has
abbrev pub member_count : List ℕ → ℕ
member_count ms = length ms / member_words

-- of member j in a part of the table
abbrev pub member_type : List ℕ → ℕ → ℕ
member_type part j = get_or part (j * member_words) 0

abbrev pub member_offset : List ℕ → ℕ → ℕ
member_offset part j = get_or part (j * member_words + 1) 0

-- plus one, 0 for none
abbrev pub member_location : List ℕ → ℕ → ℕ
member_location part j = get_or part (j * member_words + 2) 0

abbrev pub member_source : List ℕ → ℕ → ℕ
member_source part j = get_or part (j * member_words + 3) 0

-- none of the first n rows has a blend source
abbrev pub Sourceless : (part : List ℕ) → ℕ → Type 0
Sourceless part n = (j : ℕ) → j < n → member_source part j ≡ 0

-- ---- what a record says, by its kind and the five words after it.
-- Plain: data that is neither array nor struct (01's leaf). Other: what is no data.
unfoldable pub inner_of : (kind a b c d e : ℕ) → TypeInner
inner_of kind a b c d e =
    pick (eqb kind scalar_kind) (Plain (Scalar a b))
    (pick (eqb kind vector_kind) (Plain (Vector a b c))
    (pick (eqb kind matrix_kind) (Plain (Matrix a b c d))
    (pick (eqb kind cooperative_matrix_kind) (Plain (CooperativeMatrix a b c d e))
    (pick (eqb kind atomic_kind) (Plain (Atomic a b))
    (pick (eqb kind pointer_kind) (Other (Pointer a b))
    (pick (eqb kind value_pointer_kind) (Other (ValuePointer a b c))
    (pick (eqb kind array_kind) (pick (eqb b 0) (Array a c d) (RuntimeArray a d))
    (pick (eqb kind struct_kind) (Struct b c)
    (pick (eqb kind image_kind) (Other (Image a b c))
    (pick (eqb kind sampler_kind) (Other Sampler)
    (pick (eqb kind acceleration_structure_kind) (Other (AccelerationStructure a))
    (pick (eqb kind ray_query_kind) (Plain (RayQuery a))
    (Other (BindingArray a b c))))))))))))))

-- the same of six words
abbrev pub inner_in : Words → TypeInner
inner_in w = inner_of w.kind w.a w.b w.c w.d w.e

-- a record of this kind whose first words are these; the fifth is 0
abbrev pub record_of : (kind a b c d : ℕ) → Words
record_of kind a b c d = record { kind = kind; a = a; b = b; c = c; d = d; e = 0 }

-- the record of an array over a base: form 0 has a count, form 1 none, for a runtime array
abbrev pub array_words : (size : Option ℕ) → (base stride : ℕ) → Words
array_words (Some count) base stride = record_of array_kind base 0 count stride
array_words None base stride = record_of array_kind base 1 0 stride

-- record i of a table
unfoldable pub type_inner : List ℕ → ℕ → TypeInner
type_inner ts i = inner_of (type_word ts i 0) (type_word ts i 1) (type_word ts i 2) (type_word ts i 3) (type_word ts i 4) (type_word ts i 5)

-- the member rows of struct i, as that part of the table; empty for a number that is no struct or whose rows reach past the table
unfoldable pub struct_members : (ts ms : List ℕ) → ℕ → List ℕ
struct_members ts ms i =
    pick (ltb i (type_count ts) && eqb (type_word ts i 0) struct_kind && leb (type_word ts i 1 + type_word ts i 2) (member_count ms))
    (take (type_word ts i 2 * member_words) (drop (type_word ts i 1 * member_words) ms))
    []

-- what a record says, with the struct's own member rows: all that is judged later is judged of this
pub record Decoded : Type 0 where
  pub inner : TypeInner
  pub members : List ℕ

abbrev pub decoded : (ts ms : List ℕ) → ℕ → Decoded
decoded ts ms i = record { inner = type_inner ts i; members = struct_members ts ms i }
