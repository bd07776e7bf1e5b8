-- 02, E5: the record of one type that is read, and its refusals 29 and 30 (Khronos SPIR-V specification, 'Type-Declaration Instructions').
-- Assumes nothing.
use Rattle.std.specs.Prelude.{Bool, false, not, ◌&&◌, ◌||◌, List, [], ℕ, ◌*◌, ◌/◌, eqb, leb, ltb, length}
use Rattle.ir_records.specs.Result.{Result, ok, pick, require, value_or}
use Rattle.ir_records.specs.declared.Words.{Words}
use Rattle.ir_records.specs.Record.{type_word, member_count, inner_in, record_of, scalar_kind, vector_kind, matrix_kind, array_kind, struct_kind}
use Rattle.proc_alignment.specs.Alignment.{round_up, most}
use Rattle.proc_type_alignment.specs.TypeAlignment.{alignment_of}
use Rattle.spirv_words.specs.Module.{word_count, opcode, word, type_bool, type_int, type_float, type_vector, type_matrix, type_array, type_runtime_array, before, first, only}
use Rattle.spirv_words.specs.Decorations.{is_stride_of, is_misplaced}
use Rattle.spirv_types.specs.declared.Typed.{Typed}
use Rattle.spirv_ids.specs.Sorts.{Sort, Unknown, OtherType, TypeRead, ConstantAt}
use Rattle.spirv_ids.specs.Ids.{integer_before, giver, sort}
use Rattle.spirv_members.specs.Members.{is_other, is_type_read, number_of, member_count_at, member_rows, members_unsupported, members_sound, layouts_of, struct_alignment, last_end}

-- the records made so far, and 01's layout alignment of each type
pub record State : Type 0 where
  pub types : List ℕ
  pub members : List ℕ
  pub alignments : List ℕ

-- 29 before 30
abbrev pub judged : (unsupported sound : Bool) → Typed → Result Typed
judged unsupported sound y = require (not unsupported) 29 0 0 (require sound 30 0 0 (ok y))

-- with 01's alignment of what the record says, from those of the types before it
abbrev pub typed : (al : List ℕ) → Words → (rows : List ℕ) → Typed
typed al w rows = record { words = w; alignment = value_or 1 (alignment_of (layouts_of al) (length al) (inner_in w) rows) }

-- ---- 30 of any type: its id is given before, or has a decoration that it cannot have
unfoldable pub is_fresh : (ws : List ℕ) (at : ℕ) → Bool
is_fresh ws at = eqb (giver ws at (word ws at 1)) 0 && eqb (first (is_misplaced ws (opcode ws at) (word ws at 1)) (before ws at)) 0

-- ---- scalars. Kinds: 0 Sint, 1 Uint, 2 Float, 3 Bool
abbrev pub width_ok : (bits : ℕ) → Bool
width_ok bits = eqb bits 8 || eqb bits 16 || eqb bits 32 || eqb bits 64

abbrev pub sign_kind : (signedness : ℕ) → ℕ
sign_kind signedness = pick (eqb signedness 0) 1 0

unfoldable pub bool_type : (al : List ℕ) (fresh : Bool) → Result Typed
bool_type al fresh = judged false fresh (typed al (record_of scalar_kind 3 1 0 0) [])

unfoldable pub int_type : (ws al : List ℕ) (at : ℕ) (fresh : Bool) → Result Typed
int_type ws al at fresh =
    judged (not (width_ok (word ws at 2)) || ltb 1 (word ws at 3)) fresh
    (typed al (record_of scalar_kind (sign_kind (word ws at 3)) (word ws at 2 / 8) 0 0) [])

-- a fourth word is an encoding
unfoldable pub float_type : (ws al : List ℕ) (at : ℕ) (fresh : Bool) → Result Typed
float_type ws al at fresh =
    judged (not (width_ok (word ws at 2)) || ltb 3 (word_count ws at)) fresh (typed al (record_of scalar_kind 2 (word ws at 2 / 8) 0 0) [])

-- ---- vectors and matrices: of the type that word 2 names
abbrev pub parts_ok : ℕ → Bool
parts_ok n = leb 2 n && leb n 4

abbrev pub base_sort : (ws : List ℕ) (at : ℕ) → Sort
base_sort ws at = sort ws at (word ws at 2)

-- word k of its record
abbrev pub base_word : (ws ts : List ℕ) (at k : ℕ) → ℕ
base_word ws ts at k = type_word ts (number_of (base_sort ws at)) k

unfoldable pub vector_type : (ws ts al : List ℕ) (at : ℕ) (fresh : Bool) → Result Typed
vector_type ws ts al at fresh =
    judged (not (parts_ok (word ws at 3)) || is_other (base_sort ws at))
    (fresh && is_type_read (base_sort ws at) && eqb (base_word ws ts at 0) scalar_kind)
    (typed al (record_of vector_kind (word ws at 3) (base_word ws ts at 1) (base_word ws ts at 2) 0) [])

unfoldable pub matrix_type : (ws ts al : List ℕ) (at : ℕ) (fresh : Bool) → Result Typed
matrix_type ws ts al at fresh =
    judged (not (parts_ok (word ws at 3)) || is_other (base_sort ws at))
    (fresh && is_type_read (base_sort ws at) && eqb (base_word ws ts at 0) vector_kind)
    (typed al (record_of matrix_kind (word ws at 3) (base_word ws ts at 1) (base_word ws ts at 2) (base_word ws ts at 3)) [])

-- ---- arrays
-- where the one ArrayStride stands; 0 where there is none or several
unfoldable pub stride_at : (ws : List ℕ) (at : ℕ) → ℕ
stride_at ws at = only (is_stride_of ws (word ws at 1)) (before ws at)

abbrev pub stride_of : (ws : List ℕ) (at : ℕ) → ℕ
stride_of ws at = word ws (stride_at ws at) 3

-- the length that an OpConstant above 0 of a 32-bit integer type is, its type being at `integer`; 0 for what is none
abbrev pub constant_length : (ws : List ℕ) (at integer : ℕ) → ℕ
constant_length ws at integer =
    pick (eqb (word ws integer 2) 32 && (eqb (word ws integer 3) 0 || ltb (word ws at 3) 2147483648)) (word ws at 3) 0

unfoldable pub length_of : (ws : List ℕ) → Sort → ℕ
length_of ws Unknown = 0
length_of ws OtherType = 0
length_of ws (TypeRead number) = 0
length_of ws (ConstantAt at) = constant_length ws at (integer_before ws at (word ws at 1))

abbrev pub length_sort : (ws : List ℕ) (at : ℕ) → Sort
length_sort ws at = sort ws at (word ws at 3)

unfoldable pub array_type : (ws al : List ℕ) (at : ℕ) (fresh : Bool) → Result Typed
array_type ws al at fresh =
    judged (is_other (base_sort ws at) || is_other (length_sort ws at))
    (fresh && is_type_read (base_sort ws at) && ltb 0 (stride_at ws at) && ltb 0 (length_of ws (length_sort ws at))
    && leb (length_of ws (length_sort ws at) * stride_of ws at) most)
    (typed al (record_of array_kind (number_of (base_sort ws at)) 0 (length_of ws (length_sort ws at)) (stride_of ws at)) [])

unfoldable pub runtime_array_type : (ws al : List ℕ) (at : ℕ) (fresh : Bool) → Result Typed
runtime_array_type ws al at fresh =
    judged (is_other (base_sort ws at)) (fresh && is_type_read (base_sort ws at) && ltb 0 (stride_at ws at))
    (typed al (record_of array_kind (number_of (base_sort ws at)) 1 0 (stride_of ws at)) [])

-- ---- structs: the span is the end of the last member rounded up to the alignment
abbrev pub span_of : (ws ts al : List ℕ) (at n : ℕ) → ℕ
span_of ws ts al at n = round_up (struct_alignment ws al at n) (last_end ws ts at n)

unfoldable pub struct_type : (ws : List ℕ) (s : State) (at : ℕ) (fresh : Bool) → Result Typed
struct_type ws s at fresh =
    judged (members_unsupported ws s.types at (member_count_at ws at))
    (fresh && members_sound ws at (member_count_at ws at) && leb (span_of ws s.types s.alignments at (member_count_at ws at)) most)
    (typed s.alignments
    (record_of struct_kind (member_count s.members) (member_count_at ws at) (span_of ws s.types s.alignments at (member_count_at ws at)) 0)
    (member_rows ws at (member_count_at ws at)))

-- ---- by its opcode
unfoldable pub type_by : (ws : List ℕ) (s : State) (at op : ℕ) (fresh : Bool) → Result Typed
type_by ws s at op fresh =
    pick (eqb op type_bool) (bool_type s.alignments fresh)
    (pick (eqb op type_int) (int_type ws s.alignments at fresh)
    (pick (eqb op type_float) (float_type ws s.alignments at fresh)
    (pick (eqb op type_vector) (vector_type ws s.types s.alignments at fresh)
    (pick (eqb op type_matrix) (matrix_type ws s.types s.alignments at fresh)
    (pick (eqb op type_array) (array_type ws s.alignments at fresh)
    (pick (eqb op type_runtime_array) (runtime_array_type ws s.alignments at fresh)
    (struct_type ws s at fresh)))))))

unfoldable pub type_at : (ws : List ℕ) (s : State) (at : ℕ) → Result Typed
type_at ws s at = type_by ws s at (opcode ws at) (is_fresh ws at)
