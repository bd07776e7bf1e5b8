-- What an instruction is looked at for: the decorations of a type and of its members (Khronos SPIR-V specification, 'Decoration'), and the
-- OpTypeInt that gives an id.
-- Assumes nothing.
use Rattle.std.specs.Prelude.{Bool, not, ◌&&◌, ◌||◌, List, ℕ, eqb}
use Rattle.spirv_words.specs.Module.{opcode, word, type_int, type_array, type_runtime_array, type_struct, decorate, member_decorate}

-- ---- their numbers
abbrev pub row_major : ℕ
row_major = 4

abbrev pub array_stride : ℕ
array_stride = 6

abbrev pub matrix_stride : ℕ
matrix_stride = 7

abbrev pub offset : ℕ
offset = 35

-- ---- of a type: OpDecorate
abbrev pub is_stride_of : (ws : List ℕ) (id at : ℕ) → Bool
is_stride_of ws id at = eqb (opcode ws at) decorate && eqb (word ws at 2) array_stride && eqb (word ws at 1) id

-- ---- of the members of a struct: OpMemberDecorate
abbrev pub is_members_of : (ws : List ℕ) (id at : ℕ) → Bool
is_members_of ws id at = eqb (opcode ws at) member_decorate && eqb (word ws at 1) id

abbrev pub is_offset_of : (ws : List ℕ) (id j at : ℕ) → Bool
is_offset_of ws id j at = is_members_of ws id at && eqb (word ws at 2) j && eqb (word ws at 3) offset

-- a matrix stored otherwise than in columns `step` bytes apart
abbrev pub is_otherwise : (ws : List ℕ) (id j step at : ℕ) → Bool
is_otherwise ws id j step at =
    is_members_of ws id at && eqb (word ws at 2) j
    && (eqb (word ws at 3) row_major || eqb (word ws at 3) matrix_stride && not (eqb (word ws at 4) step))

-- ---- of a type that cannot have it: an ArrayStride where it is no array, a member's where it is no struct
abbrev pub is_array : (op : ℕ) → Bool
is_array op = eqb op type_array || eqb op type_runtime_array

abbrev pub is_misplaced : (ws : List ℕ) (op id at : ℕ) → Bool
is_misplaced ws op id at =
    is_stride_of ws id at && not (is_array op)
    || is_members_of ws id at && not (eqb op type_struct)
    && (eqb (word ws at 3) offset || eqb (word ws at 3) matrix_stride || eqb (word ws at 3) row_major)

-- ---- the OpTypeInt that gives an id
abbrev pub is_integer : (ws : List ℕ) (id at : ℕ) → Bool
is_integer ws id at = eqb (opcode ws at) type_int && eqb (word ws at 1) id
