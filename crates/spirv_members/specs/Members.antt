-- The members of a struct (Khronos SPIR-V specification, 'OpTypeStruct', 'Offset', 'MatrixStride', 'RowMajor'), by the words of the module.
-- Assumes nothing.
use Rattle.std.specs.Prelude.{Bool, true, false, ◌&&◌, ◌||◌, List, [], ◌∷◌, ◌++◌, ℕ, zero, suc, ◌+◌, ◌-◌, eqb, ltb, get_or, length}
use Rattle.ir_records.specs.Result.{pick, value_or}
use Rattle.ir_records.specs.Record.{type_word, type_inner, matrix_kind, array_kind}
use Rattle.proc_type_methods.specs.TypeMethods.{column_step, size_of}
use Rattle.proc_type_alignment.specs.declared.TypeLayout.{TypeLayout}
use Rattle.proc_type_alignment.specs.TypeAlignment.{members_alignment}
use Rattle.spirv_words.specs.Module.{word, word_count, before, first, only}
use Rattle.spirv_words.specs.Decorations.{is_offset_of, is_otherwise}
use Rattle.spirv_ids.specs.Sorts.{Sort, Unknown, OtherType, TypeRead, ConstantAt}
use Rattle.spirv_ids.specs.Ids.{sort}

-- ---- what an operand id stands for
abbrev pub is_other : Sort → Bool
is_other Unknown = false
is_other OtherType = true
is_other (TypeRead number) = false
is_other (ConstantAt at) = false

abbrev pub is_type_read : Sort → Bool
is_type_read Unknown = false
is_type_read OtherType = false
is_type_read (TypeRead number) = true
is_type_read (ConstantAt at) = false

abbrev pub number_of : Sort → ℕ
number_of Unknown = 0
number_of OtherType = 0
number_of (TypeRead number) = number
number_of (ConstantAt at) = 0

-- ---- member j of the struct at `at`
abbrev pub member_count_at : (ws : List ℕ) (at : ℕ) → ℕ
member_count_at ws at = word_count ws at - 2

abbrev pub member_sort : (ws : List ℕ) (at j : ℕ) → Sort
member_sort ws at j = sort ws at (word ws at (2 + j))

unfoldable pub member_number : (ws : List ℕ) (at j : ℕ) → ℕ
member_number ws at j = number_of (member_sort ws at j)

-- where its one Offset stands; 0 where it has none or several
unfoldable pub offset_at : (ws : List ℕ) (at j : ℕ) → ℕ
offset_at ws at j = only (is_offset_of ws (word ws at 1) j) (before ws at)

abbrev pub offset_of : (ws : List ℕ) (at j : ℕ) → ℕ
offset_of ws at j = word ws (offset_at ws at j) 4

-- the rows of the first j members: type, offset, no location, no blend source
unfoldable pub member_rows : (ws : List ℕ) (at j : ℕ) → List ℕ
member_rows ws at zero = []
member_rows ws at (suc j) = member_rows ws at j ++ (member_number ws at j ∷ offset_of ws at j ∷ 0 ∷ 0 ∷ [])

-- ---- 29
-- the column step of the matrix that a type is, or is an array of, at most `left` deep; 0 for none
unfoldable pub column_step_in : (ts : List ℕ) (left t : ℕ) → ℕ
column_step_in ts zero t = 0
column_step_in ts (suc left) t =
    pick (eqb (type_word ts t 0) matrix_kind) (column_step (type_word ts t 2) (type_word ts t 4))
    (pick (eqb (type_word ts t 0) array_kind) (column_step_in ts left (type_word ts t 1)) 0)

-- its matrix is stored otherwise than in columns a step apart
unfoldable pub stored_otherwise : (ws : List ℕ) (at j step : ℕ) → Bool
stored_otherwise ws at j step = ltb 0 step && ltb 0 (first (is_otherwise ws (word ws at 1) j step) (before ws at))

unfoldable pub member_unsupported : (ws ts : List ℕ) (at j : ℕ) → Bool
member_unsupported ws ts at j =
    is_other (member_sort ws at j)
    || is_type_read (member_sort ws at j) && stored_otherwise ws at j (column_step_in ts (suc (member_number ws at j)) (member_number ws at j))

-- of the first j members, any
unfoldable pub members_unsupported : (ws ts : List ℕ) (at j : ℕ) → Bool
members_unsupported ws ts at zero = false
members_unsupported ws ts at (suc j) = members_unsupported ws ts at j || member_unsupported ws ts at j

-- ---- 30
-- a type read, with one Offset
unfoldable pub member_sound : (ws : List ℕ) (at j : ℕ) → Bool
member_sound ws at j = is_type_read (member_sort ws at j) && ltb 0 (offset_at ws at j)

-- of the first j members, each
unfoldable pub members_sound : (ws : List ℕ) (at j : ℕ) → Bool
members_sound ws at zero = true
members_sound ws at (suc j) = members_sound ws at j && member_sound ws at j

-- ---- the span
-- 01's layout alignment of a struct of j members, from those of the types before it. (No alignment depends on a size.)
abbrev pub layouts_of : (al : List ℕ) → ℕ → TypeLayout
layouts_of al k = record { size = 0; alignment = get_or al k 0 }

unfoldable pub struct_alignment : (ws al : List ℕ) (at j : ℕ) → ℕ
struct_alignment ws al at j = value_or 1 (members_alignment (layouts_of al) (length al) (member_rows ws at j) j)

-- 01's size of a type of the table
unfoldable pub size_in : (ts : List ℕ) (t : ℕ) → ℕ
size_in ts t = size_of (type_inner ts t)

-- the end of the last of j members; 0 for none
unfoldable pub last_end : (ws ts : List ℕ) (at j : ℕ) → ℕ
last_end ws ts at zero = 0
last_end ws ts at (suc j) = offset_of ws at j + size_in ts (member_number ws at j)
