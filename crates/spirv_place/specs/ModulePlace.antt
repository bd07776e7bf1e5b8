-- 02, E5: a place by the module's own Offsets and strides (Khronos SPIR-V specification, 'Offset', 'ArrayStride'), and by E6's column step of
-- the vector that a matrix has for its columns: by the words alone, never by a record.
-- Assumes nothing.
use Rattle.std.specs.Prelude.{Bool, ◌&&◌, List, [], ◌∷◌, ◌≡◌, ℕ, ◌+◌, ◌*◌, ◌^◌, eqb, leb, ltb}
use Rattle.ir_records.specs.Result.{pick}
use Rattle.proc_type_methods.specs.TypeMethods.{column_step}
use Rattle.place_steps.specs.Step.{Step}
use Rattle.place_steps.specs.Step.{To, Column, NoStep}
use Rattle.place_descent.specs.Place.{Place}
use Rattle.place_descent.specs.Place.{At, NoPlace}
use Rattle.place_descent.specs.Place.{walk}
use Rattle.spirv_words.specs.Module.{opcode, word, type_bool, type_vector, type_matrix, type_array, type_runtime_array, type_struct}
use Rattle.spirv_ids.specs.Ids.{giver, type_number}
use Rattle.spirv_members.specs.Members.{member_count_at, offset_of}
use Rattle.spirv_types.specs.Types.{stride_of, length_of, length_sort}
use Rattle.spirv_records.specs.TypesRead.{scalar_width}

-- the type instruction that word k of the one at p names
abbrev pub named : (ws : List ℕ) (p k : ℕ) → ℕ
named ws p k = giver ws p (word ws p k)

-- ---- matrices
-- the rows of a matrix, and their width: of its column type, a vector, and of that vector's component
abbrev pub matrix_rows : (ws : List ℕ) (p : ℕ) → ℕ
matrix_rows ws p = word ws (named ws p 2) 3

abbrev pub matrix_width : (ws : List ℕ) (p : ℕ) → ℕ
matrix_width ws p = scalar_width ws (named ws (named ws p 2) 2)

-- ---- one step, from the type instruction at p to another. At an array it adds step times `stride_of`, the operand of its one ArrayStride, below
-- `length_of`, the value of the OpConstant that its length names; at a struct `offset_of`, the operand of that member's one Offset; at a matrix
-- step times the column step, and the way ends there
abbrev pub element_step : (ws : List ℕ) (p s count : ℕ) → Step
element_step ws p s count = pick (ltb s count) (To (named ws p 2) (s * stride_of ws p)) NoStep

unfoldable pub module_step : (ws : List ℕ) (p s : ℕ) → Step
module_step ws p s =
    pick (eqb (opcode ws p) type_array) (element_step ws p s (length_of ws (length_sort ws p)))
    (pick (eqb (opcode ws p) type_runtime_array) (element_step ws p s (2 ^ 32))
    (pick (eqb (opcode ws p) type_struct) (pick (ltb s (member_count_at ws p)) (To (named ws p (2 + s)) (offset_of ws p s)) NoStep)
    (pick (eqb (opcode ws p) type_matrix) (pick (ltb s (word ws p 3)) (Column (s * column_step (matrix_rows ws p) (matrix_width ws p))) NoStep)
    NoStep)))

-- a leaf: Bool, Int, Float and Vector
abbrev pub module_leaf : (ws : List ℕ) (p : ℕ) → Bool
module_leaf ws p = leb type_bool (opcode ws p) && leb (opcode ws p) type_vector

unfoldable pub module_place : (ws : List ℕ) (p : ℕ) (steps : List ℕ) → Place
module_place ws p steps = walk (module_step ws) (module_leaf ws) p 0 steps

-- how long the leaf is, or a column of the matrix
unfoldable pub module_bytes : (ws : List ℕ) (p : ℕ) → ℕ
module_bytes ws p =
    pick (eqb (opcode ws p) type_matrix) (matrix_rows ws p * matrix_width ws p)
    (pick (eqb (opcode ws p) type_vector) (word ws p 3 * scalar_width ws (named ws p 2))
    (scalar_width ws p))

-- the type instruction that is reached, by the number of its record
abbrev pub numbered : (ws : List ℕ) → Place → Place
numbered ws (At byte p) = At byte (type_number ws p)
numbered ws NoPlace = NoPlace

-- ---- each step at a runtime array is 0
abbrev pub first_step : (ws : List ℕ) (p s : ℕ) → Type 0
first_step ws p s = opcode ws p ≡ type_runtime_array → s ≡ 0

abbrev pub onward : Step → (ℕ → Type 0) → Type 0
onward (To p bytes) rest = rest p
onward (Column bytes) rest = Unit {0}
onward NoStep rest = Unit {0}

abbrev pub FirstSteps : (ws : List ℕ) (p : ℕ) (steps : List ℕ) → Type 0
FirstSteps ws p [] = Unit {0}
FirstSteps ws p (s ∷ steps) = first_step ws p s × onward (module_step ws p s) (λ q. FirstSteps ws q steps)

-- ---- the type that an array, or an array of arrays, is made of
pub data ElementOf (ws : List ℕ) : ℕ → ℕ → Type 0 where
  itself : {p : ℕ} → ElementOf ws p p
  element : {p q : ℕ} → opcode ws p ≡ type_array → ElementOf ws (named ws p 2) q → ElementOf ws p q
  runtime_element : {p q : ℕ} → opcode ws p ≡ type_runtime_array → ElementOf ws (named ws p 2) q → ElementOf ws p q
