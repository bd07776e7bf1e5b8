-- What an id stands for at an instruction, by the instructions before it (Khronos SPIR-V specification, 'Result <id>').
-- Assumes nothing.
use Rattle.std.specs.Prelude.{Bool, ◌&&◌, ◌||◌, List, Option, Some, None, ℕ, eqb, ltb}
use Rattle.ir_records.specs.Result.{pick}
use Rattle.spirv_words.specs.Module.{opcode, word, is_type, is_read, constant, before, first, found, count}
use Rattle.spirv_words.specs.Decorations.{is_integer}
use Rattle.spirv_ids.specs.declared.Giver.{Giver}
use Rattle.spirv_ids.specs.Sorts.{Sort, Unknown, OtherType, TypeRead, ConstantAt}

-- the OpTypeInt before `at` that gives the id; 0 for none
unfoldable pub integer_before : (ws : List ℕ) (at id : ℕ) → ℕ
integer_before ws at id = first (is_integer ws id) (before ws at)

-- an OpConstant of an earlier integer type
unfoldable pub is_constant : (ws : List ℕ) (at : ℕ) → Bool
is_constant ws at = eqb (opcode ws at) constant && ltb 0 (integer_before ws at (word ws at 1))

-- its OpTypeInt as an option
abbrev pub integer_found : (ws : List ℕ) (at : ℕ) → Option ℕ
integer_found ws at = pick (eqb (opcode ws at) constant) (found (integer_before ws at (word ws at 1))) None

-- the instruction gives the id: a type instruction, read or not, or a constant that is read
unfoldable pub gives : (ws : List ℕ) (id at : ℕ) → Bool
gives ws id at = is_type (opcode ws at) && eqb (word ws at 1) id || is_constant ws at && eqb (word ws at 2) id

-- the instruction before `at` that gives the id; 0 for none: the id is missing or still to come
unfoldable pub giver : (ws : List ℕ) (at id : ℕ) → ℕ
giver ws at id = first (gives ws id) (before ws at)

-- the number of the type that is read at `at`: one record a type, in word order
unfoldable pub type_number : (ws : List ℕ) (at : ℕ) → ℕ
type_number ws at = count (λ p. is_read (opcode ws p)) (before ws at)

-- the giver as an option, with its number
abbrev pub giver_found : (ws : List ℕ) (at id : ℕ) → Option Giver
giver_found ws at id =
    pick (eqb (giver ws at id) 0) None (Some (record { at = giver ws at id; number = type_number ws (giver ws at id) }))

-- what the instruction at g gives
unfoldable pub sort_at : (ws : List ℕ) (g : ℕ) → Sort
sort_at ws g =
    pick (eqb g 0) Unknown
    (pick (eqb (opcode ws g) constant) (ConstantAt g)
    (pick (is_read (opcode ws g)) (TypeRead (type_number ws g)) OtherType))

-- what the id stands for at the instruction at `at`
unfoldable pub sort : (ws : List ℕ) (at id : ℕ) → Sort
sort ws at id = sort_at ws (giver ws at id)
