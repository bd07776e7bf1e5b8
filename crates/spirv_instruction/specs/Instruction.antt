-- 02, E5: one instruction: its word count (28), then 29 and 30 of a type, or of an id that is given before, then number 1.
-- Assumes nothing.
use Rattle.std.specs.Prelude.{Bool, ◌&&◌, ◌||◌, List, [], ◌∷◌, ◌++◌, ℕ, ◌+◌, ◌/◌, min, eqb, leb, ltb, length}
use Rattle.ir_records.specs.Result.{Result, ok, pick, require, and_then}
use Rattle.ir_records.specs.declared.Words.{Words}
use Rattle.ir_records.specs.Record.{type_words, member_words, type_count, member_count}
use Rattle.ir_records.specs.Fields.{most_types, most_members}
use Rattle.spirv_words.specs.Module.{word_count, opcode, word, is_type, is_read, type_int, type_float, type_vector, type_matrix, type_array, type_runtime_array, type_struct, constant, decorate, member_decorate}
use Rattle.spirv_words.specs.Decorations.{array_stride, offset, matrix_stride}
use Rattle.spirv_ids.specs.Ids.{giver, integer_before, is_constant}
use Rattle.spirv_members.specs.Members.{member_count_at, member_rows}
use Rattle.spirv_types.specs.declared.Typed.{Typed}
use Rattle.spirv_types.specs.Types.{State, type_at}

-- ---- 28: the least word count of an instruction whose words are looked at
-- an OpConstant of a 64-bit integer type has two words of value; one of no integer type is skipped
abbrev pub least_constant : (ws : List ℕ) (at : ℕ) → ℕ
least_constant ws at = pick (is_constant ws at) (pick (eqb (word ws (integer_before ws at (word ws at 1)) 2) 64) 5 4) 2

abbrev pub least_decorate : (ws : List ℕ) (at : ℕ) → ℕ
least_decorate ws at = pick (eqb (word ws at 2) array_stride) 4 3

abbrev pub least_member_decorate : (ws : List ℕ) (at : ℕ) → ℕ
least_member_decorate ws at = pick (eqb (word ws at 3) offset || eqb (word ws at 3) matrix_stride) 5 4

abbrev pub least_type : (op : ℕ) → ℕ
least_type op =
    pick (eqb op type_int || eqb op type_vector || eqb op type_matrix || eqb op type_array) 4 (pick (eqb op type_float || eqb op type_runtime_array) 3 2)

unfoldable pub least_words : (ws : List ℕ) (at op : ℕ) → ℕ
least_words ws at op =
    pick (is_type op) (least_type op)
    (pick (eqb op constant) (least_constant ws at)
    (pick (eqb op decorate) (least_decorate ws at)
    (pick (eqb op member_decorate) (least_member_decorate ws at)
    1)))

-- the words by which it is told what an instruction is; so no word past an instruction decides
abbrev pub told_by : (op : ℕ) → ℕ
told_by op = pick (eqb op constant) 2 (pick (eqb op decorate) 3 (pick (eqb op member_decorate) 4 1))

unfoldable pub words_ok : (ws : List ℕ) (at : ℕ) → Bool
words_ok ws at =
    leb 1 (word_count ws at) && leb (at + word_count ws at) (length ws) && leb (told_by (opcode ws at)) (word_count ws at)
    && leb (least_words ws at (opcode ws at)) (word_count ws at)

-- ---- number 1: records that 01 and a lent table of n words admit
abbrev pub types_room : (n : ℕ) → ℕ
types_room n = min most_types (n / type_words)

abbrev pub members_room : (n : ℕ) → ℕ
members_room n = min most_members (n / member_words)

-- the member rows of the type at `at`
abbrev pub row_count : (ws : List ℕ) (at : ℕ) → ℕ
row_count ws at = pick (eqb (opcode ws at) type_struct) (member_count_at ws at) 0

abbrev pub fits : (t m : ℕ) (ws : List ℕ) (at : ℕ) → State → Bool
fits t m ws at s = ltb (type_count s.types) t && leb (member_count s.members + row_count ws at) m

-- ---- one instruction: 28, 29, 30, then 1
abbrev pub listed : Words → List ℕ
listed w = w.kind ∷ w.a ∷ w.b ∷ w.c ∷ w.d ∷ w.e ∷ []

abbrev pub with_type : State → Typed → (rows : List ℕ) → State
with_type s y rows =
    record { types = s.types ++ listed y.words; members = s.members ++ rows; alignments = s.alignments ++ (y.alignment ∷ []) }

unfoldable pub type_read : (t m : ℕ) (ws : List ℕ) (at : ℕ) → State → Result State
type_read t m ws at s =
    and_then (type_at ws s at) (λ y. require (fits t m ws at s) 1 0 0 (ok (with_type s y (member_rows ws at (row_count ws at)))))

-- an id that is given is not given before
abbrev pub new_id : (ws : List ℕ) (at id : ℕ) → State → Result State
new_id ws at id s = require (eqb (giver ws at id) 0) 30 0 0 (ok s)

-- what makes no record
unfoldable pub other_read : (ws : List ℕ) (at : ℕ) → State → Result State
other_read ws at s =
    pick (is_type (opcode ws at)) (new_id ws at (word ws at 1) s)
    (pick (is_constant ws at) (new_id ws at (word ws at 2) s)
    (ok s))

unfoldable pub instruction : (t m : ℕ) (ws : List ℕ) (at : ℕ) → State → Result State
instruction t m ws at s = require (words_ok ws at) 28 0 0 (pick (is_read (opcode ws at)) (type_read t m ws at s) (other_read ws at s))
