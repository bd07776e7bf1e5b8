-- Words and instructions of a SPIR-V module (Khronos SPIR-V specification, 'Physical Layout of a SPIR-V Module and Instruction').
-- Assumes nothing.
use Rattle.std.specs.Prelude.{Bool, ◌&&◌, ◌||◌, List, [], ◌∷◌, Option, Some, None, ℕ, zero, suc, ◌+◌, ◌-◌, ◌/◌, ◌%◌, eqb, leb, ltb, length, get_or}
use Rattle.ir_records.specs.Result.{pick}

-- ---- the header: five words, the magic number first
abbrev pub magic : ℕ
magic = 119734787

abbrev pub header_words : ℕ
header_words = 5

abbrev pub header_ok : List ℕ → Bool
header_ok ws = leb header_words (length ws) && eqb (get_or ws 0 0) magic

-- ---- an instruction: its first word has its word count in the upper 16 bits and its opcode in the lower 16
abbrev pub word_count : (ws : List ℕ) (at : ℕ) → ℕ
word_count ws at = get_or ws at 0 / 65536

abbrev pub opcode : (ws : List ℕ) (at : ℕ) → ℕ
opcode ws at = get_or ws at 0 % 65536

-- word k of the instruction at `at`
abbrev pub word : (ws : List ℕ) (at k : ℕ) → ℕ
word ws at k = get_or ws (at + k) 0

-- ---- opcodes
abbrev pub type_void : ℕ
type_void = 19

abbrev pub type_bool : ℕ
type_bool = 20

abbrev pub type_int : ℕ
type_int = 21

abbrev pub type_float : ℕ
type_float = 22

abbrev pub type_vector : ℕ
type_vector = 23

abbrev pub type_matrix : ℕ
type_matrix = 24

abbrev pub type_array : ℕ
type_array = 28

abbrev pub type_runtime_array : ℕ
type_runtime_array = 29

abbrev pub type_struct : ℕ
type_struct = 30

abbrev pub type_pipe : ℕ
type_pipe = 38

abbrev pub constant : ℕ
constant = 43

abbrev pub decorate : ℕ
decorate = 71

abbrev pub member_decorate : ℕ
member_decorate = 72

-- a type instruction, opcodes 19 to 38
abbrev pub is_type : ℕ → Bool
is_type op = leb type_void op && leb op type_pipe

-- one that is read
abbrev pub is_read : ℕ → Bool
is_read op = leb type_bool op && leb op type_matrix || leb type_array op && leb op type_struct

-- ---- where the instructions stand that start from word `at` on and before word `end`, at most `left` of them; none after a word count 0
unfoldable pub starts : (ws : List ℕ) (left at end : ℕ) → List ℕ
starts ws zero at end = []
starts ws (suc left) at end = pick (ltb at end && ltb 0 (word_count ws at)) (at ∷ starts ws left (at + word_count ws at) end) []

-- those from word p on and before word `end`, in word order
abbrev pub between : (ws : List ℕ) (p end : ℕ) → List ℕ
between ws p end = starts ws (end - p) p end

-- the instructions before the one at `at`
abbrev pub before : (ws : List ℕ) (at : ℕ) → List ℕ
before ws at = between ws header_words at

-- the first that passes a test; 0, where no instruction stands, for none
unfoldable pub first : (ℕ → Bool) → List ℕ → ℕ
first test [] = 0
first test (at ∷ ats) = pick (test at) at (first test ats)

-- the same as an option, at any place
unfoldable pub find : (ℕ → Bool) → List ℕ → Option ℕ
find test [] = None
find test (at ∷ ats) = pick (test at) (Some at) (find test ats)

-- a place of which 0 says that there is none
abbrev pub found : ℕ → Option ℕ
found at = pick (eqb at 0) None (Some at)

-- the only one that passes; 0 for none and for several
unfoldable pub only : (ℕ → Bool) → List ℕ → ℕ
only test [] = 0
only test (at ∷ ats) = pick (test at) (pick (eqb (first test ats) 0) at 0) (only test ats)

-- how many pass
unfoldable pub count : (ℕ → Bool) → List ℕ → ℕ
count test [] = 0
count test (at ∷ ats) = pick (test at) 1 0 + count test ats
