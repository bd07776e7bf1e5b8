-- 02, E5: the type section of a module, instruction by instruction in word order, and what the lent tables hold at the end.
-- Assumes nothing.
use Rattle.std.specs.Prelude.{List, [], ◌++◌, ℕ, zero, suc, ◌+◌, ltb, length, drop, replicate}
use Rattle.ir_records.specs.Result.{Result, err, ok, pick, require, and_then}
use Rattle.ir_records.specs.Record.{type_count, member_count}
use Rattle.spirv_words.specs.Module.{header_ok, header_words, word_count}
use Rattle.spirv_types.specs.Types.{State}
use Rattle.spirv_instruction.specs.Instruction.{types_room, members_room, instruction}
use Rattle.spirv_read.specs.Section.{Section, Read, Refused}

-- ---- from word `at` on, at most `left` instructions
unfoldable pub read_from : (t m : ℕ) (ws : List ℕ) (left at : ℕ) → State → Result State
read_from t m ws zero at s = ok s
read_from t m ws (suc left) at s =
    pick (ltb at (length ws)) (and_then (instruction t m ws at s) (read_from t m ws left (at + word_count ws at))) (ok s)

abbrev pub none : State
none = record { types = []; members = []; alignments = [] }

-- ---- of a module, with room for t types and m members
unfoldable pub read_module : (t m : ℕ) (ws : List ℕ) → Result State
read_module t m ws = require (header_ok ws) 28 0 0 (read_from t m ws (length ws) header_words none)

-- into lent tables
unfoldable pub read_into : (ws types members : List ℕ) → Result State
read_into ws types members = read_module (types_room (length types)) (members_room (length members)) ws

-- ---- the answer: how many types and members, or the number of the refusal
abbrev pub section_of : Result State → Section
section_of (err number member detail) = Refused number
section_of (ok s) = Read (type_count s.types) (member_count s.members)

-- ---- the lent tables: the records from the start, the rest as it was; a refusal zeroes them
abbrev pub types_after : Result State → (types : List ℕ) → List ℕ
types_after (err number member detail) types = replicate (length types) 0
types_after (ok s) types = s.types ++ drop (length s.types) types

abbrev pub members_after : Result State → (members : List ℕ) → List ℕ
members_after (err number member detail) members = replicate (length members) 0
members_after (ok s) members = s.members ++ drop (length s.members) members
