-- Serves the contracts of functions inside the library: it adds nothing to what the other files say, and a reader may skip it.
-- What the code holds while it reads: t types and m members in the lent tables; and what it makes of one instruction.
-- Assumes nothing.
use Rattle.std.specs.Prelude.{◌≡◌, List, ◌++◌, ℕ, ◌+◌, ◌*◌, ◌≤◌, ◌<◌, length, take, drop}
use Rattle.ir_records.specs.Result.{Result, err, ok, pick}
use Rattle.ir_records.specs.Record.{type_words, member_words}
use Rattle.spirv_words.specs.Module.{word_count, opcode, is_read}
use Rattle.spirv_ids.specs.Ids.{type_number}
use Rattle.spirv_members.specs.Serving.{Bounded}
use Rattle.spirv_types.specs.Types.{State}
use Rattle.spirv_instruction.specs.Instruction.{instruction}
use Rattle.std.specs.Prelude as std
use Rattle.ir_records.specs.declared.Fault.{Fault}
use Rattle.ir_records.specs.declared.Records.{Records}
use Rattle.ir_records.specs.Refusal.{number_of}

abbrev pub state_in : (types members alignments : List ℕ) (t m : ℕ) → State
state_in types members alignments t m =
    record { types = take (t * type_words) types; members = take (m * member_words) members; alignments = take t alignments }

-- there is room for the records that may follow
pub record Room (t m : ℕ) (types members alignments : List ℕ) : Type 0 where
  pub room_types : t * type_words ≤ length types
  pub room_members : m * member_words ≤ length members
  pub room_alignments : t ≤ length alignments
  pub few_types : t ≤ 1024
  pub few_members : m ≤ 4096

-- the numbers of the records that are held
pub record Held (t m : ℕ) (ws : List ℕ) (at : ℕ) (types : List ℕ) (types_read members_read : ℕ) : Type 0 where
  pub held_types : types_read ≤ t
  pub held_members : members_read ≤ m
  pub numbered : type_number ws at ≡ types_read
  pub bounded : Bounded (take (types_read * type_words) types)

-- the records are as the definition has them, and what stands behind them is as it was
pub record Stepped (t m : ℕ) (ws : List ℕ) (at : ℕ) (types members alignments types' members' alignments' : List ℕ) (a b a' b' : ℕ) : Type 0 where
  pub made : instruction t m ws at (state_in types members alignments a b) ≡ ok (state_in types' members' alignments' a' b')
  pub rest_types : drop (a' * type_words) types' ≡ drop (a' * type_words) types
  pub rest_members : drop (b' * member_words) members' ≡ drop (b' * member_words) members
  pub more : 0 < word_count ws at
  pub few : a' ≤ t
  pub few_members : b' ≤ m
  pub counted : a' ≡ a + pick (is_read (opcode ws at)) 1 0
  pub rising : a ≤ a'
  pub rising_members : b ≤ b'
  pub bounded : Bounded (take (a' * type_words) types')

abbrev pub StepIs : (t m : ℕ) (ws : List ℕ) (at : ℕ) (types members alignments types' members' alignments' : List ℕ) (a b : ℕ) → std.Result Records Fault → Type 0
StepIs t m ws at types members alignments types' members' alignments' a b (std.Ok held) =
    Stepped t m ws at types members alignments types' members' alignments' a b held.types held.members
StepIs t m ws at types members alignments types' members' alignments' a b (std.Err fault) =
    instruction t m ws at (state_in types members alignments a b) ≡ err (number_of fault) 0 0

-- the tables of a reading that is not refused
abbrev pub FilledTypes : Result State → (was is : List ℕ) → Type 0
FilledTypes (err number member detail) was is = Unit {0}
FilledTypes (ok s) was is = is ≡ s.types ++ drop (length s.types) was

abbrev pub FilledMembers : Result State → (was is : List ℕ) → Type 0
FilledMembers (err number member detail) was is = Unit {0}
FilledMembers (ok s) was is = is ≡ s.members ++ drop (length s.members) was
