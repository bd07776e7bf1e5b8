-- Serves the contracts of functions inside the library: it adds nothing to what the other files say, and a reader may skip it.
-- Assumes nothing.
use Rattle.std.specs.Prelude.{◌≡◌, true, false, List, Option, Some, None, ℕ, ◌+◌, ◌≤◌, ◌<◌}
use Rattle.std.specs.Prelude as std
use Rattle.ir_records.specs.declared.Fault.{Fault}
use Rattle.ir_records.specs.Refusal.{number_of}
use Rattle.ir_records.specs.Result.{Result, err, ok}
use Rattle.ir_records.specs.Record.{inner_in}
use Rattle.ir_records.specs.Serving.{InnerBounds}
use Rattle.spirv_words.specs.Module.{word_count, opcode, is_read}
use Rattle.spirv_members.specs.Members.{member_rows, members_sound}
use Rattle.spirv_types.specs.Types.{State}
use Rattle.spirv_instruction.specs.declared.Made.{Made}
use Rattle.spirv_instruction.specs.Instruction.{with_type}

-- the state behind an instruction: of what makes a type, of what makes none, of either
abbrev pub type_result : (ws : List ℕ) (at : ℕ) → State → std.Result Made Fault → Result State
type_result ws at s (std.Ok made) = ok (with_type s made.typed (member_rows ws at made.rows))
type_result ws at s (std.Err fault) = err (number_of fault) 0 0

abbrev pub id_result : State → std.Result (Unit {0}) Fault → Result State
id_result s (std.Ok u) = ok s
id_result s (std.Err fault) = err (number_of fault) 0 0

abbrev pub judged_result : (ws : List ℕ) (at : ℕ) → State → std.Result (Option Made) Fault → Result State
judged_result ws at s (std.Ok None) = ok s
judged_result ws at s (std.Ok (Some made)) = ok (with_type s made.typed (member_rows ws at made.rows))
judged_result ws at s (std.Err fault) = err (number_of fault) 0 0

-- what the caller goes by: there is a next instruction, a new record's fields and place are within their bounds, and its members are sound
abbrev pub TypeTold : (t m : ℕ) (ws : List ℕ) (at types members : ℕ) → std.Result Made Fault → Type 0
TypeTold t m ws at types members (std.Ok made) =
    InnerBounds (inner_in made.typed.words) × (types < t) × (members + made.rows ≤ m) × (members_sound ws at made.rows ≡ true)
TypeTold t m ws at types members (std.Err fault) = Unit {0}

abbrev pub Told : (t m : ℕ) (ws : List ℕ) (at types members : ℕ) → std.Result (Option Made) Fault → Type 0
Told t m ws at types members (std.Ok None) = (0 < word_count ws at) × (is_read (opcode ws at) ≡ false)
Told t m ws at types members (std.Ok (Some made)) =
    (0 < word_count ws at) × (is_read (opcode ws at) ≡ true) × InnerBounds (inner_in made.typed.words) × (types < t) × (members + made.rows ≤ m) × (members_sound ws at made.rows ≡ true)
Told t m ws at types members (std.Err fault) = Unit {0}
