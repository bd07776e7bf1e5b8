-- What the reading of a type section answers: how many types and members, or the number of the refusal.
-- Assumes nothing.
use Rattle.std.specs.Prelude.{ℕ}
use Rattle.std.specs.Prelude as std
use Rattle.ir_records.specs.declared.Fault.{Fault}
use Rattle.ir_records.specs.declared.Records.{Records}
use Rattle.ir_records.specs.Refusal.{number_of}

pub data Section : Type 0 where
  Read : (types members : ℕ) → Section
  Refused : (number : ℕ) → Section

-- what the code's answer says
abbrev pub section_answer_of : std.Result Records Fault → Section
section_answer_of (std.Ok records) = Read records.types records.members
section_answer_of (std.Err fault) = Refused (number_of fault)
