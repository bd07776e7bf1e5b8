-- What a reader's answer comes to, of a module or of a text alike: a refusal names no type.
-- Assumes nothing.
use Rattle.std.specs.Prelude.{Result, Ok, Err}
use Rattle.ir_records.specs.Outcome.{Outcome, Accepted, Refused}
use Rattle.ir_records.specs.Refusal.{number_of}
use Rattle.ir_records.specs.declared.Fault.{Fault}
use Rattle.ir_records.specs.declared.Records.{Records}

abbrev pub read_outcome : Result Records Fault → Outcome
read_outcome (Ok records) = Accepted
read_outcome (Err fault) = Refused (number_of fault) 0 0 0

abbrev pub records_of : Result Records Fault → Records
records_of (Ok records) = records
records_of (Err fault) = record { types = 0; members = 0 }
