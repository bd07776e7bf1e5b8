-- What a call answers of a text: how many type and member records it has, or the number of its refusal.
-- Assumes nothing.
use Rattle.std.specs.Prelude.{ℕ, Result, Ok, Err}
use Rattle.ir_records.specs.Refusal.{number_of}
use Rattle.ir_records.specs.declared.Fault.{Fault}
use Rattle.ir_records.specs.declared.Records as made

pub data TextAnswer : Type 0 where
  Records : (types members : ℕ) → TextAnswer
  Refused : (number : ℕ) → TextAnswer

abbrev pub text_answer_of : Result made.Records Fault → TextAnswer
text_answer_of (Ok r) = Records r.types r.members
text_answer_of (Err fault) = Refused (number_of fault)
