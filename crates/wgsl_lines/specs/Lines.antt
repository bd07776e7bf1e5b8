-- What is written of a WGSL text: a line for each record, or the refusal and what is said of it.
-- Assumes nothing.
use Rattle.std.specs.Prelude.{◌≡◌, List, ◌++◌, ℕ, length, replicate, Result, Ok, Err}
use Rattle.program_output.specs.Answers.{refusal_line}
use Rattle.program_record_lines.specs.Lines.{record_lines}
use Rattle.wgsl_messages.specs.Says.{Says}
use Rattle.wgsl_read.specs.Text.{text_of, answer_of, numbered_by, types_left, members_left}
use Rattle.ir_records.specs.Refusal.{number_of}
use Rattle.ir_records.specs.declared.Records.{Records}
use Rattle.wgsl_grammar.specs.declared.Refusal.{Refusal}

-- room for 1,024 types and 4,096 members
abbrev pub no_types : List ℕ
no_types = replicate 6144 0

abbrev pub no_members : List ℕ
no_members = replicate 16384 0

-- by what is found in the text
abbrev pub LinesOf : List ℕ → Result Records Refusal → List ℕ → Type 0
LinesOf text (Ok made) bytes =
    bytes ≡ record_lines (types_left (text_of (length no_types) (length no_members) text) no_types) made.types (members_left (text_of (length no_types) (length no_members) text) no_members) made.members
LinesOf text (Err r) bytes = (message : List ℕ) × Says text r.at r.why message × (bytes ≡ refusal_line (number_of r.fault) 0 0 0 ++ message)

pub record Answers (text bytes : List ℕ) : Type 0 where
  pub found : Result Records Refusal
  pub reads : numbered_by found ≡ answer_of (text_of (length no_types) (length no_members) text)
  pub lines : LinesOf text found bytes
