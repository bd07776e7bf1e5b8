-- What is put is what is written of the text.
-- Assumes nothing.
use mathlib.Core.Path.{◌≡◌, refl}
use mathlib.Core.List.{List, ◌++◌}
use Prim.Native.Nat.{ℕ}
use lib.ListN.{length}
use Rattle.program_output.specs.Bytes.{Puts}
use Rattle.program_output.specs.Answers.{refusal_line}
use Rattle.program_output.proofs.PutLaws.{puts_both}
use Rattle.program_record_lines.specs.Lines.{record_lines}
use Rattle.wgsl_grammar.specs.declared.Refusal.{Refusal}
use Rattle.wgsl_messages.specs.Says.{Says}
use Rattle.wgsl_read.specs.Text.{text_of, answer_of, numbered_by, types_left, members_left}
use Rattle.std.specs.Prelude.{Result, Ok, Err}
use Rattle.ir_records.specs.Refusal.{number_of}
use Rattle.ir_records.specs.declared.Records.{Records}
use Rattle.wgsl_lines.specs.Lines.{no_types, no_members, Answers}

module _ (text : List ℕ) (out : List ℕ) (at : ℕ) (is : List ℕ) (end : ℕ) (t : Result Records Refusal) (reads : numbered_by t ≡ answer_of (text_of (length no_types) (length no_members) text)) where
  abbrev pub Answered : Type 0
  Answered = (bytes : List ℕ) × Answers text bytes × Puts out at bytes is end

  pub records_answer : (made : Records) (ts ms : List ℕ) → t ≡ Ok made
      → ts ≡ types_left (text_of (length no_types) (length no_members) text) no_types
      → ms ≡ members_left (text_of (length no_types) (length no_members) text) no_members
      → Puts out at (record_lines ts made.types ms made.members) is end → Answered
  records_answer made ts ms e a b p = (record_lines ts made.types ms made.members, record { found = t; reads = reads; lines = rw (e, a, b) refl }, p)

  pub refusal_answer : (r : Refusal) (mid : List ℕ) (k : ℕ) → t ≡ Err r
      → Puts out at (refusal_line (number_of r.fault) 0 0 0) mid k
      → (message : List ℕ) × Says text r.at r.why message × Puts mid k message is end → Answered
  refusal_answer r mid k e p said =
      (refusal_line (number_of r.fault) 0 0 0 ++ said.0, record { found = t; reads = reads; lines = rw e (said.0, said.1, refl) }, puts_both p said.2)
