-- What is written of a SPIR-V module: a line for each record, or the refusal.
-- Assumes nothing.
use Rattle.std.specs.Prelude.{List, ℕ, replicate}
use Rattle.spirv_read.specs.Read.{read_into, section_of, types_after, members_after}
use Rattle.spirv_read.specs.Section.{Section}
use Rattle.spirv_read.specs.Section as section
use Rattle.program_output.specs.Answers.{refusal_line}
use Rattle.program_record_lines.specs.Lines.{record_lines}

abbrev pub section_lines : Section → (types members : List ℕ) → List ℕ
section_lines (section.Read n m) types members = record_lines types n members m
section_lines (section.Refused number) types members = refusal_line number 0 0 0

-- room for 1,024 types and 4,096 members
abbrev pub no_types : List ℕ
no_types = replicate 6144 0

abbrev pub no_members : List ℕ
no_members = replicate 16384 0

unfoldable pub module_lines : List ℕ → List ℕ
module_lines words =
    let read = read_into words no_types no_members in
    section_lines (section_of read) (types_after read no_types) (members_after read no_members)
