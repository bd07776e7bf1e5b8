-- Serves the contracts of functions inside the library: it adds nothing to what the other files say, and a reader may skip it.
-- Assumes nothing.
use Rattle.std.specs.Prelude.{false, List, ◌≡◌, ℕ}
use Rattle.ir_records.specs.Result.{Result, err, ok, require}
use Rattle.ir_records.specs.Record.{member_count, Sourceless}
use Rattle.ir_records.specs.Fields.{sources_located}
use Rattle.ir_rows.specs.Rows.{row_word}
use Rattle.proc_type_alignment.specs.declared.TypeLayout.{TypeLayout}
use Rattle.std.specs.Prelude as std
use Rattle.ir_records.specs.Refusal.{number_of}
use Rattle.ir_records.specs.declared.TypeRefusal.{TypeRefusal}
use Rattle.proc_type_alignment.specs.declared.Located.{Located}
use Rattle.proc_type_alignment.specs.TypeAlignment.{members_alignment}

-- the alignment of a struct, after number 2 of its rows
abbrev pub struct_alignment : (layouts : ℕ → TypeLayout) (i : ℕ) (members : List ℕ) → ℕ → Result ℕ
struct_alignment layouts i members count = require (sources_located members) 2 0 0 (members_alignment layouts i members count)

-- the layouts in the first two words of fourteen-word rows
abbrev pub layouts_in : List ℕ → ℕ → TypeLayout
layouts_in rows k = record { size = row_word rows k 0; alignment = row_word rows k 1 }

abbrev pub located_result : std.Result Located TypeRefusal → Result ℕ
located_result (std.Ok l) = ok l.alignment
located_result (std.Err r) = err (number_of r.fault) r.member r.detail

-- no member has a blend source where the answer says so
abbrev pub SourcesTold : (members : List ℕ) → std.Result Located TypeRefusal → Type 0
SourcesTold members (std.Ok l) = l.sourced ≡ false → Sourceless members (member_count members)
SourcesTold members (std.Err r) = Unit {0}
