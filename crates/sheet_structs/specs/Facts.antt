-- The layout sheet: the bytes of what is said of a struct before its members.
-- Assumes nothing.
use Rattle.std.specs.Prelude.{List, [], ◌++◌, ℕ}
use Rattle.ir_records.specs.Result.{pick}
use Rattle.program_output.specs.Bytes.{ascii, decimal}
use Rattle.sheet_names.specs.declared.Sheet.{Sheet}
use Rattle.sheet_names.specs.Counts.{carried_in, wasted_in, is_counted}
use Rattle.sheet_output.specs.declared.Markup.{Markup}
use Rattle.sheet_verdicts.specs.declared.Space.TheVariants as space
use Rattle.sheet_verdicts.specs.Text.{measures_text, verdict_text}
use Rattle.sheet_counts.specs.Text.{struct_slots_text}

-- the bytes of type i that carry data and those that are wasted
abbrev pub bytes_text : (report : List ℕ) (i : ℕ) → List ℕ
bytes_text report i = ascii "bytes: " ++ decimal (carried_in report i) ++ ascii " carried, " ++ decimal (wasted_in report i) ++ ascii " wasted"

-- these bytes on a line of their own, where they were counted
abbrev pub counted_line : (line : List ℕ) → Sheet → (i : ℕ) → List ℕ
counted_line line sheet i =
    let report = sheet.report.now in
    pick (is_counted (sheet.rows.now) report i) (line ++ bytes_text report i) []

-- what struct i measures, its verdicts, its bytes and its slots; a line begins with `line`
abbrev pub facts_text : Markup → (line : List ℕ) → Sheet → (i : ℕ) → List ℕ
facts_text m line sheet i =
    measures_text (sheet.rows.now) i
    ++ line ++ ascii "storage: " ++ verdict_text m sheet i space.Storage
    ++ line ++ ascii "uniform: " ++ verdict_text m sheet i space.Uniform
    ++ counted_line line sheet i
    ++ line ++ ascii "immediates: " ++ struct_slots_text sheet i
