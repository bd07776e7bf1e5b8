-- The layout sheet: what is written of records that are judged and counted.
-- Assumes nothing.
use Rattle.std.specs.Prelude.{◌≡◌, List, ℕ, ◌<◌, replicate, get_or, Option, None, Result, MatchResult}
use Rattle.ir_records.specs.Refusal.{outcome_of}
use Rattle.ir_records.specs.declared.Refusal.{Refusal}
use Rattle.valid_arena.specs.Arena.{arena_answer}
use Rattle.sheet_names.specs.declared.Sheet.{Sheet}
use Rattle.sheet_output.specs.declared.Markup.{Markup}
use Rattle.sheet_output.specs.declared.Writer.{Writer}
use Rattle.sheet_output.specs.Written.{Writes}
use Rattle.sheet_counts.specs.Counts.{slots_of, judged_rows, counted_report}
use Rattle.sheet_structs.specs.Text.{sheet_text}
use Rattle.sheet_answers.specs.declared.Asked.{Asked}

-- the bytes come after all that was written and waits, or a write has failed; marks may be written in another way after them
abbrev pub Sent : {W : Type 0} → (W → Option (List ℕ)) → Writer W → (bytes : List ℕ) → Writer W → Type 0
Sent contents was bytes is = (m : Markup) × Writes contents (record { out = was.out; to = was.to; markup = m }) bytes is

-- ---- tables
-- the rows and the report before anything is counted: 14 words and 2 for each of 1024 types
unfoldable pub no_rows : List ℕ
no_rows = replicate 14336 0

unfoldable pub no_report : List ℕ
no_report = replicate 2048 0

-- ---- records
-- a sheet of records with what is counted of them, by the rule of uniform verdicts and the capability word that are asked for
pub record Counted (asked : Asked) (records sheet : Sheet) : Type 0 where
  pub text : sheet.text ≡ records.text
  pub names : sheet.names ≡ records.names
  pub types : sheet.types ≡ records.types
  pub members : sheet.members ≡ records.members
  pub rows : sheet.rows.now ≡ judged_rows asked.rule asked.capabilities records no_rows
  pub report : sheet.report.now ≡ counted_report asked.capabilities records (sheet.rows.now) no_report
  pub slots : (i : ℕ) → i < 1024 → get_or (sheet.slots.now) i None ≡ slots_of asked.capabilities records (sheet.rows.now) i

-- the bytes of the structs of accepted records
abbrev pub SaysStructs : Asked → Markup → (records : Sheet) → (said : List ℕ) → Type 0
SaysStructs asked m records said = (sheet : Sheet) × Counted asked records sheet × (said ≡ sheet_text asked.form m sheet)

-- the structs of accepted records are written
abbrev pub WritesStructs : {W : Type 0} → (W → Option (List ℕ)) → Asked → (records : Sheet) → (was is : Writer W) → Type 0
WritesStructs contents asked records was is = (said : List ℕ) × SaysStructs asked (was.markup) records said × Writes contents was said is

-- an answer of judging these records
abbrev pub Judges : Asked → (records : Sheet) → Result (Unit {0}) Refusal → Type 0
Judges asked records r = outcome_of r ≡ arena_answer asked.capabilities (records.types.now) (records.members.now) no_rows

-- the bytes of records: their structs where they are accepted, and else what is said of the refusal
pub record SaysRecords (asked : Asked) (m : Markup) (records : Sheet) (refused : Refusal → List ℕ) (said : List ℕ) : Type 0 where
  pub answer : Result (Unit {0}) Refusal
  pub judged : Judges asked records answer
  pub says : MatchResult answer (λ _. SaysStructs asked m records said) (λ refusal. said ≡ refused refusal)
