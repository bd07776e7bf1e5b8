-- 02, E1: the report over an arena. For each host-shareable struct the bytes carried and the bytes wasted, and totals over all of them.
-- Number 27 comes after the arena's own refusals, with its type, and keeps the accepted rows. A shorter report is 1; other refusals zero it.
-- Assumes nothing.
use Rattle.std.specs.Prelude.{Bool, not, ◌&&◌, List, [], ◌∷◌, ◌++◌, ℕ, ◌*◌, ◌/◌, leb, length, drop}
use Rattle.ir_records.specs.Result.{Result, ok, pick, require}
use Rattle.ir_records.specs.Record.{Decoded, decoded, type_count, type_words}
use Rattle.ir_records.specs.Fields.{capabilities_known, tables_fit}
use Rattle.ir_records.specs.Table.{also, first_refusal, flat}
use Rattle.ir_records.specs.Outcome.{Outcome}
use Rattle.ir_records.specs.Outcome as outcome
use Rattle.valid_flags.specs.Flags.{bit, host_shareable_bit}
use Rattle.valid_type_flags.specs.TypeFlags.{is_struct}
use Rattle.ir_rows.specs.Rows.{cleared}
use Rattle.valid_type_info.specs.declared.UniformRule.{UniformRule}
use Rattle.valid_arena.specs.Arena.{common, arena_outcome, arena_words}
use Rattle.place_carried.specs.Count.{sum}
use Rattle.place_carried.specs.Carried.{carried, wasted, narrow}
use Rattle.place_report.specs.Answer.{ReportAnswer}
use Rattle.place_report.specs.Answer as answer

-- words of the report a type
abbrev pub report_width : ℕ
report_width = 2

-- a host-shareable struct
abbrev pub reported : (c : ℕ) (types : ℕ → Decoded) → ℕ → Bool
reported c types t = is_struct (types t).inner && bit (common c types t).flags host_shareable_bit

-- number 27: it reaches an array with a stride below its element's size
abbrev pub narrow_at : (c : ℕ) (types : ℕ → Decoded) → ℕ → Result (Unit {0})
narrow_at c types t = require (not (reported c types t && narrow types t)) 27 0 0 (ok tt)

unfoldable pub report_outcome : (c : ℕ) (ts ms : List ℕ) → Outcome
report_outcome c ts ms = also (arena_outcome c ts ms) (first_refusal (narrow_at c (decoded ts ms)) (type_count ts))

-- the two words of a type, 0 for the unreported
abbrev pub carried_at : (c : ℕ) (types : ℕ → Decoded) → ℕ → ℕ
carried_at c types t = pick (reported c types t) (carried types t) 0

abbrev pub wasted_at : (c : ℕ) (types : ℕ → Decoded) → ℕ → ℕ
wasted_at c types t = pick (reported c types t) (wasted types t) 0

abbrev pub report_at : (c : ℕ) (types : ℕ → Decoded) → ℕ → List ℕ
report_at c types t = carried_at c types t ∷ wasted_at c types t ∷ []

-- ---- the call
-- number 1: the arena's, or a shorter report
unfoldable pub lengths_fit : (c types members rows report : ℕ) → Bool
lengths_fit c types members rows report = capabilities_known c && tables_fit types members rows && leb (types / type_words * report_width) report

abbrev pub report_fits : (c : ℕ) (ts ms rows report : List ℕ) → Bool
report_fits c ts ms rows report = lengths_fit c (length ts) (length ms) (length rows) (length report)

abbrev pub answer_of : (c : ℕ) (ts ms : List ℕ) → Outcome → ReportAnswer
answer_of c ts ms outcome.Accepted = answer.Totals (sum (carried_at c (decoded ts ms)) (type_count ts)) (sum (wasted_at c (decoded ts ms)) (type_count ts))
answer_of c ts ms (outcome.Refused number ty member detail) = answer.Refused number ty member detail

unfoldable pub report_answer : (c : ℕ) (ts ms rows report : List ℕ) → ReportAnswer
report_answer c ts ms rows report = pick (report_fits c ts ms rows report) (answer_of c ts ms (report_outcome c ts ms)) (answer.Refused 1 0 0 0)

-- the rows, as the arena check leaves them by the chosen uniform rule; answer and report are the same by either
unfoldable pub report_rows : (rule : UniformRule) (c : ℕ) (ts ms rows report : List ℕ) → List ℕ
report_rows rule c ts ms rows report = pick (report_fits c ts ms rows report) (arena_words rule c ts ms rows) rows

-- the report
abbrev pub report_after : (c : ℕ) (ts ms : List ℕ) → Outcome → (report : List ℕ) → List ℕ
report_after c ts ms outcome.Accepted report = flat (report_at c (decoded ts ms)) (type_count ts) ++ drop (type_count ts * report_width) report
report_after c ts ms (outcome.Refused number ty member detail) report = cleared report (type_count ts * report_width)

unfoldable pub report_words : (c : ℕ) (ts ms rows report : List ℕ) → List ℕ
report_words c ts ms rows report = pick (report_fits c ts ms rows report) (report_after c ts ms (report_outcome c ts ms) report) report
