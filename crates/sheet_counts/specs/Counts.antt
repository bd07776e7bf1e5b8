-- The layout sheet: of which types the slots are counted, and what they are.
-- Assumes nothing.
use Rattle.std.specs.Prelude.{◌≡◌, ◌<◌, length, get_or, Bool, ◌&&◌, List, ℕ, ◌==◌, nat_le, Option, None, Some, Result, MatchResult}
use Rattle.ir_records.specs.Result.{pick}
use Rattle.ir_records.specs.Record.{type_word, struct_kind}
use Rattle.ir_rows.specs.Rows.{row_word}
use Rattle.immediates_ranges.specs.Answer.{SlotsAnswer}
use Rattle.immediates_ranges.specs.Answer as answer
use Rattle.immediates_ranges.specs.declared.Slots.{Slots}
use Rattle.immediates_slots.specs.Immediates.{slots_answer}
use Rattle.valid_type_info.specs.declared.UniformRule.{UniformRule}
use Rattle.valid_arena.specs.Arena.{arena_words}
use Rattle.place_report.specs.Report.{report_words}
use Rattle.sheet_names.specs.declared.Sheet.{Sheet}
use Rattle.sheet_names.specs.Row.{may_be_immediate}

-- the slots of a struct are asked for, where it may be an immediate and has at most the 256 bytes of all slots
abbrev pub is_asked : (types rows : List ℕ) (i : ℕ) → Bool
is_asked types rows i = type_word types i 0 == struct_kind && nat_le (row_word rows i 0) 256 && may_be_immediate rows i

-- the slots that a call answers, where it does not refuse
abbrev pub answered : SlotsAnswer → Option Slots
answered (answer.Slots touched partly) = Some (record { touched = touched; partly = partly })
answered (answer.Refused number ty member detail) = None

-- the slots of type i from offset 0 on, where they are asked for and not refused
abbrev pub slots_of : (c : ℕ) → Sheet → (rows : List ℕ) (i : ℕ) → Option Slots
slots_of c records rows i =
    let types = records.types.now in
    pick (is_asked types rows i) (answered (slots_answer c types (records.members.now) rows i 0)) None

-- the first n of the slots that there was room for are these
abbrev pub Counted : (slots : ℕ → Option Slots) (n : ℕ) (was is : List (Option Slots)) → Type 0
Counted slots n was is = (i : ℕ) → i < n → i < length was → get_or is i None ≡ slots i

-- what judging the records leaves in the rows, and what counting their bytes leaves in the report
abbrev pub judged_rows : UniformRule → (c : ℕ) → Sheet → (rows : List ℕ) → List ℕ
judged_rows rule c records rows = arena_words rule c (records.types.now) (records.members.now) rows

abbrev pub counted_report : (c : ℕ) → Sheet → (rows report : List ℕ) → List ℕ
counted_report c records rows report = report_words c (records.types.now) (records.members.now) rows report

-- the rows after a call for the slots of type i: where they are asked for, the records are judged first
abbrev pub asked_rows : UniformRule → (c : ℕ) → Sheet → (rows : List ℕ) (i : ℕ) → List ℕ
asked_rows rule c records rows i = pick (is_asked (records.types.now) rows i) (judged_rows rule c records rows) rows

-- ---- what is left after judging
-- in the report: what is counted, and what was there where the records are refused
abbrev pub ReportLeft : {A E : Type 0} → Result A E → (counted was is : List ℕ) → Type 0
ReportLeft result counted was is = MatchResult result (λ _. is ≡ counted) (λ _. is ≡ was)

-- and in the slots of the 1024 types
abbrev pub SlotsLeft : {A E : Type 0} → Result A E → (slots : ℕ → Option Slots) (was is : List (Option Slots)) → Type 0
SlotsLeft result slots was is = MatchResult result (λ _. Counted slots 1024 was is) (λ _. is ≡ was)
