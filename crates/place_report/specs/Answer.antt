-- 02, E1: what the call answers: totals over all host-shareable structs, or a refusal.
-- Assumes nothing.
use Rattle.std.specs.Prelude.{ℕ, Result, Ok, Err}
use Rattle.ir_records.specs.Refusal.{number_of}
use Rattle.ir_records.specs.declared.Refusal.{Refusal}
use Rattle.place_report.specs.declared.Totals as code

pub data ReportAnswer : Type 0 where
  Totals : (carried wasted : ℕ) → ReportAnswer
  Refused : (number ty member detail : ℕ) → ReportAnswer

-- what the code's answers say
abbrev pub report_answer_of : Result code.Totals Refusal → ReportAnswer
report_answer_of (Ok t) = Totals t.carried t.wasted
report_answer_of (Err r) = Refused (number_of r.fault) r.ty r.member r.detail
