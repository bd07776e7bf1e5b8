-- `program_answers::Program::report` meets its contract: the rows, the totals and the words of the report. Assumes nothing.
use Rattle.std.proofs.Common.{rules, ◌≡◌, refl, sym, ap, ◌∙◌, List, ℕ, ◌*◌, Err}
use Rattle.ir_records.specs.Record.{type_count}
use Rattle.place_report.specs.Answer.{ReportAnswer}
use Rattle.program_output.specs.Answers.{totals_lines}
use Rattle.program_commands.specs.Commands.{part_of}
use Rattle.program_answers.specs.Answered.{held, types_of, with_rows, own_report, report_bytes}
use Rattle.program_answers.proofs.AnsweredLaws.{same_bytes, report_held, report_told}
use Rattle.program_answers.proofs.Program.report.Goals as goal

pub returns-in_err-totals-clause-after : goal.returns-in_err-totals-clause-after
returns-in_err-totals-clause-after c =
    let h = held c.args.self.now in
    let left = rw (c.types_in-types.ensures, c.members_in.ensures) at c.report.ensures.rows_after in
    ap (λ (rows : List ℕ). with_rows rows h) left ∙ sym (report_held h c.in_ok-rule.was)

pub returns-in_err-totals-clause-told : goal.returns-in_err-totals-clause-told
returns-in_err-totals-clause-told c =
    let h = held c.args.self.now in
    let same : c.from_residual-in_err-totals.result ≡ Err c.in_err-totals.field-0.0 = search rules in
    let told = rw (c.types_in-types.ensures, c.members_in.ensures) at c.in_err-totals.ensures.value in
    rw same (ap (λ (a : ReportAnswer). report_bytes a (own_report h)) told ∙ sym (report_told h c.in_ok-rule.was), refl)

pub returns-clause-after : goal.returns-clause-after
returns-clause-after c =
    let h = held c.args.self.now in
    let left = rw (c.types_in-types.ensures, c.members_in.ensures) at c.report.ensures.rows_after in
    ap (λ (rows : List ℕ). with_rows rows h) left ∙ sym (report_held h c.in_ok-rule.was)

pub returns-clause-told : goal.returns-clause-told
returns-clause-told c =
    let h = held c.args.self.now in
    let t = c.in_ok-totals.totals in
    let told = rw (c.types_in-types.ensures, c.members_in.ensures) at c.in_ok-totals.ensures.value in
    let words = rw (c.types_in-types.ensures, c.members_in.ensures) at c.report.ensures.report_after in
    let end = rw c.types_in-types.ensures at c.type_count-own.ensures in
    same_bytes
    (ap (λ (n : ℕ). totals_lines t.carried t.wasted (part_of c.report.new.report 0 (n * 2))) end
    ∙ ap (λ (ws : List ℕ). totals_lines t.carried t.wasted (part_of ws 0 (type_count (types_of h) * 2))) words
    ∙ ap (λ (a : ReportAnswer). report_bytes a (own_report h)) told
    ∙ sym (report_told h c.in_ok-rule.was))
    c.put_report.ensures
