-- `immediates_pass::choose_slots` meets its contract: the arena check, 26, the row's immediates word, the walk; the rows stay the check's.
-- Assumes nothing.
use mathlib.Core.Path.{◌≡◌, sym, ap, ◌∙◌}
use Rattle.std.proofs.Common.{rules, Err}
use Rattle.ir_records.specs.Refusal.{outcome_of}
use Rattle.ir_rows.specs.Rows.{row_word}
use Rattle.immediates_ranges.specs.Slots.{part_answer, slots_answer_of}
use Rattle.immediates_slots.proofs.CallLaws.{type_accepted, type_ready}
use Rattle.immediates_pass.proofs.ChooseLaws.{immediates-word, choose_barred, choose_walked, choose_refused}
use Rattle.immediates_pass.proofs.choose_slots.Goals as goal

pub returns-then-immediates-ne0 : goal.returns-then-immediates-ne0
returns-then-immediates-ne0 c =
    let a = c.args in
    let check = c.check_type.ensures in
    let p = type_accepted a.capabilities a.types.now a.members.now a.rows.now a.ty (sym check.value ∙ ap outcome_of c.in_ok-check_type.was) in
    let word = immediates-word a.capabilities a.types.now a.members.now a.rows.now p.0 a.ty a.rule p.1 in
    let read = c.row_word-immediates.ensures ∙ ap (λ w. row_word w a.ty 13) check.rows_after ∙ word in
    record { value = ap (λ r. slots_answer_of (Err r)) c.of.ensures ∙ sym (choose_barred a.capabilities a.types.now a.members.now a.rows.now p.0 a.ty p.1 (λ z. c.if-immediates-ne0.true (read ∙ z))); rows_after = check.rows_after }

pub type_slots-requires : goal.type_slots-requires
type_slots-requires c =
    let a = c.args in
    let check = c.check_type.ensures in
    let ready = type_ready a.capabilities a.types.now a.members.now a.rows.now a.ty (sym check.value ∙ ap outcome_of c.in_ok-check_type.was) a.rule in
    rw check.rows_after (record { sizes = ready.0; ty_bound = ready.1 })

pub returns : goal.returns
returns c =
    let a = c.args in
    let check = c.check_type.ensures in
    let p = type_accepted a.capabilities a.types.now a.members.now a.rows.now a.ty (sym check.value ∙ ap outcome_of c.in_ok-check_type.was) in
    let word = immediates-word a.capabilities a.types.now a.members.now a.rows.now p.0 a.ty a.rule p.1 in
    let read = c.row_word-immediates.ensures ∙ ap (λ w. row_word w a.ty 13) check.rows_after ∙ word in
    record { value = c.part_answer.ensures ∙ ap part_answer c.type_slots.ensures ∙ sym (choose_walked a.capabilities a.types.now a.members.now a.rows.now p.0 a.ty p.1 (sym read ∙ c.if-immediates-ne0.false)); rows_after = check.rows_after }

pub returns-in_err-check_type : goal.returns-in_err-check_type
returns-in_err-check_type c =
    let same : c.from_residual.result ≡ Err c.in_err-check_type.field-0.0 = search rules in
    let a = c.args in
    let check = c.check_type.ensures in
    let refused = sym check.value ∙ ap outcome_of c.in_err-check_type.was in
    record { value = ap slots_answer_of same ∙ sym (choose_refused a.capabilities a.types.now a.members.now a.rows.now a.ty refused); rows_after = check.rows_after }
