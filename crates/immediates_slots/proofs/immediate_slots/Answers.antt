-- `immediates_slots::immediate_slots` meets its contract: the walk comes after the arena check and leaves the rows as they are. Assumes nothing.
use mathlib.Core.Path.{◌≡◌, sym, ap, ◌∙◌}
use Rattle.ir_records.specs.Refusal.{outcome_of}
use Rattle.immediates_ranges.specs.Slots.{part_answer, slots_answer_of}
use Rattle.std.proofs.Common.{rules, Err}
use Rattle.immediates_slots.proofs.CallLaws.{type_accepted, type_ready, answer_walked, answer_refused}
use Rattle.immediates_slots.proofs.immediate_slots.Goals as goal

pub type_slots-requires : goal.type_slots-requires
type_slots-requires c =
    let a = c.args in
    let check = c.check_type.ensures in
    let ready = type_ready a.capabilities a.types.now a.members.now a.rows.now a.ty (sym check.value ∙ ap outcome_of c.in_ok-check_type.was) a.rule in
    rw check.rows_after (record { sizes = ready.0; ty_bound = ready.1 })

pub returns : goal.returns
returns c =
    let a = c.args in
    let check = c.check_type.ensures in
    let p = type_accepted a.capabilities a.types.now a.members.now a.rows.now a.ty (sym check.value ∙ ap outcome_of c.in_ok-check_type.was) in
    record { value = c.part_answer.ensures ∙ ap part_answer c.type_slots.ensures ∙ sym (answer_walked a.capabilities a.types.now a.members.now a.rows.now p.0 a.ty a.offset p.1); rows_after = check.rows_after }

pub returns-in_err-check_type : goal.returns-in_err-check_type
returns-in_err-check_type c =
    let same : c.from_residual.result ≡ Err c.in_err-check_type.field-0.0 = search rules in
    let a = c.args in
    let check = c.check_type.ensures in
    let refused = sym check.value ∙ ap outcome_of c.in_err-check_type.was in
    record { value = ap slots_answer_of same ∙ sym (answer_refused a.capabilities a.types.now a.members.now a.rows.now a.ty a.offset refused); rows_after = check.rows_after }
