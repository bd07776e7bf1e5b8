use mathlib.Core.Path.{◌≡◌, refl, sym, ap, ◌∙◌}
use Rattle.std.proofs.Common.{rules, Err}
use Rattle.ir_records.specs.Refusal.{outcome_of}
use Rattle.order_call.specs.Answer.{order_answer_of}
use Rattle.order_call.specs.Call.{struct_answer}
use Rattle.order_call.proofs.with_order.Goals as goal

pub returns : goal.returns
returns c =
    let a = c.args in
    let span = c.requires.span_value in
    let t = c.tried in
    let answer = ap (struct_answer a.n a.span a.order.number) (ap outcome_of (sym c.in_ok-tried.was) ∙ t.ensures.value) in
    rw (← c.requires.order_value, ← span) record { places = refl; value = answer; types_after = rw t.ensures.value at t.ensures.types_after; members_after = rw t.ensures.value at t.ensures.members_after; rows_after = t.ensures.rows_after }

pub returns-in_err-tried : goal.returns-in_err-tried
returns-in_err-tried c =
    let same : c.from_residual.result ≡ Err c.in_err-tried.field-0.0 = search rules in
    let a = c.args in
    let span = c.requires.span_value in
    let t = c.tried in
    let answer = ap order_answer_of same ∙ ap (struct_answer a.n a.span a.order.number) (ap outcome_of (sym c.in_err-tried.was) ∙ t.ensures.value) in
    rw (← c.requires.order_value, ← span) record { places = rw same tt; value = answer; types_after = rw t.ensures.value at t.ensures.types_after; members_after = rw t.ensures.value at t.ensures.members_after; rows_after = t.ensures.rows_after }
