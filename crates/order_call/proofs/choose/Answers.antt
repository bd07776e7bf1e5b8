use mathlib.Core.Path.{◌≡◌, sym, ap, ◌∙◌}
use Prim.Native.Nat.{◌≤◌}
use native.Mathlib.Omega.{arith}
use lib.ListN.{length}
use borrow.Author.Tests.{eqb-true, eqb-false}
use Rattle.proc_alignment.specs.Alignment.{most}
use Rattle.std.specs.Prelude.{Some, None, Err}
use Rattle.std.proofs.Common.{rules}
use Rattle.ir_records.specs.Refusal.{outcome_of}
use Rattle.order_types.specs.Given.{number_of}
use Rattle.order_call.specs.Answer.{order_answer_of}
use Rattle.order_call.specs.Call.{Left, struct_answer}
use Rattle.order_call.proofs.CallLaws.{given_passed, given_refused, span_small, offset-small, chosen_none, chosen_number, chosen_order, found_number, none_number}
use Rattle.order_call.proofs.choose.Goals as goal

pub returns-then-is_empty : goal.returns-then-is_empty
returns-then-is_empty c =
    let a = c.args in
    let none = eqb-true (length a.wanted.now) 0 (sym c.is_empty.ensures ∙ c.if-is_empty.true) in
    let e = chosen_none a.rule a.capabilities a.types.now a.n a.members.now a.m a.rows.now a.wanted.now a.span none in
    record { places = tt; value = ap (λ r. order_answer_of (Err r)) c.of.ensures ∙ ap (λ (l : Left). l.answer) (sym e); types_after = ap (λ (l : Left). l.types) (sym e); members_after = ap (λ (l : Left). l.members) (sym e); rows_after = ap (λ (l : Left). l.rows) (sym e) }

pub returns-in_err-check : goal.returns-in_err-check
returns-in_err-check c =
    let a = c.args in
    let same : c.from_residual.result ≡ Err c.in_err-check.field-0.0 = search rules in
    let some = eqb-false (length a.wanted.now) 0 (sym c.is_empty.ensures ∙ c.if-is_empty.false) in
    let told = sym (ap outcome_of c.in_err-check.was) ∙ c.check.ensures in
    let refused = given_refused (number_of a.types.now a.rows.now a.n a.wanted.now) _ _ _ _ told in
    let e = chosen_number a.rule a.capabilities a.types.now a.n a.members.now a.m a.rows.now a.wanted.now a.span some refused.0 in
    let answer = ap order_answer_of same ∙ ap (struct_answer 0 0 0) (told ∙ refused.1) in
    record { places = rw same tt; value = answer ∙ ap (λ (l : Left). l.answer) (sym e); types_after = ap (λ (l : Left). l.types) (sym e); members_after = ap (λ (l : Left). l.members) (sym e); rows_after = ap (λ (l : Left). l.rows) (sym e) }

pub returns-in_err-number : goal.returns-in_err-number
returns-in_err-number c =
    let a = c.args in
    let same : c.from_residual-in_err-number.result ≡ Err c.in_err-number.field-0.0 = search rules in
    let some = eqb-false (length a.wanted.now) 0 (sym c.is_empty.ensures ∙ c.if-is_empty.false) in
    let number = given_passed (number_of a.types.now a.rows.now a.n a.wanted.now) (sym (ap outcome_of c.in_ok-check.was) ∙ c.check.ensures) in
    let miss = none_number c.first_order.result c.of-2.result c.in_err-number.field-0.0 (sym c.ok_or.ensures.value ∙ c.in_err-number.was) in
    let is = rw c.last_of-last.ensures at (sym c.first_order.ensures) ∙ miss.0 in
    let e = chosen_order a.rule a.capabilities a.types.now a.n a.members.now a.m a.rows.now a.wanted.now a.span some number None is in
    let answer = ap order_answer_of same ∙ ap (λ r. order_answer_of (Err r)) (miss.1 ∙ c.of-2.ensures) in
    record { places = rw same tt; value = answer ∙ ap (λ (l : Left). l.answer) (sym e); types_after = ap (λ (l : Left). l.types) (sym e); members_after = ap (λ (l : Left). l.members) (sym e); rows_after = ap (λ (l : Left). l.rows) (sym e) }

pub overflow_cast-own : goal.overflow_cast-own
overflow_cast-own c =
    let a = c.args in
    let number = given_passed (number_of a.types.now a.rows.now a.n a.wanted.now) (sym (ap outcome_of c.in_ok-check.was) ∙ c.check.ensures) in
    let found = found_number c.first_order.result c.of-2.result c.in_ok-number.number (sym c.ok_or.ensures.value ∙ c.in_ok-number.was) in
    let is = rw c.last_of-last.ensures at (sym c.first_order.ensures) ∙ found in
    let small : a.span ≤ most = omega arith in
    let fits = span_small a.types.now a.rows.now a.n a.wanted.now a.span c.in_ok-number.number c.requires.wanted_len_bound small c.requires.by_index number is in
    omega (arith, c.span_of-own.ensures, fits)

pub with_order-requires-clause-by_index : goal.with_order-requires-clause-by_index
with_order-requires-clause-by_index c =
    let a = c.args in
    let number = given_passed (number_of a.types.now a.rows.now a.n a.wanted.now) (sym (ap outcome_of c.in_ok-check.was) ∙ c.check.ensures) in
    let found = found_number c.first_order.result c.of-2.result c.in_ok-number.number (sym c.ok_or.ensures.value ∙ c.in_ok-number.was) in
    let is = rw c.last_of-last.ensures at (sym c.first_order.ensures) ∙ found in
    let small : a.span ≤ most = omega arith in
    offset-small a.types.now a.rows.now a.n a.wanted.now a.span c.in_ok-number.number c.requires.wanted_len_bound small c.requires.by_index number is

pub returns : goal.returns
returns c =
    let a = c.args in
    let some = eqb-false (length a.wanted.now) 0 (sym c.is_empty.ensures ∙ c.if-is_empty.false) in
    let number = given_passed (number_of a.types.now a.rows.now a.n a.wanted.now) (sym (ap outcome_of c.in_ok-check.was) ∙ c.check.ensures) in
    let found = found_number c.first_order.result c.of-2.result c.in_ok-number.number (sym c.ok_or.ensures.value ∙ c.in_ok-number.was) in
    let is = rw c.last_of-last.ensures at (sym c.first_order.ensures) ∙ found in
    let e = chosen_order a.rule a.capabilities a.types.now a.n a.members.now a.m a.rows.now a.wanted.now a.span some number (Some c.in_ok-number.number) is in
    let w = c.with_order.ensures in
    record { places = w.places; value = w.value ∙ ap (λ (l : Left). l.answer) (sym e); types_after = w.types_after ∙ ap (λ (l : Left). l.types) (sym e); members_after = w.members_after ∙ ap (λ (l : Left). l.members) (sym e); rows_after = w.rows_after ∙ ap (λ (l : Left). l.rows) (sym e) }
