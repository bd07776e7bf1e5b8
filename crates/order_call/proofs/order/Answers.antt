use mathlib.Core.Path.{◌≡◌, sym, ap, ◌∙◌}
use Prim.Native.Nat.{◌*◌, ◌≤◌}
use native.Mathlib.Omega.{arith}
use lib.ListN.{length, take}
use lib.Seq.{length-take-le}
use Rattle.std.proofs.Common.{rules, Err}
use Rattle.ir_records.specs.Refusal.{outcome_of}
use Rattle.order_call.specs.Answer.{order_answer_of}
use Rattle.valid_arena.specs.Arena.{arena_words}
use Rattle.order_call.specs.Call.{Left, after_check}
use Rattle.order_call.proofs.CallLaws.{has_room, positive, ordered_short, ordered_after}
use Rattle.order_call.proofs.order.Goals as goal

pub returns-in_err-check_room : goal.returns-in_err-check_room
returns-in_err-check_room c =
    let a = c.args in
    let same : c.from_residual.result ≡ Err c.in_err-check_room.field-0.0 = search rules in
    let e = ordered_short a.rule a.capabilities a.types.now a.n a.members.now a.m a.rows.now a.wanted.now a.span c.in_err-check_room.ensures.1 in
    record { places = rw same tt; value = ap order_answer_of same ∙ ap (λ r. order_answer_of (Err r)) c.in_err-check_room.ensures.0 ∙ ap (λ (l : Left). l.answer) (sym e); types_after = ap (λ (l : Left). l.types) (sym e); members_after = ap (λ (l : Left). l.members) (sym e); rows_after = ap (λ (l : Left). l.rows) (sym e) }

pub slice_bounds-check-end : goal.slice_bounds-check-end
slice_bounds-check-end c =
    let a = c.args in
    let r = has_room (length a.types.now) (length a.members.now) (length a.rows.now) a.n a.m (length a.wanted.now) (c.in_ok-check_room.ensures) in
    omega (arith, r.record')

pub slice_bounds-check-end-2 : goal.slice_bounds-check-end-2
slice_bounds-check-end-2 c =
    let a = c.args in
    let r = has_room (length a.types.now) (length a.members.now) (length a.rows.now) a.n a.m (length a.wanted.now) (c.in_ok-check_room.ensures) in
    sym (length-take-le (a.n * 6) a.types.now (omega (arith, r.record')))

pub slice_bounds-check-end-3 : goal.slice_bounds-check-end-3
slice_bounds-check-end-3 c =
    let a = c.args in
    let r = has_room (length a.types.now) (length a.members.now) (length a.rows.now) a.n a.m (length a.wanted.now) (c.in_ok-check_room.ensures) in
    omega (arith, r.words)

pub slice_bounds-check-end-4 : goal.slice_bounds-check-end-4
slice_bounds-check-end-4 c =
    let a = c.args in
    let r = has_room (length a.types.now) (length a.members.now) (length a.rows.now) a.n a.m (length a.wanted.now) (c.in_ok-check_room.ensures) in
    sym (length-take-le (a.m * 4) a.members.now (omega (arith, r.words)))

pub choose-requires : goal.choose-requires
choose-requires c =
    let s = c in
    let a = s.args in
    let roomy = c.in_ok-check_room.ensures in
    let r = has_room (length a.types.now) (length a.members.now) (length a.rows.now) a.n a.m (length a.wanted.now) roomy in
    let k = c.check in
    let accepted = sym k.ensures.value ∙ ap outcome_of c.in_ok-check.was in
    let n6 : a.n * 6 ≤ length a.types.now = omega (arith, r.record') in
    let aligned = positive a.rule a.capabilities a.types.now a.n (take (a.m * 4) a.members.now) a.rows.now n6 accepted in
    record { wanted_len_bound = r.few; type_in_bounds = r.record'; wanted_bound = r.count; wanted_in_bounds = r.words; by_index = rw k.ensures.rows_after aligned }

pub returns : goal.returns
returns c =
    let s = c in
    let a = s.args in
    let roomy = c.in_ok-check_room.ensures in
    let r = has_room (length a.types.now) (length a.members.now) (length a.rows.now) a.n a.m (length a.wanted.now) roomy in
    let k = c.check in
    let accepted = sym k.ensures.value ∙ ap outcome_of c.in_ok-check.was in
    let words = arena_words a.rule a.capabilities (take (a.n * 6) a.types.now) (take (a.m * 4) a.members.now) a.rows.now in
    let e = ordered_after a.rule a.capabilities a.types.now a.n a.members.now a.m a.rows.now a.wanted.now a.span roomy ∙ ap (after_check a.rule a.capabilities a.types.now a.n a.members.now a.m words a.wanted.now a.span) accepted in
    let w = rw k.ensures.rows_after at c.choose.ensures in
    record { places = w.places; value = w.value ∙ ap (λ (l : Left). l.answer) (sym e); types_after = w.types_after ∙ ap (λ (l : Left). l.types) (sym e); members_after = w.members_after ∙ ap (λ (l : Left). l.members) (sym e); rows_after = w.rows_after ∙ ap (λ (l : Left). l.rows) (sym e) }

pub returns-in_err-check : goal.returns-in_err-check
returns-in_err-check c =
    let same : c.from_residual-in_err-check.result ≡ Err c.in_err-check.field-0.0 = search rules in
    let s = c in
    let a = s.args in
    let roomy = c.in_ok-check_room.ensures in
    let r = has_room (length a.types.now) (length a.members.now) (length a.rows.now) a.n a.m (length a.wanted.now) roomy in
    let k = c.check in
    let refusal = sym k.ensures.value ∙ ap outcome_of c.in_err-check.was in
    let words = arena_words a.rule a.capabilities (take (a.n * 6) a.types.now) (take (a.m * 4) a.members.now) a.rows.now in
    let e = ordered_after a.rule a.capabilities a.types.now a.n a.members.now a.m a.rows.now a.wanted.now a.span roomy ∙ ap (after_check a.rule a.capabilities a.types.now a.n a.members.now a.m words a.wanted.now a.span) refusal in
    record { places = rw same tt; value = ap order_answer_of same ∙ ap (λ (l : Left). l.answer) (sym e); types_after = ap (λ (l : Left). l.types) (sym e); members_after = ap (λ (l : Left). l.members) (sym e); rows_after = k.ensures.rows_after ∙ ap (λ (l : Left). l.rows) (sym e) }
