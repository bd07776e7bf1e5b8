use mathlib.Core.Path.{◌≡◌, refl, sym, ◌∙◌}
use native.Mathlib.Omega.{arith}
use borrow.Author.Tests.{eqb-true, eqb-false}
use Rattle.proc_alignment.proofs.RoundLaws.{round_up_next}
use Rattle.ir_records.specs.Record.{struct_kind, type_inner, inner_of, type_word}
use Rattle.valid_member_rules.proofs.KindLaws.{no_struct_kind}
use Rattle.valid_members_plain.proofs.least_after.Goals as goal

pub overflow_add-from : goal.overflow_add-from
overflow_add-from c =
    omega (arith, c.round_up-rounded.ensures, (round_up_next 16 c.own_record-w.result.c (omega arith)).1, c.own_record-w.type_inv.1.1.1.0, c.from.ensures, c.ranges.offset)

pub returns-then-is : goal.returns-then-is
unfolding type_inner inner_of
returns-then-is c =
    let is-struct = eqb-true _ _ (rw c.own_record-w.ensures at (sym c.is.ensures ∙ c.if-is.true)) in
    rw (is-struct) (rw (c.from.ensures, c.round_up-rounded.ensures, c.own_record-w.ensures) at c.max.ensures)

pub returns : goal.returns
unfolding type_inner
returns c =
    let a = c.args in
    let w = type_word a.types.now a.t in
    let other : w 0 ≡ struct_kind → ⊥ = eqb-false _ _ (rw c.own_record-w.ensures at (sym c.is.ensures ∙ c.if-is.false)) in
    rw (no_struct_kind (w 0) (w 1) (w 2) (w 3) (w 4) (w 5) a.offset other) refl
