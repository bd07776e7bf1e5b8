-- `spirv_members::column_step` meets its contract. The invariant: the step from k on is the step. Assumes nothing.
use borrow.Author.Rules.{rules}
use borrow.Author.Tests.{eqb-true, eqb-false}
use mathlib.Core.Path.{◌≡◌, sym, ◌∙◌}
use Prim.Native.Nat.{suc, ◌+◌, ◌-◌}
use native.Mathlib.Omega.{arith}
use Rattle.ir_records.specs.Record.{type_word, matrix_kind, array_kind}
use Rattle.spirv_members.proofs.MemberLaws.{step_matrix, step_none, step_array, step_last, matrix-width}
use Rattle.spirv_members.proofs.column_step.Goals as goal

pub column_step-requires : goal.column_step-requires
column_step-requires c =
    let a = c.args in
    let e = eqb-true (type_word a.tables.types.now c.loop.k 0) matrix_kind (sym c.is_of_kind.ensures ∙ c.if-is_of_kind.true) in
    rw c.type_word-width.ensures (matrix-width a.tables.types.now c.loop.k a.tables.bounded e)

pub returns-then-is_of_kind : goal.returns-then-is_of_kind
returns-then-is_of_kind c =
    let a = c.args in
    let e = eqb-true (type_word a.tables.types.now c.loop.k 0) matrix_kind (sym c.is_of_kind.ensures ∙ c.if-is_of_kind.true) in
    let one : suc a.t - c.loop.counter ≡ suc (a.t - c.loop.counter) = omega (arith, c.loop-test.true) in
    rw (c.column_step.ensures, c.type_word-rows.ensures, c.type_word-width.ensures)
    (sym (step_matrix a.tables.types.now c.loop.k (a.t - c.loop.counter) e) ∙ rw one at c.loop.invariant)

pub returns-then-not-is_of_kind : goal.returns-then-not-is_of_kind
returns-then-not-is_of_kind c =
    let a = c.args in
    let m = eqb-false (type_word a.tables.types.now c.loop.k 0) matrix_kind (sym c.is_of_kind.ensures ∙ c.if-is_of_kind.false) in
    let n = eqb-false (type_word a.tables.types.now c.loop.k 0) array_kind (sym c.is_of_kind-in-loop.ensures ∙ c.if-not-is_of_kind.true) in
    let one : suc a.t - c.loop.counter ≡ suc (a.t - c.loop.counter) = omega (arith, c.loop-test.true) in
    sym (step_none a.tables.types.now c.loop.k (a.t - c.loop.counter) m n) ∙ rw one at c.loop.invariant

pub loop-preserved : goal.loop-preserved
loop-preserved c =
    let a = c.args in
    let e = eqb-true (type_word a.tables.types.now c.loop.k 0) array_kind (sym c.is_of_kind-in-loop.ensures ∙ c.if-not-is_of_kind.false) in
    let one : suc a.t - c.loop.counter ≡ suc (a.t - c.loop.counter) = omega (arith, c.loop-test.true) in
    let less : suc a.t - (c.loop.counter + 1) ≡ a.t - c.loop.counter = omega (arith, c.loop-test.true) in
    rw (less, c.type_word-k.ensures) (sym (step_array a.tables.types.now c.loop.k (a.t - c.loop.counter) e) ∙ rw one at c.loop.invariant)

pub returns-else-not-is_of_kind : goal.returns-else-not-is_of_kind
returns-else-not-is_of_kind c =
    let a = c.args in
    let e = eqb-true (type_word a.tables.types.now c.loop.k 0) array_kind (sym c.is_of_kind-in-loop.ensures ∙ c.if-not-is_of_kind.false) in
    let last : suc a.t - c.loop.counter ≡ 1 = search rules in
    sym (step_last a.tables.types.now c.loop.k e) ∙ rw last at c.loop.invariant
