-- `immediates_slots::check_type` meets its contract: the arena's refusal comes before 26. Assumes nothing.
use mathlib.Core.Path.{◌≡◌, refl, sym, ap, ◌∙◌}
use native.Mathlib.Omega.{arith}
use borrow.Author.Tests.{lt-ltb, le-ltb}
use Prim.Native.Nat.{◌<◌}
use Rattle.std.proofs.Common.{rules, Err}
use Rattle.ir_records.specs.Record.{type_count}
use Rattle.ir_records.specs.Refusal.{outcome_of}
use Rattle.immediates_slots.proofs.check_type.Goals as goal

pub returns-then-type_count-ty : goal.returns-then-type_count-ty
returns-then-type_count-ty c =
    let a = c.args in
    let check = c.check.ensures in
    let accepted = sym check.value ∙ ap outcome_of c.in_ok-check.was in
    record { value = rw (accepted, le-ltb a.ty (type_count a.types.now) (rw c.type_count.ensures at c.if-type_count-ty.true), c.of.ensures) refl; rows_after = check.rows_after }

pub returns : goal.returns
returns c =
    let a = c.args in
    let check = c.check.ensures in
    let accepted = sym check.value ∙ ap outcome_of c.in_ok-check.was in
    let within : a.ty < type_count a.types.now = omega (arith, c.type_count.ensures, c.if-type_count-ty.false) in
    record { value = rw (accepted, lt-ltb a.ty (type_count a.types.now) within) refl; rows_after = check.rows_after }

pub returns-in_err-check : goal.returns-in_err-check
returns-in_err-check c =
    let same : c.from_residual.result ≡ Err c.in_err-check.field-0.0 = search rules in
    let check = c.check.ensures in
    let refused = sym check.value ∙ ap outcome_of c.in_err-check.was in
    record { value = ap outcome_of same ∙ rw refused refl; rows_after = check.rows_after }
