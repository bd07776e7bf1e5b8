use Rattle.std.proofs.Common.{rules, Err, ◌≡◌}
use mathlib.Core.Path.{refl, sym, ◌∙◌, ap}
use Prim.Native.Nat.{◌*◌, ◌<◌}
use native.Mathlib.Omega.{arith}
use lib.ListN.{take}
use borrow.Author.Tests.{lt-ltb}
use Rattle.ir_records.specs.Record.{type_inner}
use Rattle.valid_flags.specs.Flags.{bit}
use Rattle.valid_width.specs.Width.{dual_source_blending}
use Rattle.valid_type_info.specs.TypeInfo.{rows_in, row_sizes, row_flags}
use Rattle.ir_records.specs.Refusal.{judged}
use Rattle.valid_blend.proofs.BlendLaws.{blended_refused, flags_taken, flags_refused}
use Rattle.valid_types.specs.ValidateType.{judge, flags_of, row_of, uniform_of, storage_of, immediates_of}
use Rattle.ir_rows.specs.Rows.{row_word}
use Rattle.valid_structs.proofs.StartLaws.{flags_in}
use Rattle.valid_structs.proofs.members_row.Goals as goal

pub returns-then-part-eq0 : goal.returns-then-part-eq0
unfolding judge flags_of
returns-then-part-eq0 c = rw c.if-part-eq0.true (rw c.of.ensures refl, refl)

pub put-requires : goal.put-requires
put-requires c = c.requires.i_in_bounds

pub source_before-requires : goal.source_before-requires
source_before-requires c =
    let a = c.args in
    let p = c.requires in
    let error = rw (c.in-Err.is, c.of-before.ensures.rows) at c.members_of.ensures in
    let below = (blended_refused (bit a.capabilities dual_source_blending) (type_inner a.types.now) (row_sizes (rows_in (take (a.i * 14) a.rows.now))) (row_flags (rows_in (take (a.i * 14) a.rows.now))) a.part.count a.span a.part.words.now a.part.count _ _ _ error).0 in
    record { member_words_in_bounds = omega (arith, below, c.args.part.counted); member_bound = omega (arith, below); sourceless = p.sourceless }

pub returns-in_ok-flags-in-Ok : goal.returns-in_ok-flags-in-Ok
unfolding judge flags_of row_of uniform_of storage_of immediates_of
returns-in_ok-flags-in-Ok c =
    let a = c.args in
    let some : 0 < a.part.count = omega (arith, c.if-part-eq0.false) in
    let inner = type_inner a.types.now in
    let rows = rows_in (take (a.i * 14) a.rows.now) in
    let dual = bit a.capabilities dual_source_blending in
    let parts = rw (c.in-Ok.is, c.of-before.ensures.rows, c.of-before.ensures.i) at c.members_of.ensures in
    let flags = flags_taken dual inner (row_sizes rows) (row_flags rows) a.part.count a.span a.part.words.now _ parts.0 ∙ sym (rw c.of-before.ensures.rows at (c.blended_flags.ensures (row_flags (rows_in c.of-before.result.rows.now)) (λ t r b h. let told : r ≡ row_word c.of-before.result.rows.now t 2 = search rules in told ∙ flags_in c.of-before.result.rows.now t))) ∙ ap judged c.in_ok-flags-in-Ok.was in
    rw (lt-ltb 0 a.part.count some, flags, parts.1, parts.2, parts.3)
    (refl, rw (c.span_verdict-uniform.ensures, c.span_verdict-storage.ensures) at c.put.ensures)

pub returns-in_err-flags-in-Ok : goal.returns-in_err-flags-in-Ok
unfolding judge flags_of
returns-in_err-flags-in-Ok c =
    let a = c.args in
    let some : 0 < a.part.count = omega (arith, c.if-part-eq0.false) in
    let inner = type_inner a.types.now in
    let rows = rows_in (take (a.i * 14) a.rows.now) in
    let dual = bit a.capabilities dual_source_blending in
    let parts = rw (c.in-Ok.is, c.of-before.ensures.rows, c.of-before.ensures.i) at c.members_of.ensures in
    let flags = flags_taken dual inner (row_sizes rows) (row_flags rows) a.part.count a.span a.part.words.now _ parts.0 ∙ sym (rw c.of-before.ensures.rows at (c.blended_flags.ensures (row_flags (rows_in c.of-before.result.rows.now)) (λ t r b h. let told : r ≡ row_word c.of-before.result.rows.now t 2 = search rules in told ∙ flags_in c.of-before.result.rows.now t))) ∙ ap judged c.in_err-flags-in-Ok.was in
    let same : c.from_residual.result ≡ Err c.in_err-flags-in-Ok.field-0.0 = search rules in
    rw (lt-ltb 0 a.part.count some, flags) (ap judged same, refl)

pub returns-in_ok-source_before-in-Err : goal.returns-in_ok-source_before-in-Err
unfolding judge flags_of
returns-in_ok-source_before-in-Err c =
    let a = c.args in
    let some : 0 < a.part.count = omega (arith, c.if-part-eq0.false) in
    let inner = type_inner a.types.now in
    let rows = rows_in (take (a.i * 14) a.rows.now) in
    let dual = bit a.capabilities dual_source_blending in
    let error = rw (c.in-Err.is, c.of-before.ensures.rows) at c.members_of.ensures in
    let source = sym c.source_before.ensures ∙ ap judged c.in_ok-source_before-in-Err.was in
    let flags = flags_refused dual inner (row_sizes rows) (row_flags rows) a.part.count a.span a.part.words.now _ _ _ error in
    rw (lt-ltb 0 a.part.count some, flags, source) (refl, refl)

pub returns-in_err-source_before-in-Err : goal.returns-in_err-source_before-in-Err
unfolding judge flags_of
returns-in_err-source_before-in-Err c =
    let a = c.args in
    let some : 0 < a.part.count = omega (arith, c.if-part-eq0.false) in
    let inner = type_inner a.types.now in
    let rows = rows_in (take (a.i * 14) a.rows.now) in
    let dual = bit a.capabilities dual_source_blending in
    let error = rw (c.in-Err.is, c.of-before.ensures.rows) at c.members_of.ensures in
    let source = sym c.source_before.ensures ∙ ap judged c.in_err-source_before-in-Err.was in
    let same : c.from_residual-in_err-source_before-in-Err.result ≡ Err c.in_err-source_before-in-Err.field-0.0 = search rules in
    let flags = flags_refused dual inner (row_sizes rows) (row_flags rows) a.part.count a.span a.part.words.now _ _ _ error in
    rw (lt-ltb 0 a.part.count some, flags, source) (ap judged same, refl)
