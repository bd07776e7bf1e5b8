use Rattle.std.proofs.Common.{rules, Err, ◌≡◌, refl}
use Rattle.ir_records.specs.Record.{inner_of, type_count, type_inner}
use Rattle.proc_type_alignment.specs.Serving.{layouts_in}
use Rattle.valid_type_info.specs.TypeInfo.{rows_in}
use Rattle.valid_types.specs.ValidateType.{non_data_flags, flags_of, uniform_of, storage_of, immediates_of, row_of}
use Rattle.valid_types.proofs.TypeRowLaws.{layout_refused, flags_refused, row_made}
use Rattle.valid_types.proofs.pointer_row.Goals as goal

pub returns-in_err-layout : goal.returns-in_err-layout
returns-in_err-layout c =
    let a = c.args in
    let same : c.from_residual.result ≡ Err c.in_err-layout.field-0.0 = search rules in
    λ k.
    layout_refused k (type_count a.types.now) (type_inner a.types.now) a.rows.now 5 a.w _ (λ m i members. c.pointer_layout.ensures m i (layouts_in a.rows.now) members) _ c.in_err-layout.was _ same

pub returns-in_err-flags : goal.returns-in_err-flags
unfolding inner_of flags_of non_data_flags rows_in
returns-in_err-flags c =
    let a = c.args in
    let same : c.from_residual-in_err-flags.result ≡ Err c.in_err-flags.field-0.0 = search rules in
    λ k.
    flags_refused k (type_count a.types.now) (type_inner a.types.now) a.rows.now 5 a.w _ (λ m i members. c.pointer_layout.ensures m i (layouts_in a.rows.now) members)
    _ c.in_ok-layout.was _ (λ members. rw c.row_word-base.ensures at c.pointer_to.ensures) _ c.in_err-flags.was _ same

pub returns : goal.returns
unfolding inner_of flags_of non_data_flags rows_in uniform_of storage_of immediates_of row_of
returns c =
    let a = c.args in
    λ k.
    row_made k (type_count a.types.now) (type_inner a.types.now) a.rows.now 5 a.w _ (λ m i members. c.pointer_layout.ensures m i (layouts_in a.rows.now) members)
    c.in_ok-layout.layout c.in_ok-layout.was c.pointer_to.result (λ members. rw c.row_word-base.ensures at c.pointer_to.ensures) c.in_ok-flags.flags c.in_ok-flags.was
    c.handle.result (λ least m i members h. rw c.handle.ensures refl)
