use Rattle.std.proofs.Common.{rules, Err, ◌≡◌, refl}
use Rattle.ir_records.specs.Record.{inner_of}
use Rattle.proc_type_alignment.specs.Serving.{layouts_in}
use Rattle.valid_types.specs.ValidateType.{non_data_flags, flags_of, uniform_of, storage_of, immediates_of, row_of}
use Rattle.valid_types.proofs.TypeRowLaws.{layout_refused, flags_refused, row_made}
use Rattle.valid_types.proofs.value_pointer_row.Goals as goal

pub returns-in_err-layout : goal.returns-in_err-layout
returns-in_err-layout c =
    let a = c.args in
    let same : c.from_residual.result ≡ Err c.in_err-layout.field-0.0 = search rules in
    λ n inner words.
    layout_refused a.capabilities n inner words 6 a.w _ (λ m i members. c.value_pointer_layout.ensures m n i (layouts_in words) members) _ c.in_err-layout.was _ same

pub returns-in_err-flags : goal.returns-in_err-flags
unfolding inner_of flags_of non_data_flags
returns-in_err-flags c =
    let a = c.args in
    let same : c.from_residual-in_err-flags.result ≡ Err c.in_err-flags.field-0.0 = search rules in
    λ n inner words.
    flags_refused a.capabilities n inner words 6 a.w _ (λ m i members. c.value_pointer_layout.ensures m n i (layouts_in words) members)
    _ c.in_ok-layout.was _ (λ members. c.value_pointer_flags.ensures) _ c.in_err-flags.was _ same

pub returns : goal.returns
unfolding inner_of flags_of non_data_flags uniform_of storage_of immediates_of row_of
returns c =
    let a = c.args in
    λ n inner words.
    row_made a.capabilities n inner words 6 a.w _ (λ m i members. c.value_pointer_layout.ensures m n i (layouts_in words) members)
    c.in_ok-layout.layout c.in_ok-layout.was c.value_pointer_flags.result (λ members. c.value_pointer_flags.ensures) c.in_ok-flags.flags c.in_ok-flags.was
    c.handle.result (λ least m i members h. rw c.handle.ensures refl)
