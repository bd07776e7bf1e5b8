use Rattle.std.proofs.Common.{rules, Err, ◌≡◌, refl}
use Rattle.ir_records.specs.Record.{inner_of}
use Rattle.ir_records.specs.Fields.{fields_ok}
use Rattle.proc_type_methods.specs.TypeMethods.{try_size}
use Rattle.proc_type_alignment.specs.TypeAlignment.{alignment_of}
use Rattle.proc_type_layout.specs.TypeLayout.{layout_of}
use Rattle.proc_type_alignment.specs.Serving.{layouts_in}
use Rattle.valid_type_flags.specs.TypeFlags.{leaf_flags}
use Rattle.valid_types.specs.ValidateType.{flags_of, uniform_of, storage_of, immediates_of, row_of}
use Rattle.valid_types.proofs.TypeRowLaws.{layout_refused, flags_refused, row_made}
use Rattle.valid_types.proofs.atomic_row.Goals as goal

pub returns-in_err-layout : goal.returns-in_err-layout
unfolding inner_of fields_ok layout_of try_size alignment_of
returns-in_err-layout c =
    let a = c.args in
    let same : c.from_residual.result ≡ Err c.in_err-layout.field-0.0 = search rules in
    λ n inner words.
    layout_refused a.capabilities n inner words 4 a.w _ (λ m i members. c.scalar_layout.ensures m n i (layouts_in words) members) _ c.in_err-layout.was _ same

pub returns-in_err-flags : goal.returns-in_err-flags
unfolding inner_of fields_ok layout_of try_size alignment_of flags_of leaf_flags
returns-in_err-flags c =
    let a = c.args in
    let same : c.from_residual-in_err-flags.result ≡ Err c.in_err-flags.field-0.0 = search rules in
    λ n inner words.
    flags_refused a.capabilities n inner words 4 a.w _ (λ m i members. c.scalar_layout.ensures m n i (layouts_in words) members)
    _ c.in_ok-layout.was _ (λ members. c.atomic_flags.ensures) _ c.in_err-flags.was _ same

pub returns : goal.returns
unfolding inner_of fields_ok layout_of try_size alignment_of flags_of leaf_flags uniform_of storage_of immediates_of row_of
returns c =
    let a = c.args in
    λ n inner words.
    row_made a.capabilities n inner words 4 a.w _ (λ m i members. c.scalar_layout.ensures m n i (layouts_in words) members)
    c.in_ok-layout.layout c.in_ok-layout.was c.atomic_flags.result (λ members. c.atomic_flags.ensures) c.in_ok-flags.flags c.in_ok-flags.was
    _ (λ least m i members h. refl)
