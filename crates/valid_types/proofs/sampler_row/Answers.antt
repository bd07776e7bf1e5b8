use Rattle.std.proofs.Common.{rules, Err, Ok, ◌≡◌, refl}
use Rattle.ir_records.specs.Record.{inner_of}
use Rattle.proc_type_alignment.specs.Serving.{layouts_in}
use Rattle.valid_types.specs.ValidateType.{non_data_flags, flags_of, uniform_of, storage_of, immediates_of, row_of}
use Rattle.valid_types.proofs.TypeRowLaws.{layout_refused, row_made}
use Rattle.valid_types.proofs.sampler_row.Goals as goal

pub returns-in_err-layout : goal.returns-in_err-layout
returns-in_err-layout c =
    let a = c.args in
    let same : c.from_residual.result ≡ Err c.in_err-layout.field-0.0 = search rules in
    λ k n inner words.
    layout_refused k n inner words 10 a.w _ (λ m i members. c.sampler_layout.ensures m n i (layouts_in words) members) _ c.in_err-layout.was _ same

pub returns : goal.returns
unfolding inner_of flags_of non_data_flags uniform_of storage_of immediates_of row_of
returns c =
    let a = c.args in
    λ k n inner words.
    row_made k n inner words 10 a.w _ (λ m i members. c.sampler_layout.ensures m n i (layouts_in words) members)
    c.in_ok-layout.layout c.in_ok-layout.was (Ok c.starting_flags.result) (λ members. rw c.starting_flags.ensures refl) c.starting_flags.result refl
    c.handle.result (λ least m i members h. rw c.handle.ensures refl)
