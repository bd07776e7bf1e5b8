use Rattle.std.proofs.Common.{rules, Err}
use mathlib.Core.Path.{◌≡◌, refl}
use Rattle.ir_records.specs.Record.{inner_of}
use Rattle.ir_records.specs.Fields.{fields_ok}
use Rattle.proc_type_methods.specs.TypeMethods.{try_size}
use Rattle.proc_type_alignment.specs.TypeAlignment.{alignment_of}
use Rattle.proc_type_layout.specs.TypeLayout.{layout_of}
use Rattle.proc_type_layout.proofs.ray_query_layout.Goals as goal

pub returns-in_err-acceleration_fields : goal.returns-in_err-acceleration_fields
unfolding fields_ok
returns-in_err-acceleration_fields c =
    let same : c.from_residual.result ≡ Err c.in_err-acceleration_fields.field-0.0 = search rules in
    λ m n i layouts members. let told = c.in_err-acceleration_fields.ensures m in rw (same, told.0, told.1) refl

pub returns : goal.returns
unfolding fields_ok inner_of layout_of try_size alignment_of
returns c = λ m n i layouts members. rw (c.in_ok-acceleration_fields.ensures m, c.handle_layout.ensures) refl
