use mathlib.Core.Path.{refl}
use Rattle.ir_records.specs.Record.{inner_of}
use Rattle.proc_type_methods.specs.TypeMethods.{try_size}
use Rattle.proc_type_alignment.specs.TypeAlignment.{alignment_of}
use Rattle.proc_type_layout.specs.TypeLayout.{layout_of}
use Rattle.proc_type_layout.proofs.image_layout.Goals as goal

pub returns : goal.returns
unfolding inner_of layout_of try_size alignment_of
returns c = λ m n i layouts members. rw (c.in_ok-image_fields.ensures m, c.handle_layout.ensures) refl
