use Rattle.std.proofs.Common.{rules, Err}
use mathlib.Core.Path.{◌≡◌, refl, sym, ◌∙◌, ap}
use lib.Dec.{ltb}
use Rattle.ir_records.specs.Record.{inner_of, type_count}
use Rattle.ir_records.specs.Refusal.{judged}
use Rattle.ir_records.proofs.ResultLaws.{passed, refused_first}
use Rattle.proc_type_methods.specs.TypeMethods.{try_size}
use Rattle.proc_type_alignment.specs.TypeAlignment.{alignment_of}
use Rattle.proc_type_layout.specs.TypeLayout.{layout_of}
use Rattle.proc_type_layout.proofs.pointer_layout.Goals as goal

pub returns-in_err-base_within : goal.returns-in_err-base_within
returns-in_err-base_within c =
    let a = c.args in
    let same : c.from_residual-in_err-base_within.result ≡ Err c.in_err-base_within.field-0.0 = search rules in
    λ m i layouts members.
    rw (c.in_ok-pointer_fields.ensures m a.w.a)
    (ap judged same ∙ refused_first (ltb a.w.a (type_count a.types.now)) 3 0 0 _ _ _ _ (ap judged (sym c.in_err-base_within.was) ∙ c.base_within.ensures))

pub returns : goal.returns
unfolding inner_of layout_of try_size alignment_of
returns c =
    let a = c.args in
    λ m i layouts members.
    rw (c.in_ok-pointer_fields.ensures m a.w.a, passed (ltb a.w.a (type_count a.types.now)) 3 0 0 (ap judged (sym c.in_ok-base_within.was) ∙ c.base_within.ensures), c.handle_layout.ensures) refl
