use Rattle.std.proofs.Common.{rules, Err}
use mathlib.Core.Path.{◌≡◌, sym, ◌∙◌, ap}
use Prim.Native.Nat.{ℕ}
use native.Mathlib.Omega.{arith}
use Rattle.ir_records.specs.Result.{Result}
use Rattle.ir_records.specs.Refusal.{judged}
use Rattle.ir_records.specs.Record.{inner_of}
use Rattle.proc_type_methods.specs.TypeMethods.{try_size}
use Rattle.proc_type_alignment.specs.TypeAlignment.{alignment_of}
use Rattle.proc_type_layout.specs.TypeLayout.{sized_layout, layout_of}
use Rattle.proc_type_layout.proofs.TypeLayoutLaws.{taken_bounds}
use Rattle.proc_type_layout.proofs.scalar_layout.Goals as goal

pub leaf_alignment-requires : goal.leaf_alignment-requires
unfolding inner_of
leaf_alignment-requires c =
    let a = c.args in
    let b = taken_bounds 0 a.w.a a.w.b a.w.c a.w.d a.w.e c.in_ok-scalar_fields.ensures in
    record { factor_bound = omega arith; width_bound = b }

pub returns-in_err-alignment : goal.returns-in_err-alignment
unfolding inner_of layout_of try_size alignment_of
returns-in_err-alignment c =
    let a = c.args in
    let same : c.from_residual-in_err-alignment.result ≡ Err c.in_err-alignment.field-0.0 = search rules in
    λ m n i layouts members.
    rw (c.in_ok-scalar_fields.ensures m) (ap judged same ∙ ap (λ (o : Result ℕ). sized_layout o (a.w.b)) (ap judged (sym c.in_err-alignment.was) ∙ c.leaf_alignment.ensures))

pub returns : goal.returns
unfolding inner_of layout_of try_size alignment_of
returns c =
    let a = c.args in
    λ m n i layouts members.
    rw (c.in_ok-scalar_fields.ensures m) (ap (λ (o : Result ℕ). sized_layout o (a.w.b)) (ap judged (sym c.in_ok-alignment.was) ∙ c.leaf_alignment.ensures))
