use Rattle.std.proofs.Common.{rules, Err}
use mathlib.Core.Path.{◌≡◌, sym, ◌∙◌, ap}
use Prim.Native.Nat.{ℕ}
use Rattle.ir_records.specs.Result.{Result, ok, and_then}
use Rattle.ir_records.specs.Record.{inner_of}
use Rattle.ir_records.specs.Refusal.{judged}
use Rattle.proc_type_methods.specs.Serving.{size_result}
use Rattle.proc_type_alignment.specs.TypeAlignment.{base_alignment}
use Rattle.proc_type_alignment.specs.Serving.{layouts_in}
use Rattle.proc_type_layout.specs.TypeLayout.{sized_layout}
use Rattle.proc_type_layout.proofs.TypeLayoutLaws.{array_laid, no_size, some_size}
use Rattle.proc_type_layout.proofs.array_record.Goals as goal

pub returns-in_err-size : goal.returns-in_err-size
unfolding inner_of
returns-in_err-size c =
    let a = c.args in
    let ls = layouts_in a.rows.now in
    let same : c.from_residual-in_err-size.result ≡ Err c.in_err-size.field-0.0 = search rules in
    let none = no_size c.size_by_count.result c.of.result c.in_err-size.field-0.0 (sym c.ok_or.ensures.value ∙ c.in_err-size.was) in
    let late : size_result c.size_by_count.result ≡ _ = rw c.array_size.ensures at c.size_by_count.ensures in
    λ m n members.
    rw (c.in_ok-array_fields.ensures m a.w.a a.w.d)
    (ap judged same ∙ rw (none.1, c.of.ensures)
    (ap (λ (o : Result ℕ). and_then o (sized_layout (base_alignment ls a.i a.w.a))) (ap size_result (sym none.0) ∙ late) ∙ array_laid ls a.i a.w.a a.w.b a.w.c a.w.d members))

pub returns-in_err-alignment : goal.returns-in_err-alignment
unfolding inner_of
returns-in_err-alignment c =
    let a = c.args in
    let ls = layouts_in a.rows.now in
    let same : c.from_residual-in_err-alignment.result ≡ Err c.in_err-alignment.field-0.0 = search rules in
    let some = some_size c.size_by_count.result c.of.result c.in_ok-size.size (sym c.ok_or.ensures.value ∙ c.in_ok-size.was) in
    let sized : ok c.in_ok-size.size ≡ _ = ap size_result (sym some) ∙ (rw c.array_size.ensures at c.size_by_count.ensures) in
    λ m n members.
    rw (c.in_ok-array_fields.ensures m a.w.a a.w.d)
    (ap judged same ∙ ap (λ (o : Result ℕ). sized_layout o c.in_ok-size.size) (ap judged (sym c.in_err-alignment.was) ∙ c.base_alignment.ensures)
    ∙ ap (λ (o : Result ℕ). and_then o (sized_layout (base_alignment ls a.i a.w.a))) sized ∙ array_laid ls a.i a.w.a a.w.b a.w.c a.w.d members)

pub returns : goal.returns
unfolding inner_of
returns c =
    let a = c.args in
    let ls = layouts_in a.rows.now in
    let some = some_size c.size_by_count.result c.of.result c.in_ok-size.size (sym c.ok_or.ensures.value ∙ c.in_ok-size.was) in
    let sized : ok c.in_ok-size.size ≡ _ = ap size_result (sym some) ∙ (rw c.array_size.ensures at c.size_by_count.ensures) in
    λ m n members.
    rw (c.in_ok-array_fields.ensures m a.w.a a.w.d)
    (ap (λ (o : Result ℕ). sized_layout o c.in_ok-size.size) (ap judged (sym c.in_ok-alignment.was) ∙ c.base_alignment.ensures)
    ∙ ap (λ (o : Result ℕ). and_then o (sized_layout (base_alignment ls a.i a.w.a))) sized ∙ array_laid ls a.i a.w.a a.w.b a.w.c a.w.d members)
