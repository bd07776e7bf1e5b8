use Rattle.std.proofs.Common.{rules, Err}
use mathlib.Core.Path.{◌≡◌, sym, ◌∙◌, ap}
use Prim.Native.Nat.{ℕ, ◌*◌}
use lib.ListN.{take, drop}
use Rattle.ir_records.specs.Result.{Result, ok}
use Rattle.ir_records.specs.Refusal.{judged}
use Rattle.ir_records.specs.Record.{member_words, member_count, inner_of}
use Rattle.ir_records.specs.Fields.{sources_located}
use Rattle.ir_records.proofs.ResultLaws.{refused_twice, require_then}
use Rattle.proc_type_methods.specs.TypeMethods.{try_size}
use Rattle.proc_type_alignment.specs.TypeAlignment.{members_alignment, alignment_of}
use Rattle.proc_type_alignment.specs.Serving.{layouts_in, located_result}
use Rattle.proc_type_layout.specs.TypeLayout.{sized_layout, layout_of}
use Rattle.proc_type_layout.proofs.TypeLayoutLaws.{members-within}
use Rattle.proc_type_layout.proofs.struct_record.Goals as goal

pub member_part-part-requires : goal.member_part-part-requires
member_part-part-requires c =
    let a = c.args in
    members-within (member_count a.members.now) a.w.a a.w.b a.w.c a.w.d a.w.e (rw c.member_count.ensures at (c.in_ok-struct_fields.ensures a.w.c))

pub returns-in_err-located : goal.returns-in_err-located
unfolding inner_of layout_of try_size alignment_of
returns-in_err-located c =
    let a = c.args in
    let part = take (a.w.b * member_words) (drop (a.w.a * member_words) a.members.now) in
    let located = rw (c.member_part-part.ensures.words, c.member_part-part.ensures.count) at c.members_alignment.ensures.result_value in
    let same : c.from_residual-in_err-located.result ≡ Err c.in_err-located.field-0.0 = search rules in
    λ n. rw (rw c.member_count.ensures at (c.in_ok-struct_fields.ensures a.w.c))
    (ap judged same ∙ ap (λ (o : Result ℕ). sized_layout o a.w.c) (ap located_result (sym c.in_err-located.was) ∙ located)
    ∙ sym (require_then (sources_located part) 2 0 0 (members_alignment (layouts_in a.before.rows.now) a.before.i part a.w.b) (λ x. ok (record { size = a.w.c; alignment = x }))))

pub returns : goal.returns
unfolding inner_of layout_of try_size alignment_of
returns c =
    let a = c.args in
    let part = take (a.w.b * member_words) (drop (a.w.a * member_words) a.members.now) in
    let located = rw (c.member_part-part.ensures.words, c.member_part-part.ensures.count) at c.members_alignment.ensures.result_value in
    λ n. rw (rw c.member_count.ensures at (c.in_ok-struct_fields.ensures a.w.c))
    (ap (λ (o : Result ℕ). sized_layout o a.w.c) (ap located_result (sym c.in_ok-located.was) ∙ located)
    ∙ sym (require_then (sources_located part) 2 0 0 (members_alignment (layouts_in a.before.rows.now) a.before.i part a.w.b) (λ x. ok (record { size = a.w.c; alignment = x }))))

-- a field outside its set
pub returns-in_err-struct_fields : goal.returns-in_err-struct_fields
returns-in_err-struct_fields c =
    let a = c.args in
    let same : c.from_residual.result ≡ Err c.in_err-struct_fields.field-0.0 = search rules in
    λ n. let told = rw c.member_count.ensures at (c.in_err-struct_fields.ensures a.w.c) in
    rw (same, told.0, told.1) (sym (refused_twice 2 0 0 (sources_located (take (a.w.b * member_words) (drop (a.w.a * member_words) a.members.now)))))
