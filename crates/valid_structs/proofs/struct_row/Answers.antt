use Rattle.std.proofs.Common.{rules, Err, ◌≡◌}
use Rattle.ir_records.specs.Refusal.{judged}
use mathlib.Core.Path.{refl, sym, ◌∙◌, ap}
use Prim.Native.Nat.{◌*◌}
use lib.ListN.{take, drop}
use Rattle.ir_records.specs.Record.{member_words, member_count, type_inner}
use Rattle.ir_records.specs.Fields.{sources_located}
use Rattle.ir_records.proofs.ResultLaws.{required, refused_twice, T_true}
use Rattle.proc_type_alignment.specs.TypeAlignment.{members_alignment}
use Rattle.proc_type_alignment.specs.Serving.{layouts_in, located_result}
use Rattle.proc_type_alignment.proofs.AcceptedAlignment.{members_earlier}
use Rattle.proc_type_layout.proofs.TypeLayoutLaws.{members-within}
use Rattle.valid_type_info.specs.Verdict.{least_for}
use Rattle.valid_structs.proofs.RecordRowLaws.{struct_row_is, struct_row_refused}
use Rattle.valid_structs.proofs.struct_row.Goals as goal

pub returns-in_err-struct_fields : goal.returns-in_err-struct_fields
returns-in_err-struct_fields c =
    let a = c.args in
    let same : c.from_residual.result ≡ Err c.in_err-struct_fields.field-0.0 = search rules in
    λ n. let told = rw c.member_count.ensures at (c.in_err-struct_fields.ensures a.w.c) in
    rw (told.1, refused_twice 2 0 0 (sources_located (take (a.w.b * member_words) (drop (a.w.a * member_words) a.members.now)))) (rw (same, told.0) refl, refl)

pub member_part-part-requires : goal.member_part-part-requires
member_part-part-requires c =
    let a = c.args in
    members-within (member_count a.members.now) a.w.a a.w.b a.w.c a.w.d a.w.e (rw c.member_count.ensures at (c.in_ok-struct_fields.ensures a.w.c))

pub members_row-requires : goal.members_row-requires
members_row-requires c =
    let s = c in
    let a = s.args in
    let part = c.member_part-part.result in
    let ls = layouts_in (take (a.i * 14) a.rows.now) in
    let e = (required (sources_located part.words.now) 2 0 0 (members_alignment ls a.i part.words.now part.count) _ (sym (rw (c.of.ensures.rows, c.of.ensures.i) at c.members_alignment.ensures.result_value) ∙ ap located_result c.in_ok-located.was)).1 in
    record { i_in_bounds = s.requires.i_in_bounds; i_in_bounds_2 = s.requires.i_in_bounds_2; by_index = members_earlier ls a.i part.words.now part.count _ e; sourceless = rw c.in_ok-located.was at c.members_alignment.ensures.sources_told }

pub returns : goal.returns
returns c =
    let a = c.args in
    let m = member_count a.members.now in
    let fit = rw c.member_count.ensures at (c.in_ok-struct_fields.ensures a.w.c) in
    let e = rw (c.member_part-part.ensures.words, c.member_part-part.ensures.count) at (sym (rw (c.of.ensures.rows, c.of.ensures.i) at c.members_alignment.ensures.result_value) ∙ ap located_result c.in_ok-located.was) in
    let part = take (a.w.b * member_words) (drop (a.w.a * member_words) a.members.now) in
    let r = required (sources_located part) 2 0 0 _ _ e in
    λ n. rw (T_true (sources_located part) r.0, struct_row_is (least_for a.rule) a.capabilities m n (type_inner a.types.now) (take (a.i * 14) a.rows.now) a.i a.w.a a.w.b a.w.c a.w.d a.w.e _ fit _ r.1)
    (rw (c.member_part-part.ensures.words, c.member_part-part.ensures.count) at c.members_row.ensures)

pub returns-in_err-located : goal.returns-in_err-located
returns-in_err-located c =
    let a = c.args in
    let m = member_count a.members.now in
    let fit = rw c.member_count.ensures at (c.in_ok-struct_fields.ensures a.w.c) in
    let e = rw (c.member_part-part.ensures.words, c.member_part-part.ensures.count) at (sym (rw (c.of.ensures.rows, c.of.ensures.i) at c.members_alignment.ensures.result_value) ∙ ap located_result c.in_err-located.was) in
    let same : c.from_residual-in_err-located.result ≡ Err c.in_err-located.field-0.0 = search rules in
    λ n. rw (struct_row_refused (least_for a.rule) a.capabilities m n (type_inner a.types.now) (take (a.i * 14) a.rows.now) a.i a.w.a a.w.b a.w.c a.w.d a.w.e _ fit (sources_located (take (a.w.b * member_words) (drop (a.w.a * member_words) a.members.now))) e) (ap judged same, refl)
