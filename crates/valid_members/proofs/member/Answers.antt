use Rattle.std.proofs.Common.{rules, Err, ◌≡◌}
use mathlib.Core.Path.{refl, sym}
use Rattle.ir_records.specs.Record.{type_inner}
use Rattle.valid_type_info.specs.TypeInfo.{rows_in}
use Rattle.valid_type_info.specs.Verdict.{least_for}
use Rattle.valid_type_info.specs.Serving.{is_within}
use Rattle.valid_members.specs.Serving.{member_step}
use Rattle.valid_member_bounds.specs.MemberBounds.{is_array}
use Rattle.valid_member_bounds.proofs.BoundsLaws.{bounds-within}
use Rattle.valid_member_rules.proofs.RuleLaws.{uniform-by}
use Rattle.valid_members.proofs.member.Goals as goal

pub returns : goal.returns
unfolding member_step rows_in
returns c =
    let a = c.args in
    let row = rows_in a.s.now.before.rows.now a.m.t in
    let d = c.distance_to-d in
    let by = rw (c.is_array.ensures, c.word.ensures, c.word-2.ensures, c.in_ok-bounds.was) at c.member_bounds.ensures in
    let told = bounds-within a.s.now.part.count a.s.now.span (is_within d.result) (is_array (type_inner a.s.now.types.now a.m.t)) a.m.offset a.m.j row.size row.flags a.state.bounds c.in_ok-bounds.bounds (sym by) in
    let taken = rw d.ensures.within at by in
    let uniform = uniform-by (least_for a.rule) d.result a.state.previous a.m.i a.m.j a.m.t a.m.offset row a.state.uniform (λ v. d.ensures.verdict a.rule a.m.i a.m.j v told) in
    rw (c.after_member.ensures, ← taken, uniform) refl

pub returns-in_err-bounds : goal.returns-in_err-bounds
unfolding member_step rows_in
returns-in_err-bounds c =
    let within = c.distance_to-d.ensures.within in
    let refused = rw (c.is_array.ensures, c.word.ensures, c.word-2.ensures, c.in_err-bounds.was, within) at c.member_bounds.ensures in
    let same : c.from_residual.result ≡ Err c.in_err-bounds.field-0.0 = search rules in
    rw (same, ← refused) refl
