use mathlib.Core.Path.{◌≡◌, sym, ◌∙◌}
use mathlib.Core.Bool.{true}
use Rattle.std.proofs.Common.{rules}
use Prim.Native.Nat.{◌+◌}
use Rattle.ir_records.specs.Record.{type_inner}
use Rattle.valid_type_info.specs.TypeInfo.{rows_in}
use Rattle.valid_type_info.specs.Verdict.{least_for, struct_at}
use Rattle.valid_type_info.specs.Serving.{is_within}
use Rattle.valid_member_bounds.specs.MemberBounds.{is_array}
use Rattle.valid_member_rules.proofs.RuleLaws.{uniform-by}
use Rattle.valid_members.proofs.StateLaws.{ordered-step}
use Rattle.valid_members.proofs.ordered_member.Goals as goal

pub returns : goal.returns
unfolding rows_in
returns c = λ count.
    let a = c.args in
    let d = c.distance_to-d in
    let row = rows_in a.s.now.before.rows.now a.m.t in
    let inner = type_inner a.s.now.types.now a.m.t in
    let in_order = c.is_in_order.ensures (c.if-not-is_in_order.false) in
    let end : c.end_of-end.result ≡ a.m.offset + row.size = rw c.word.ensures at c.end_of-end.ensures in
    let inside = rw end at in_order.inside in
    let told : is_within d.result ≡ true = sym c.is_within.ensures ∙ c.if-not-is_within.false in
    let within = sym d.ensures.within ∙ told in
    let step = ordered-step (least_for a.rule) a.m.i count a.s.now.span a.m.j a.m.t a.m.offset (is_array inner) (struct_at inner a.m.offset) row a.state (rw c.word-flags.ensures at in_order.sized_data) in_order.apart inside (search rules) within in
    let uniform = uniform-by (least_for a.rule) d.result a.state.previous a.m.i a.m.j a.m.t a.m.offset row a.state.uniform (λ v. d.ensures.verdict a.rule a.m.i a.m.j v told) in
    rw (c.after_member.ensures, c.both.ensures, c.word-flags.ensures, end, uniform) step
