-- `spirv_members::members_of` meets its contract. The invariant: none of the first j members is unsupported, and what is known of them.
-- Assumes nothing.
use borrow.Author.Rules.{rules}
use mathlib.Core.Path.{◌≡◌, refl}
use Rattle.std.specs.Prelude.{Err}
use Rattle.spirv_members.specs.Members.{members_unsupported, members_sound, last_end}
use Rattle.spirv_members.specs.Serving.{largest_alignment}
use Rattle.spirv_members.proofs.MemberLaws.{made_ok, made_err, unsupported_next, unsupported_at, seen_next}
use Rattle.spirv_members.proofs.members_of.Goals as goal

pub loop-j-init : goal.loop-j-init
unfolding members_unsupported members_sound largest_alignment last_end
loop-j-init c = (refl, refl)

pub returns-in_err-member : goal.returns-in_err-member
returns-in_err-member c =
    let a = c.args in
    let same : c.from_residual.result ≡ Err c.in_err-member.field-0.0 = search rules in
    let m = made_err _ _ c.in_err-member.field-0.0 c.in_err-member.ensures in
    let all = unsupported_at a.place.input.words.now a.tables.types.now a.tables.alignments.now a.place.at a.n c.loop-j.j c.loop-j-test.true m.0 in
    rw (same, m.1, all) refl

pub loop-j-preserved : goal.loop-j-preserved
loop-j-preserved c =
    let a = c.args in
    let l = c.loop-j in
    let ws = a.place.input.words.now in
    let m = made_ok _ _ c.in_ok-member.member c.in_ok-member.ensures in (
      unsupported_next ws a.tables.types.now a.tables.alignments.now a.place.at l.j l.invariant.0 m.0,
      rw c.with_member-seen.ensures (seen_next ws a.tables.types.now a.tables.alignments.now a.place.at l.j l.seen c.in_ok-member.member l.invariant.1 m.1),
    )
