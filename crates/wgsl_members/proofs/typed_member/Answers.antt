use Rattle.std.proofs.Common.{rules, ◌<◌, ap, arith}
use borrow.Author.Tests.{lt-ltb}
use Rattle.std.proofs.lemmas.Result.{err_from_is_err_and}
use Rattle.wgsl_grammar.specs.Grammar.{read}
use Rattle.wgsl_members.specs.Members.{typed_member}
use Rattle.wgsl_members.specs.Serving.{tables}
use Rattle.wgsl_members.proofs.MemberLaws.{member_type, placed_bounds, placed_kept, placed_read}
use Rattle.wgsl_members.proofs.typed_member.Goals as goal

pub returns-in_err-closed : goal.returns-in_err-closed
unfolding typed_member
returns-in_err-closed c =
    let a = c.args in
    let p = err_from_is_err_and c.from_residual.result c.from_residual.ensures.1 in
    let m = member_type a.s.now a.room.types a.body.made.types a.types.now c.read_type-read.new.types _ a.attributes _ (λ e r k. search rules) c.read_type-read.result c.map_err.result c.map_err.ensures.cases c.read_type-read.ensures in
    let e = rw c.in_err-closed.was at m in
    rw (p.1, p.2) (e a.room _ _)

pub returns : goal.returns
unfolding typed_member
returns c =
    let a = c.args in
    let s = a.s.now in
    let x = c.in_ok-closed.closed in
    let m = member_type s a.room.types a.body.made.types a.types.now c.read_type-read.new.types _ a.attributes _ (λ e r k. search rules) c.read_type-read.result c.map_err.result c.map_err.ensures.cases c.read_type-read.ensures in
    let t = rw c.in_ok-closed.was at m in
    let f = c.in_ok-fit.ensures in
    let was = tables c.args.names.now c.args.types.now c.args.members.now in
    let is = tables c.place_member.new.names c.read_type-read.new.types c.place_member.new.members in
    let b = c.args.body in
    let room = c.args.room in
    let free : b.made.members < room.members = omega (arith, c.if-room-body.false) in
    let long-types = c.read_type-read.auto.types in
    let long-names = c.place_member.auto.names in
    let long-members = c.place_member.auto.members in
    let after = c.place_member.result in
    let placed = c.place_member.ensures c.args.attributes f.1 f.2 in (
      rw (t.0, f.0, lt-ltb b.made.members room.members free)
          (ap read (placed_read s room was is b after c.args.attributes x.shape x.made c.args.name x.end.at c.requires t.1 t.2 t.3 long-types long-names long-members free placed)),
      placed_bounds s room was is b after c.args.attributes x.shape x.made c.args.name x.end.at c.requires t.1 t.2 t.3 long-types long-names long-members free placed,
      placed_kept s room was is b after c.args.attributes x.shape x.made c.args.name x.end.at c.requires t.1 t.2 t.3 long-types long-names long-members free placed,
    )
