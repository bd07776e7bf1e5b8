-- `wgsl_structs::read_members` meets its contract. The invariant: the members that are left give what all give, and behind the records nothing changes.
-- Assumes nothing.
use Rattle.std.proofs.lemmas.Result.{err_from_is_err_and}
use Rattle.std.proofs.Common.{◌≡◌, ◌-◌, length, sym, ◌∙◌, arith}
use Rattle.wgsl_tables.specs.Tables.{structs_in}
use Rattle.wgsl_members.specs.Serving.{tables, members_in}
use Rattle.wgsl_structs.specs.Structs.{members_of}
use Rattle.wgsl_structs.proofs.StructLaws.{members_step, bounds-at, kept_at, kept_both}
use Rattle.wgsl_structs.proofs.read_members.Goals as goal

pub returns-in_err-more : goal.returns-in_err-more
returns-in_err-more c =
    let l = c.loop-turn in
    let s = c.args.s.now in
    let step = members_step (length s) (length s) l._turn c.args.room (structs_in s c.args.structs.now) (members_in s (tables l.names l.types l.members) l.body) c.loop-turn-test.true in
    let p = err_from_is_err_and c.from_residual.result c.from_residual.ensures.1 in
    rw (p.1, p.2) (sym l.invariant.0 ∙ step ∙ rw c.in_err-more.ensures)

pub returns-in_err-end : goal.returns-in_err-end
returns-in_err-end c =
    let l = c.loop-turn in
    let s = c.args.s.now in
    let step = members_step (length s) (length s) l._turn c.args.room (structs_in s c.args.structs.now) (members_in s (tables l.names l.types l.members) l.body) c.loop-turn-test.true in
    let t = c.in_ok-more.ensures in
    let p = err_from_is_err_and c.from_residual-in_err-end.result c.from_residual-in_err-end.ensures.1 in
    rw (p.1, p.2) (sym l.invariant.0 ∙ step ∙ rw (t.0, ← c.end_at.ensures, c.in_err-end.was))

pub returns-in-Break : goal.returns-in-Break
returns-in-Break c =
    let l = c.loop-turn in
    let s = c.args.s.now in
    let step = members_step (length s) (length s) l._turn c.args.room (structs_in s c.args.structs.now) (members_in s (tables l.names l.types l.members) l.body) c.loop-turn-test.true in
    let t = c.in_ok-more.ensures in
    let was = tables c.args.names.now c.args.types.now c.args.members.now in
    let mid = tables l.names l.types l.members in
    let is = tables c.read_member.new.names c.read_member.new.types c.read_member.new.members in
    let b = c.in_ok-more.more in
    let at = c.in-Break.end.at in (
      sym l.invariant.0 ∙ step ∙ rw (t.0, ← c.end_at.ensures, c.in_ok-end.was, c.in-Break.is),
      bounds-at c.args.room is b at t.1,
      kept_at was is c.args.first b at (kept_both was mid is c.args.first l.body b l.invariant.2 t.2),
    )

pub loop-turn-preserved : goal.loop-turn-preserved
loop-turn-preserved c =
    let l = c.loop-turn in
    let s = c.args.s.now in
    let step = members_step (length s) (length s) l._turn c.args.room (structs_in s c.args.structs.now) (members_in s (tables l.names l.types l.members) l.body) c.loop-turn-test.true in
    let t = c.in_ok-more.ensures in
    let was = tables c.args.names.now c.args.types.now c.args.members.now in
    let mid = tables l.names l.types l.members in
    let is = tables c.read_member.new.names c.read_member.new.types c.read_member.new.members in
    let b = c.in_ok-more.more in
    let at = c.in-Continue.at in (
      sym (sym l.invariant.0 ∙ step ∙ rw (t.0, ← c.end_at.ensures, c.in_ok-end.was, c.in-Continue.is)),
      bounds-at c.args.room is b at t.1,
      kept_at was is c.args.first b at (kept_both was mid is c.args.first l.body b l.invariant.2 t.2),
    )

pub returns : goal.returns
unfolding members_of
returns c =
    let l = c.loop-turn in
    let none_left : length c.args.s.now - l._turn ≡ 0 = omega (arith, c.loop-turn-test.false) in
    rw c.of.ensures (sym (rw none_left at l.invariant.0))
