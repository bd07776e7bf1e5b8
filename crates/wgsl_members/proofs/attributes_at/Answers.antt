-- `wgsl_members::attributes_at` meets its contract. The invariant: what is left gives what the whole gives. Assumes nothing.
use mathlib.Core.Path.{◌≡◌, sym, ◌∙◌}
use Prim.Native.Nat.{◌-◌}
use native.Mathlib.Omega.{arith}
use lib.ListN.{length}
use Rattle.std.proofs.lemmas.Result.{err_from_is_err_and}
use Rattle.wgsl_tokens.specs.Tokens.{from}
use Rattle.wgsl_members.specs.Members.{attributes_of}
use Rattle.wgsl_members.proofs.MemberLaws.{attributes_step}
use Rattle.wgsl_members.proofs.attributes_at.Goals as goal

pub returns-in_default : goal.returns-in_default
returns-in_default c =
    let l = c.loop-turn in
    let step = attributes_step (length c.args.s.now) l._turn l.given (from c.args.s.now l.next) c.loop-turn-test.true in
    rw c.in_default.ensures at (sym step ∙ l.invariant)

pub returns-in_err-more : goal.returns-in_err-more
returns-in_err-more c =
    let l = c.loop-turn in
    let step = attributes_step (length c.args.s.now) l._turn l.given (from c.args.s.now l.next) c.loop-turn-test.true in
    let p = err_from_is_err_and c.from_residual.result c.from_residual.ensures.1 in
    rw (p.1, p.2) (rw (c.in-Ok.ensures, ← c.attribute_at.ensures, c.in_err-more.was) at (sym step ∙ l.invariant))

pub loop-turn-preserved : goal.loop-turn-preserved
loop-turn-preserved c =
    let l = c.loop-turn in
    let step = attributes_step (length c.args.s.now) l._turn l.given (from c.args.s.now l.next) c.loop-turn-test.true in
    rw (c.in-Ok.ensures, ← c.attribute_at.ensures, c.in_ok-more.was) at (sym step ∙ l.invariant)

pub returns : goal.returns
unfolding attributes_of
returns c =
    let l = c.loop-turn in
    let none_left : length c.args.s.now - l._turn ≡ 0 = omega (arith, c.loop-turn-test.false) in
    rw none_left at l.invariant
