use mathlib.Core.Path.{◌≡◌, ◌∙◌}
use native.Mathlib.Omega.{arith}
use Rattle.order_words.proofs.WordLaws.{one_written, all_written}
use Rattle.order_words.proofs.found_words.Goals as goal

pub loop-j-preserved : goal.loop-j-preserved
loop-j-preserved c =
    let l = c.loop-j in
    let o = c.args.found.order in
    rw (l.invariant, c.member_at.ensures) (one_written o.n o.number c.args.found.ty c.args.found.span l.j (omega (arith, o.few)))

pub returns : goal.returns
returns c =
    let l = c.loop-j in
    let o = c.args.found.order in
    let all : l.j ≡ o.n = omega arith in
    rw all at l.invariant ∙ all_written o.n o.number c.args.found.ty c.args.found.span o.few
