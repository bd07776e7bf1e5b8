-- `sheet_places::refused_at` meets its contract: one number at most is left. Assumes nothing.
use Rattle.std.proofs.Common.{refl, ap, ◌∙◌, length, arith}
use Rattle.sheet_places.specs.Halving.{refused_before, is_refused}
use Rattle.sheet_places.proofs.HalvingLaws.{halves_next, halves_done, fails_there, holds_next, before_all}
use Rattle.sheet_places.proofs.refused_at.Goals as goal

pub loop-among-init : goal.loop-among-init
loop-among-init c = record { left = length c.args.words.now; enough = omega arith; same = refl }

pub loop-among-preserved : goal.loop-among-preserved
loop-among-preserved c =
    let l = c.loop-among in
    let several = rw c.len.ensures.value at c.loop-among-test.true in
    rw (c.halved-among.ensures.start, c.halved-among.ensures.end)
    (halves_next (refused_before c.args.words.now) _ l.among.start l.among.end several l.invariant)

pub returns-clause-at : goal.returns-clause-at
returns-clause-at c =
    let l = c.loop-among in
    let one = rw c.len.ensures.value at c.loop-among-test.false in
    halves_done (refused_before c.args.words.now) _ l.among.start l.among.end one l.invariant

pub returns-clause-before : goal.returns-clause-before
returns-clause-before c =
    let ws = c.args.words.now in
    λ h. rw (returns-clause-at c) (fails_there (refused_before ws) (length ws) 0 (length ws) h)

pub returns-clause-to_its_end : goal.returns-clause-to_its_end
returns-clause-to_its_end c =
    let ws = c.args.words.now in
    λ some h. rw (returns-clause-at c) (holds_next (refused_before ws) (length ws) 0 (length ws) some (omega arith) (ap is_refused (before_all ws) ∙ h))
