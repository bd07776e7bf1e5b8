-- `spirv_ids::first_giver` meets its contract. The invariant: none before `next` may give an id. Assumes nothing.
use mathlib.Core.Path.{sym, ◌∙◌}
use native.Mathlib.Omega.{arith}
use Rattle.spirv_ids.proofs.FirstLaws.{seeking_starts, seeking_inside, seeking_here, seeking_goes, seeking_ends}
use Rattle.spirv_ids.proofs.first_giver.Goals as goal

pub loop-p-init : goal.loop-p-init
loop-p-init c = rw c.into_iter-p-iterator.ensures.into_iter_gives (seeking_starts c.args.words.now)

pub returns-then-may_give : goal.returns-then-may_give
returns-then-may_give c =
    let e = rw c.opcode_of.ensures at (sym c.may_give.ensures ∙ c.if-may_give.true) in
    seeking_here c.args.words.now _ _ _ (rw c.in-Some.ensures.steps at c.loop-p.invariant) e

pub overflow_add-next : goal.overflow_add-next
overflow_add-next c =
    let inside = seeking_inside c.args.words.now _ _ _ (rw c.in-Some.ensures.steps at c.loop-p.invariant) in
    omega (arith, inside, c.word_count.ensures.1)

pub loop-p-preserved : goal.loop-p-preserved
loop-p-preserved c =
    let e = rw c.opcode_of.ensures at (sym c.may_give.ensures ∙ c.if-may_give.false) in
    rw c.word_count.ensures.0
    (seeking_goes c.args.words.now _ _ _ (rw c.in-Some.ensures.steps at c.loop-p.invariant) e)

pub returns : goal.returns
returns c = seeking_ends c.args.words.now _ (rw c.in-None.ensures.steps.0 at c.loop-p.invariant)
