-- `sheet_names::from_module` meets its contract. The invariant: the names after the instructions that are left are those of all. Assumes nothing.
use Rattle.std.proofs.Common.{refl}
use Rattle.sheet_names.specs.Module.{instructions_named}
use Rattle.sheet_names.proofs.from_module.Goals as goal

pub loop-at-init : goal.loop-at-init
loop-at-init c =
    let i = c.instructions-at-items.ensures in
    rw (c.into_iter-at-iterator.ensures.into_iter_gives, i.words, i.at, i.end, c.new-names.ensures) refl

pub loop-at-preserved : goal.loop-at-preserved
unfolding instructions_named
loop-at-preserved c = rw c.put_names.ensures (rw c.in-Some.ensures.steps at c.loop-at.invariant)

pub returns : goal.returns
unfolding instructions_named
returns c = rw c.in-None.ensures.steps.0 at c.loop-at.invariant
