-- `sheet_verdicts::put_slots` meets its contract: one after the other. Assumes nothing.
use borrow.Author.Tests.{ne_eqb}
use Rattle.sheet_output.proofs.WritesLaws.{writes_both}
use Rattle.sheet_verdicts.proofs.put_slots.Goals as goal

pub returns-then-slots-ne0 : goal.returns-then-slots-ne0
returns-then-slots-ne0 g c =
    let k = g.W.Write.contents in
    let partly = writes_both k c.put_text.ensures c.put_mask-then-slots-ne0.ensures in
    rw (ne_eqb c.args.slots.partly 0 c.if-slots-ne0.true) (writes_both k c.put_mask.ensures partly)
