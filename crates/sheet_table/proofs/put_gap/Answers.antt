-- `sheet_table::put_gap` meets its contract: one after the other. Assumes nothing.
use borrow.Author.Tests.{eq-eqb, ne_eqb}
use Rattle.sheet_output.proofs.WritesLaws.{writes_both}
use Rattle.sheet_table.proofs.put_gap.Goals as goal

pub returns-then-unused-eq1 : goal.returns-then-unused-eq1
returns-then-unused-eq1 g c =
    let k = g.W.Write.contents in
    let n = c.args.unused.bytes in
    rw (eq-eqb n 1 c.if-unused-eq1.true) (writes_both k (writes_both k c.put_right.ensures c.put_with.ensures) c.put_text.ensures)

pub returns-else-unused-eq1 : goal.returns-else-unused-eq1
returns-else-unused-eq1 g c =
    let k = g.W.Write.contents in
    let n = c.args.unused.bytes in
    rw (ne_eqb n 1 c.if-unused-eq1.false) (writes_both k (writes_both k c.put_right.ensures c.put_with.ensures) c.put_text-else-unused-eq1.ensures)
