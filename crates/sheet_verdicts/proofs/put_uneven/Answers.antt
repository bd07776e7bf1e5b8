-- `sheet_verdicts::put_uneven` meets its contract: one after the other. Assumes nothing.
use Rattle.sheet_output.proofs.WritesLaws.{writes_both, writes_bare}
use Rattle.sheet_verdicts.proofs.put_uneven.Goals as goal

pub returns : goal.returns
returns g c =
    let k = g.W.Write.contents in
    writes_both k (rw c.from.ensures at c.put_with.ensures) (writes_bare k (rw c.from-2.ensures at c.put_with-2.ensures))
