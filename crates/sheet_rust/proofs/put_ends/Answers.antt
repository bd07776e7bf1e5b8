-- `sheet_rust::put_ends` meets its contract: one end more. Assumes nothing.
use Rattle.sheet_output.proofs.WritesLaws.{writes_both}
use Rattle.sheet_rust.proofs.TextLaws.{ends_more}
use Rattle.sheet_rust.proofs.put_ends.Goals as goal

pub loop-n-preserved : goal.loop-n-preserved
loop-n-preserved g c =
    let k = g.W.Write.contents in
    let end = rw c.unwrap_or.ensures at c.put_with.ensures in
    rw (ends_more c.loop-n.yielded c.in-Some.n) (writes_both k c.loop-n.invariant end)
