-- `sheet_rust::put_size` meets its contract: one after the other. Assumes nothing.
use Rattle.sheet_output.proofs.WritesLaws.{writes_both}
use Rattle.sheet_rust.proofs.put_size.Goals as goal

pub returns : goal.returns
returns g c =
    let k = g.W.Write.contents in
    let size = rw (c.from.ensures, c.size.ensures) at c.put_with.ensures in
    writes_both k (writes_both k c.put_text.ensures c.put_type.ensures.written) size
