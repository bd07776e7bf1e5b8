-- `sheet_rust::put_numbers` meets its contract: one after the other. Assumes nothing.
use Rattle.sheet_output.proofs.WritesLaws.{writes_both}
use Rattle.sheet_rust.proofs.put_numbers.Goals as goal

pub returns : goal.returns
returns g c =
    let k = g.W.Write.contents in
    let size = rw (c.from.ensures, c.size.ensures) at c.put_with.ensures in
    let alignment = rw (c.from-2.ensures, c.alignment.ensures) at c.put_with-2.ensures in
    let count = rw (c.from-3.ensures, c.count.ensures) at c.put_with-3.ensures in
    writes_both k (writes_both k (writes_both k c.put_impl.ensures size) alignment) count
