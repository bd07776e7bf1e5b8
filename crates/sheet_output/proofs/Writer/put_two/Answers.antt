-- `sheet_output::Writer::put_two` meets its contract: one after the other. Assumes nothing.
use Rattle.sheet_output.proofs.WritesLaws.{writes_both}
use Rattle.sheet_output.proofs.Writer.put_two.Goals as goal

pub returns : goal.returns
returns g c =
    let k = g.W.Write.contents in
    writes_both k (writes_both k c.put_with.ensures c.put_number.ensures) c.put_text.ensures
