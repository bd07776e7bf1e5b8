-- `sheet_output::Writer::put_right` meets its contract: one after the other. Assumes nothing.
use Rattle.sheet_output.proofs.WritesLaws.{writes_both}
use Rattle.sheet_output.proofs.Writer.put_right.Goals as goal

pub returns : goal.returns
returns g c = writes_both g.W.Write.contents (rw c.free_columns.ensures at c.put_blanks.ensures) c.put_number.ensures
