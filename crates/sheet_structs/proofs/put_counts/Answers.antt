-- `sheet_structs::put_counts` meets its contract: one after the other. Assumes nothing.
use Rattle.sheet_output.proofs.WritesLaws.{writes_both}
use Rattle.sheet_structs.proofs.put_counts.Goals as goal

pub returns : goal.returns
returns g c = writes_both g.W.Write.contents c.put_two.ensures c.put_text.ensures
