-- `sheet_c::put_offset` meets its contract: one after the other. Assumes nothing.
use Rattle.sheet_output.proofs.WritesLaws.{writes_both}
use Rattle.sheet_c.proofs.put_offset.Goals as goal

pub returns : goal.returns
returns g c =
    let k = g.W.Write.contents in
    let names = writes_both k (writes_both k (writes_both k c.put_text.ensures c.put_tag.ensures) c.put_text-2.ensures) c.put_member.ensures.written in
    writes_both k names (rw c.from.ensures at c.put_with.ensures)
