-- `sheet_c::put_as_bytes` meets its contract: one after the other. Assumes nothing.
use Rattle.sheet_output.proofs.WritesLaws.{writes_both}
use Rattle.sheet_c.proofs.put_as_bytes.Goals as goal

pub returns : goal.returns
returns g c =
    let k = g.W.Write.contents in
    let t = c.own_type.ensures in
    let size = rw (c.from.ensures, c.size.ensures, t.sheet, t.i) at c.put_with.ensures in
    writes_both k (writes_both k c.put_text.ensures c.put_member.ensures.written) size
