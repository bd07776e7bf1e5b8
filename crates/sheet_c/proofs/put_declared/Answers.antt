-- `sheet_c::put_declared` meets its contract: one after the other. Assumes nothing.
use Rattle.sheet_output.proofs.WritesLaws.{writes_both}
use Rattle.sheet_c.proofs.put_declared.Goals as goal

pub returns-in-Some : goal.returns-in-Some
returns-in-Some g c =
    let k = g.W.Write.contents in
    let member = c.args.member in
    let t = c.own_type.ensures in
    let shape = rw (t.sheet, t.i) at c.in-Some.ensures in
    let base = c.put_base.ensures member.of.sheet shape.1 in
    let named = writes_both k (writes_both k base c.put_byte.ensures) c.put_member.ensures.written in
    rw shape.0 (writes_both k named c.put_dimensions.ensures)
