-- `sheet_refusals::put_text` meets its contract: one after the other, once there is room. Assumes nothing.
use Rattle.std.proofs.Common.{refl}
use Rattle.sheet_output.proofs.WritesLaws.{writes_both, writes_put}
use Rattle.sheet_refusals.proofs.put_text.Goals as goal

pub returns : goal.returns
returns g c =
    let k = g.W.Write.contents in
    let m = c.put_message.ensures in
    let message = writes_put k c.make_room.ensures.written m.2 refl refl refl refl in
    (m.0, m.1, writes_both k (writes_both k c.put_fault.ensures c.put_text.ensures) message)
