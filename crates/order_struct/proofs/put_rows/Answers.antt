use Rattle.order_numbers.specs.Order.{member_at}
use Rattle.order_struct.proofs.PutLaws.{rows_start, rows_more}
use Rattle.order_struct.proofs.put_rows.Goals as goal

pub loop-j-init : goal.loop-j-init
loop-j-init c =
    let a = c.args in
    rows_start a.placed.given.rows.now a.placed.given.wanted.now (member_at a.placed.order.n a.placed.order.number) a.members.now a.placed.m a.placed.order.n

pub loop-j-preserved : goal.loop-j-preserved
loop-j-preserved c =
    let s = c in
    let l = s.loop-j in
    let t = s in
    let a = t.args in
    rw c.put_row.ensures (rows_more a.placed.given.rows.now a.placed.given.wanted.now (member_at a.placed.order.n a.placed.order.number) a.members.now a.placed.m a.placed.order.n l.j l.members c.loop-j-test.true t.requires l.invariant)
