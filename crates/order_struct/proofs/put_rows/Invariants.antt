use Rattle.order_numbers.specs.Order.{member_at}
use Rattle.order_struct.proofs.PutLaws.{Rows}
use Rattle.order_struct.proofs.put_rows.Given as goal

abbrev pub invariant-loop-j : goal.invariant-loop-j
invariant-loop-j l = Rows l.placed.given.rows.now l.placed.given.wanted.now (member_at l.placed.order.n l.placed.order.number) l.initial.members l.placed.m l.placed.order.n l.j l.members
