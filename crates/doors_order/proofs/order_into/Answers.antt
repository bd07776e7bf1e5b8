-- `doors_order::order_into` meets its contract: what was found. Assumes nothing.
use Rattle.std.proofs.Common.{length}
use Rattle.doors_order.proofs.OrderLaws.{found_is}
use Rattle.doors_order.proofs.order_into.Goals as goal

pub returns-clause-found_after : goal.returns-clause-found_after
returns-clause-found_after c =
    let r = c.order-made.ensures in
    rw (found_is c.args.found.now (length c.args.wanted.now) c.order-made.result r.places, r.value) at c.put_found.ensures
