use mathlib.Core.Path.{◌≡◌}
use Prim.Native.Nat.{◌*◌, ◌≤◌}
use Rattle.order_numbers.specs.Order.{member_at}
use Rattle.order_placement.specs.Placement.{end_after}
use Rattle.order_placement.proofs.Given.end_after.Given as goal

abbrev pub invariant-loop-j : goal.invariant-loop-j
invariant-loop-j l = (l.end ≡ end_after l.self.rows.now l.self.wanted.now (member_at l.order.n l.order.number) l.j) × (l.end ≤ l.j * 8589934592)
