use mathlib.Core.Path.{◌≡◌}
use Prim.Native.Nat.{◌-◌}
use Rattle.order_numbers.specs.Search.{first_from}
use Rattle.order_search.specs.Fitting.{number_fits, first_order}
use Rattle.order_search.proofs.first_order.Given as goal

abbrev pub invariant-loop-number : goal.invariant-loop-number
invariant-loop-number l =
    first_from (number_fits l.given.rows.now l.given.wanted.now l.n l.last l.span) (l.all - l.number) l.number ≡ first_order l.given.rows.now l.given.wanted.now l.n l.last l.span

abbrev pub decreases-loop-number : goal.decreases-loop-number
decreases-loop-number l = l.all - l.number
