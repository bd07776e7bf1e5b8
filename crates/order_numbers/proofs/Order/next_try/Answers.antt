use mathlib.Core.Path.{sym, ◌∙◌}
use native.Mathlib.Omega.{arith}
use Rattle.order_numbers.specs.Order.{member_at, bad_place}
use Rattle.order_numbers.proofs.SearchLaws.{first_least}
use Rattle.order_numbers.proofs.Order.next_try.Goals as goal

pub after_place-requires-clause-j_lt_n : goal.after_place-requires-clause-j_lt_n
after_place-requires-clause-j_lt_n c =
    let a = c.args.self in
    let f = first_least (bad_place a.n (member_at a.n a.number)) a.n 0 c.in-Some.j (sym c.first_bad.ensures ∙ c.in-Some.is) in
    omega (arith, f.2)
