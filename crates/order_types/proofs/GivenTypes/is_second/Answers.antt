use mathlib.Core.Path.{sym, ◌∙◌}
use native.Mathlib.Omega.{arith}
use Rattle.order_types.proofs.GivenLaws.{first_inside}
use Rattle.order_types.proofs.GivenTypes.is_second.Goals as goal

pub overflow_add-first : goal.overflow_add-first
overflow_add-first c =
    let a = c.args.self in
    record { fits = omega (arith, first_inside a.types.now a.given.rows.now a.n a.given.wanted.now 1 c.in-Some.first (sym c.first_of.ensures ∙ c.in-Some.is), a.few) }
