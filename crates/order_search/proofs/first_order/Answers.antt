use mathlib.Core.Path.{sym, ◌∙◌}
use native.Mathlib.Nat.{sub-zero}
use Rattle.order_numbers.proofs.SearchLaws.{first_hit, first_done}
use Rattle.order_search.specs.Fitting.{number_fits, first_order}
use Rattle.order_search.proofs.FittingLaws.{fits_here, search_on}
use Rattle.order_search.proofs.first_order.Goals as goal

pub loop-number-init : goal.loop-number-init
unfolding first_order
loop-number-init c = rw (sub-zero, c.power-all.ensures.0)

pub returns-then-order_fits : goal.returns-then-order_fits
returns-then-order_fits c =
    let s = c in
    let a = s.args in
    let here = fits_here a.given.rows.now a.given.wanted.now a.n a.last a.span s.loop-number.number c.next_try-next.result c.next_try-next.ensures.0 (sym c.order_fits.ensures ∙ c.if-order_fits.true) in
    sym (first_hit (number_fits a.given.rows.now a.given.wanted.now a.n a.last a.span) s.power-all.result s.loop-number.number c.loop-number-test.true here)
    ∙ s.loop-number.invariant

pub loop-number-preserved : goal.loop-number-preserved
loop-number-preserved c =
    let s = c in
    let a = s.args in
    let on = search_on a.given.rows.now a.given.wanted.now a.n a.last a.span s.loop-number.number c.next_try-next.result c.next_try-next.ensures.0 s.power-all.result (sym c.order_fits.ensures ∙ c.if-order_fits.false) in
    rw c.max-number.ensures (sym on ∙ s.loop-number.invariant)

pub returns : goal.returns
returns c =
    let s = c in
    let a = s.args in
    sym (first_done (number_fits a.given.rows.now a.given.wanted.now a.n a.last a.span) s.power-all.result s.loop-number.number c.loop-number-test.false) ∙ s.loop-number.invariant
