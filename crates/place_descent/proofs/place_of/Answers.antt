-- `place_descent::place_of` meets its contract. The invariant: the rest of the steps from here lead where all of them lead from the start. Assumes nothing.
use mathlib.Core.Path.{refl, sym, ap, ◌∙◌}
use Rattle.place_steps.specs.Step.{step_made, step_found}
use Rattle.place_descent.specs.Place.{found_place}
use Rattle.place_descent.proofs.LoopLaws.{no_start, looking_start, looking_ends, looking_step, looking_at, looking_done, leaf_place, column_last, column_passed}
use Rattle.place_descent.proofs.place_of.Goals as goal

pub returns-then-type_count-start : goal.returns-then-type_count-start
returns-then-type_count-start c = no_start _ _ _ _ (rw c.type_count.ensures at c.if-type_count-start.true)

pub loop-i-init : goal.loop-i-init
loop-i-init c = looking_start _ _ _ _ c.requires (rw c.type_count.ensures at c.if-type_count-start.false)

pub returns-then-i-steps : goal.returns-then-i-steps
returns-then-i-steps c = column_passed c.loop-i.invariant c.loop-i-test.true c.if-i-steps.true (sym (ap step_found c.in_ok-next.was ∙ ap step_made c.in-Column.is) ∙ c.step_at.ensures)

pub returns-in-Column : goal.returns-in-Column
returns-in-Column c = column_last c.loop-i.invariant c.loop-i-test.true c.if-i-steps.false (sym (ap step_found c.in_ok-next.was ∙ ap step_made c.in-Column.is) ∙ c.step_at.ensures)

pub returns-in_err-next : goal.returns-in_err-next
returns-in_err-next c =
    ap found_place c.from_residual.ensures ∙ looking_ends c.loop-i.invariant c.loop-i-test.true (sym (ap step_found c.in_err-next.was) ∙ c.step_at.ensures)

pub loop-i-preserved : goal.loop-i-preserved
loop-i-preserved c = looking_at (looking_step c.loop-i.invariant c.loop-i-test.true (sym (ap step_found c.in_ok-next.was ∙ ap step_made c.in-To.is) ∙ c.step_at.ensures)) _ refl

pub returns : goal.returns
returns c =
    let is = ap found_place c.then_some.ensures ∙ leaf_place c.is_leaf_at.result _ in
    rw (c.is_leaf_at.ensures) at is ∙ looking_done c.loop-i.invariant c.loop-i-test.false
