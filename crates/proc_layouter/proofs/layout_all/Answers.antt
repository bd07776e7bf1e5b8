-- `proc_layouter::layout_all` meets its contract. The invariant: the first i types pass numbers 2 to 7, their layouts stand in their rows, and what stands
-- behind the n rows is as it was. Assumes nothing.
use mathlib.Core.Path.{◌≡◌, refl, sym, ap, ◌∙◌}
use Prim.Native.Nat.{◌≤◌, ◌+◌, ◌*◌}
use native.Mathlib.Nat.{le_antisymm}
use native.Mathlib.Numerals.{add-one}
use native.Mathlib.Omega.{arith}
use lib.ListN.{length, take-append-drop}
use Rattle.ir_records.specs.Result.{ok}
use Rattle.ir_records.specs.Refusal.{judged}
use Rattle.ir_records.proofs.TableLaws.{stays}
use Rattle.proc_layouter.specs.Layouter.{layout_rows}
use Rattle.proc_layouter.specs.Serving.{record_then_layout}
use Rattle.proc_layouter.proofs.LayoutLaws.{laid-at, row_written, rest_kept}
use Rattle.proc_layouter.proofs.layout_all.Goals as goal

pub layout_at-requires : goal.layout_at-requires
layout_at-requires c =
    record { i_in_bounds = omega arith; i_in_bounds_2 = omega arith }

pub returns-in-Err-clause-value : goal.returns-in-Err-clause-value
returns-in-Err-clause-value c =
    let a = c.args in
    let l = c.loop-i in
    let at = laid-at a.types.now a.members.now l.rows l.i (judged c.layout_at.result) l.invariant.1 c.layout_at.ensures.result_value in
    let refused = rw c.in-Err.is at (sym at) in
    rw c.at.ensures (sym (stays (record_then_layout a.types.now a.members.now) l.i l.invariant.0 (rw refused refl) a.n c.loop-i-test.true))

pub loop-i-preserved : goal.loop-i-preserved
loop-i-preserved c =
    let a = c.args in
    let l = c.loop-i in
    let room : l.i * 14 + 14 ≤ length l.rows = omega arith in
    let r = judged c.layout_at.result in
    let at = laid-at a.types.now a.members.now l.rows l.i r l.invariant.1 c.layout_at.ensures.result_value in
    let layout : r ≡ ok c.in_default.field-0 = ap judged c.in_default.is in
    let accepted = rw layout at (sym at) in (
      rw (add-one, l.invariant.0, accepted) refl,
      row_written a.types.now a.members.now l.rows l.i r l.invariant.1 c.layout_at.ensures.result_value _ layout _ c.layout_at.ensures.rows_after room,
      rest_kept a.types.now a.members.now l.rows l.i r l.invariant.1 c.layout_at.ensures.result_value _ layout _ c.layout_at.ensures.rows_after room a.n c.loop-i-test.true
          ∙ l.invariant.2,
      c.layout_at.auto.rows ∙ l.invariant.3,
    )

pub returns-clause-value : goal.returns-clause-value
returns-clause-value c =
    let l = c.loop-i in
    rw (le_antisymm l.auto.i-end c.loop-i-test.false) at (sym l.invariant.0)

pub returns-clause-rows_after : goal.returns-clause-rows_after
unfolding layout_rows
returns-clause-rows_after c =
    let l = c.loop-i in
    let n = c.args.n in
    let end : l.i ≡ n = le_antisymm l.auto.i-end c.loop-i-test.false in
    rw (← rw end at l.invariant.1, ← l.invariant.2) (sym (take-append-drop (n * 14) l.rows))
