-- `wgsl_messages::line_and_column` meets its contract. The invariant: line and column are those of byte i. Assumes nothing.
use mathlib.Core.Path.{refl, sym, ◌∙◌}
use native.Mathlib.Nat.{le_antisymm}
use native.Mathlib.Omega.{arith}
use Rattle.wgsl_messages.specs.Position.{line_of, column_of}
use Rattle.wgsl_messages.proofs.PositionLaws.{line_within, column_within, line_ends, line_goes}
use Rattle.wgsl_messages.proofs.line_and_column.Goals.{then-breaks_line, else-breaks_line}
use Rattle.wgsl_messages.proofs.line_and_column.Goals as goal

pub loop-i-init : goal.loop-i-init
unfolding line_of column_of
loop-i-init c = (refl, refl)

pub overflow_add-line : goal.overflow_add-line
overflow_add-line c =
    let l = c.loop-i in
    let s = c.args.text.now in
    omega (arith, line_within s l.i, l.invariant.0, c.min-end.ensures)

pub overflow_add-column : goal.overflow_add-column
overflow_add-column c =
    let l = c.loop-i in
    let s = c.args.text.now in
    omega (arith, column_within s l.i, l.invariant.1, c.min-end.ensures)

pub loop-i-preserved : goal.loop-i-preserved
loop-i-preserved c =
    let l = c.loop-i in
    let s = c.args.text.now in
    let breaks = rw c.byte_at.ensures at c.breaks_line.ensures in
    elim c.if-breaks_line.branch [
      | then-breaks_line w ↦
          let e = line_ends s l.i (sym breaks ∙ w.if-breaks_line.true) in
          (cc (e.0, l.invariant.0, w.line-is), cc (e.1, w.column-is))
      | else-breaks_line w ↦
          let e = line_goes s l.i (sym breaks ∙ w.if-breaks_line.false) in
          (cc (e.0, l.invariant.0, w.line-is), cc (e.1, l.invariant.1, w.column-is))
    ]

pub returns : goal.returns
returns c =
    let l = c.loop-i in
    let e = le_antisymm c.loop-i.auto.i-end c.loop-i-test.false ∙ c.min-end.ensures in
    cc (l.invariant.0, l.invariant.1, e)
