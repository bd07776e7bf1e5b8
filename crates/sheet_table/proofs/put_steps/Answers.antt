-- `sheet_table::put_steps` meets its contract: the steps of an array, and then those of a matrix. Assumes nothing.
use mathlib.Core.Path.{sym, ◌∙◌}
use Rattle.sheet_output.specs.Written.{Writes}
use Rattle.sheet_output.proofs.WritesLaws.{writes_none, writes_both}
use Rattle.sheet_table.specs.Text.{elements_text}
use Rattle.sheet_table.proofs.put_steps.Goals as goal
use Rattle.sheet_table.proofs.put_steps.Goals.{then-is_array, else-is_array}

pub returns-in-Some : goal.returns-in-Some
returns-in-Some g c =
    let k = g.W.Write.contents in
    let t = c.args.t in
    let elements : Writes k c.args.out.now (elements_text t.sheet.types.now t.i) c.if-is_array.out = elim c.if-is_array.branch [
      | then-is_array w ↦ rw (w.out-is, sym c.is_array.ensures ∙ w.if-is_array.true) (rw (w.from.ensures, w.stride.ensures) at w.put_with.ensures)
      | else-is_array w ↦ rw (w.out-is, sym c.is_array.ensures ∙ w.if-is_array.false) (writes_none k _)
    ] in
    let e = rw (c.innermost.ensures.sheet, c.innermost.ensures.i) at c.column_step.ensures in
    rw (← e, c.in-Some.is) (writes_both k elements c.put_with-in-Some.ensures)

pub returns-in_default : goal.returns-in_default
returns-in_default g c =
    let k = g.W.Write.contents in
    let t = c.args.t in
    let elements : Writes k c.args.out.now (elements_text t.sheet.types.now t.i) c.if-is_array.out = elim c.if-is_array.branch [
      | then-is_array w ↦ rw (w.out-is, sym c.is_array.ensures ∙ w.if-is_array.true) (rw (w.from.ensures, w.stride.ensures) at w.put_with.ensures)
      | else-is_array w ↦ rw (w.out-is, sym c.is_array.ensures ∙ w.if-is_array.false) (writes_none k _)
    ] in
    let e = rw (c.innermost.ensures.sheet, c.innermost.ensures.i) at c.column_step.ensures in
    rw (← e, c.in_default.is) (writes_both k elements (writes_none k _))
