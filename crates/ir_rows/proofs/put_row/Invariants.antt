-- `ir_rows::put_row` meets its contract: after j turns the first j words of the row are in place. Assumes nothing.
use mathlib.Core.Path.{◌≡◌}
use lib.ListN.{length}
use lib.Seq.{paste}
use Rattle.ir_rows.proofs.put_row.Given as goal

abbrev pub invariant-loop-j : goal.invariant-loop-j
invariant-loop-j l = (l.rows ≡ paste l.initial.rows l.at l.row l.j) × (length l.rows ≡ length l.initial.rows)
