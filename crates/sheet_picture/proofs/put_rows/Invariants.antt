-- `sheet_picture::put_rows` meets its contract. The invariant: so many rows are written. Assumes nothing.
use Rattle.sheet_output.specs.Written.{Writes}
use Rattle.sheet_picture.specs.Picture.{rows_before}
use Rattle.sheet_picture.proofs.put_rows.Given as goal

abbrev pub invariant-loop-row : goal.invariant-loop-row
invariant-loop-row g l = Writes g.W.Write.contents l.initial.out (rows_before (l.initial.out.markup) l.t.sheet l.t.i l.drawn l.row) l.out
