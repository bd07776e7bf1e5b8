-- `sheet_picture::put_row` meets its contract. The invariant: the runs so far are written, and the current one has begun. Assumes nothing.
use Rattle.sheet_picture.proofs.PictureLaws.{Drawing}
use Rattle.sheet_picture.proofs.put_row.Given as goal

abbrev pub invariant-loop-b : goal.invariant-loop-b
invariant-loop-b g l = Drawing g.W.Write.contents l.t.sheet l.t.i l.from l.limit l.initial.out l.out l.start l.b
