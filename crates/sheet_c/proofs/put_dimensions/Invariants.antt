-- `sheet_c::put_dimensions` meets its contract. The invariant: the dimensions so far are written. Assumes nothing.
use lib.ListN.{take}
use Rattle.sheet_output.specs.Written.{Writes}
use Rattle.sheet_c.specs.Text.{dimensions_text}
use Rattle.sheet_c.proofs.put_dimensions.Given as goal

abbrev pub invariant-loop-n : goal.invariant-loop-n
invariant-loop-n g l = Writes (g.W.Write.contents) l.initial.out (dimensions_text l.alone (take l.n-index l.n-items)) l.out
