-- `place_descent::place_of` meets its contract. The invariant: the rest of the steps from here lead where all of them lead from the start. Assumes nothing.
use Rattle.place_descent.proofs.LoopLaws.{Looking}
use Rattle.place_descent.proofs.place_of.Given as goal

abbrev pub invariant-loop-i : goal.invariant-loop-i
invariant-loop-i l = Looking l.types l.members l.start l.steps l.i l.ty l.byte
