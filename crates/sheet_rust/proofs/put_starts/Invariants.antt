-- `sheet_rust::put_starts` meets its contract. The invariant: so many starts are written. Assumes nothing.
use Rattle.std.specs.Prelude.{replicate}
use Rattle.sheet_output.specs.Written.{Writes}
use Rattle.sheet_rust.proofs.put_starts.Given as goal

abbrev pub invariant-loop : goal.invariant-loop
invariant-loop g l = Writes (g.W.Write.contents) l.initial.out (replicate l.index 91) l.out
