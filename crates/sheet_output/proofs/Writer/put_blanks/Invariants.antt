-- `sheet_output::Writer::put_blanks` meets its contract. The invariant: so many blanks are written. Assumes nothing.
use Rattle.std.specs.Prelude.{replicate}
use Rattle.sheet_output.specs.Written.{Writes}
use Rattle.sheet_output.proofs.Writer.put_blanks.Given as goal

abbrev pub invariant-loop : goal.invariant-loop
invariant-loop g l = Writes (g.W.Write.contents) l.initial.self (replicate l.counter 32) l.self
