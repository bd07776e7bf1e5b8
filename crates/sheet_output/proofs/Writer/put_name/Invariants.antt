-- `sheet_output::Writer::put_name` meets its contract. The invariant: the bytes so far are written. Assumes nothing.
use lib.ListN.{take}
use Rattle.sheet_output.specs.Written.{Writes, name_bytes}
use Rattle.sheet_output.proofs.Writer.put_name.Given as goal

abbrev pub invariant-loop-b : goal.invariant-loop-b
invariant-loop-b g l = Writes (g.W.Write.contents) l.initial.self (name_bytes (l.initial.self.markup) (take l.b-index l.name)) l.self
