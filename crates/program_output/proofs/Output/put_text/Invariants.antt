-- `program_output::Output::put_text` meets its contract. The invariant: the bytes so far are put. Assumes nothing.
use lib.ListN.{take}
use Rattle.program_output.specs.Bytes.{Adds}
use Rattle.program_output.proofs.Output.put_text.Given as goal

abbrev pub invariant-loop-b : goal.invariant-loop-b
invariant-loop-b l = Adds l.initial.self (take l.b-index l.text) l.self
