-- `program_output::Output::put_numbers` meets its contract. The invariant: the numbers so far are put. Assumes nothing.
use Rattle.program_output.specs.Bytes.{Adds, joined, number_at}
use Rattle.program_output.proofs.Output.put_numbers.Given as goal

abbrev pub invariant-loop-word : goal.invariant-loop-word
invariant-loop-word l = Adds l.initial.self (joined (number_at l.words) l.word-index) l.self
