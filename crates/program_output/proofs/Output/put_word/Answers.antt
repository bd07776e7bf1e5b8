-- `program_output::Output::put_word` meets its contract: nothing where no word is wrong. Assumes nothing.
use Rattle.program_output.proofs.PutLaws.{puts_none}
use Rattle.program_output.proofs.Output.put_word.Goals as goal

pub returns-in_default : goal.returns-in_default
returns-in_default c = rw c.in_default.is (puts_none _ _)
