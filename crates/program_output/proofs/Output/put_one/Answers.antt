-- `program_output::Output::put_one` meets its contract: one after the other. Assumes nothing.
use Rattle.program_output.proofs.PutLaws.{puts_both}
use Rattle.program_output.proofs.Output.put_one.Goals as goal

pub returns : goal.returns
returns c = puts_both c.put_named.ensures c.put_byte.ensures
