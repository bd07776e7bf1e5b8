-- `program_output::Output::put_named` meets its contract: one after the other. Assumes nothing.
use Rattle.program_output.proofs.PutLaws.{puts_both}
use Rattle.program_output.proofs.Output.put_named.Goals as goal

pub returns : goal.returns
returns c = puts_both c.put_text.ensures c.put_number.ensures
