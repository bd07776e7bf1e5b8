-- `program_output::Output::put_accepted` meets its contract: one after the other. Assumes nothing.
use Rattle.program_output.proofs.PutLaws.{puts_both}
use Rattle.program_output.proofs.Output.put_accepted.Goals as goal

pub returns : goal.returns
returns c = puts_both c.put_text.ensures c.put_rows.ensures
