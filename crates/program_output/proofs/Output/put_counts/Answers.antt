-- `program_output::Output::put_counts` meets its contract: one after the other. Assumes nothing.
use Rattle.program_output.proofs.PutLaws.{puts_both}
use Rattle.program_output.proofs.Output.put_counts.Goals as goal

pub returns : goal.returns
returns c = puts_both (puts_both (puts_both c.put_decimal.ensures c.put_number.ensures) c.put_number-2.ensures) c.put_byte.ensures
