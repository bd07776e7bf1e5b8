-- `program_output::Output::put_row` meets its contract: one after the other. Assumes nothing.
use Rattle.program_output.proofs.PutLaws.{puts_both}
use Rattle.program_output.proofs.Output.put_row.Goals as goal

pub returns : goal.returns
returns c = puts_both (puts_both c.put_decimal.ensures c.put_numbers.ensures) c.put_byte.ensures
