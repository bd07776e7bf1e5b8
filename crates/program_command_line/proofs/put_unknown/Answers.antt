-- `program_command_line::put_unknown` meets its contract: one after the other. Assumes nothing.
use Rattle.program_output.proofs.PutLaws.{puts_both}
use Rattle.program_command_line.proofs.put_unknown.Goals as goal

pub returns : goal.returns
returns c = puts_both c.put_text.ensures c.put_text-2.ensures
