-- `program_record_lines::put_records` meets its contract: one after the other. Assumes nothing.
use Rattle.program_output.proofs.PutLaws.{puts_both}
use Rattle.program_record_lines.proofs.put_records.Goals as goal

pub returns : goal.returns
returns c = puts_both c.put_lines.ensures c.put_lines-2.ensures
