-- `program_record_lines::put_record` meets its contract, the record there or not. Assumes nothing.
use borrow.Author.Tests.{lt-leb}
use Rattle.program_output.proofs.PutLaws.{puts_none}
use Rattle.program_record_lines.specs.Lines.{record_line}
use Rattle.program_record_lines.proofs.put_record.Goals as goal

pub returns-else-last-words : goal.returns-else-last-words
unfolding record_line
returns-else-last-words g c = rw (lt-leb _ _ c.if-last-words.false) (puts_none _ _)
