-- `program_output::Output::put_words` meets its contract: one after the other. Assumes nothing.
use Rattle.program_output.proofs.PutLaws.{puts_both}
use Rattle.program_output.specs.Bytes.{words_line}
use Rattle.program_output.proofs.Output.put_words.Goals as goal

pub returns : goal.returns
unfolding words_line
returns c = puts_both (puts_both c.put_text.ensures c.put_numbers.ensures) c.put_byte.ensures
