-- `program_output::Output::put_stop` meets its contract: one after the other. Assumes nothing.
use Rattle.program_output.proofs.PutLaws.{puts_both}
use Rattle.program_output.specs.Answers.{stop_line}
use Rattle.program_output.proofs.Output.put_stop.Goals as goal

pub returns : goal.returns
unfolding stop_line
returns c =
    rw (c.word.ensures, c.why.ensures) at (puts_both (puts_both c.put_named.ensures c.put_word.ensures) c.put_text.ensures)
