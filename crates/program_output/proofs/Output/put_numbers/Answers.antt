-- `program_output::Output::put_numbers` meets its contract: number after number. Assumes nothing.
use Rattle.program_output.specs.Bytes.{number_at}
use Rattle.program_output.proofs.PutLaws.{puts_start, puts_more}
use Rattle.program_output.proofs.Output.put_numbers.Goals as goal

pub loop-word-init : goal.loop-word-init
loop-word-init c = puts_start _ _ _

pub loop-word-preserved : goal.loop-word-preserved
loop-word-preserved c =
    let l = c.loop-word in
    puts_more (number_at c.args.words.now) l.word-index l.invariant (rw c.from.ensures at c.put_number.ensures)
