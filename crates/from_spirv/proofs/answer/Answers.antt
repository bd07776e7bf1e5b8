-- `from_spirv::answer` meets its contract: what is put into an empty buffer is all that is written. Assumes nothing.
use Rattle.program_output.proofs.SendsLaws.{written_whole}
use Rattle.from_spirv.proofs.answer.Goals as goal

pub returns : goal.returns
returns g c =
    let new = c.new-out.ensures in
    let write = c.write_out in
    written_whole _ _ c.put_answer.ensures new.none_waits new.room write.result write.ensures.past write.ensures.written
