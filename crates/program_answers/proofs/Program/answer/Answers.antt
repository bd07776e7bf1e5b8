-- `program_answers::Program::answer` meets its contract: what was written to make room, and then the bytes. Assumes nothing.
use Rattle.program_output.proofs.SendsLaws.{sends_both, sends_adds}
use Rattle.program_answers.proofs.Program.answer.Goals as goal

pub returns-clause-written : goal.returns-clause-written
returns-clause-written g c = sends_both c.make_room.ensures.written (sends_adds _ c.put_answer.ensures.told)
