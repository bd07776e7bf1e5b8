-- `program_answers::Program::put_answer` meets its contract: nothing is put where nothing is asked. Assumes nothing.
use Rattle.program_output.proofs.PutLaws.{puts_none}
use Rattle.program_answers.specs.Answered.{held}
use Rattle.program_answers.proofs.AnsweredLaws.{same_bytes, none_told, wrong_told}
use Rattle.program_answers.proofs.Program.put_answer.Goals as goal

pub returns-in-Ok-None-clause-told : goal.returns-in-Ok-None-clause-told
returns-in-Ok-None-clause-told c =
    let told = rw (c.in-Ok-None.is, c.in-Ok-None.field-0-is) at c.said_line.ensures in
    same_bytes (none_told c.args.line.now (held c.args.self.now) told) (puts_none _ _)

pub returns-in-Err-clause-told : goal.returns-in-Err-clause-told
returns-in-Err-clause-told c =
    let told = rw c.in-Err.is at c.said_line.ensures in
    same_bytes (wrong_told c.args.line.now (held c.args.self.now) c.in-Err.reason told) (puts_none _ _)
