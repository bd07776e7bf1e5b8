-- `program_answers::Program::try_line` meets its contract: a change puts nothing. Assumes nothing.
use Rattle.std.proofs.Common.{sym, ap}
use Rattle.program_output.proofs.PutLaws.{puts_none}
use Rattle.program_answers.specs.Answered.{held, Answered}
use Rattle.program_answers.proofs.AnsweredLaws.{same_bytes, change_told}
use Rattle.program_answers.proofs.Program.try_line.Goals as goal

pub returns-in-Change-clause-told : goal.returns-in-Change-clause-told
returns-in-Change-clause-told c =
    rw c.in-Change.is (same_bytes (sym (ap (λ (a : Answered). a.bytes) (change_told c.in-Change.change (held c.args.self.now)))) (puts_none _ _))
