-- `program_session::answer_lines` meets its contract. The invariant: what is answered and what is left are the whole input. Assumes nothing.
use lib.ListN.{length}
use Rattle.program_answers.specs.Answered.{held}
use Rattle.program_session.proofs.AnswerLaws.{Answering}
use Rattle.program_session.proofs.answer_lines.Given as goal

abbrev pub invariant-loop-end : goal.invariant-loop-end
invariant-loop-end g l =
    Answering (held l.fn.program) l.fn.program.out (g.W.Write.contents l.fn.to) l.fn.input (held l.program) l.program.out (g.W.Write.contents l.to) l.rest l.end

abbrev pub decreases-loop-end : goal.decreases-loop-end
decreases-loop-end g l = length l.rest
