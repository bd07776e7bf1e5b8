-- `program_session::answer_input` meets its contract. The invariant: what was written so far and what is left make up the transcript. Assumes nothing.
use Rattle.std.proofs.Common.{◌≡◌, ◌≤◌, false, length, take}
use Rattle.program_answers.specs.Answered.{held}
use Rattle.program_session.specs.Transcript.{has_stopped}
use Rattle.program_session.specs.Serving.{Unended}
use Rattle.program_session.proofs.SessionLaws.{Running}
use Rattle.program_session.proofs.answer_input.Given as goal

abbrev pub invariant-loop : goal.invariant-loop
invariant-loop g l =
    (has_stopped (held l.program) ≡ false)
    × (l.program.out.end ≡ 0)
    × (length l.program.out.bytes ≡ 1114112)
    × (l.front ≤ 65536)
    × Unended (take l.front l.buffer)
    × Running (g.R.Read.remaining l.fn.source) (g.W.Write.contents l.fn.to) l.counter (held l.program) (take l.front l.buffer) (g.R.Read.remaining l.source)
    (g.W.Write.contents l.to)
