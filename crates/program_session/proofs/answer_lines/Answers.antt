-- `program_session::answer_lines` meets its contract, line by line. Assumes nothing.
use Rattle.std.proofs.Common.{◌≡◌, ◌-◌, ◌+◌, true, false, length, take, drop, take_all, length-drop, arith, rules}
use Rattle.program_answers.specs.Answered.{held}
use Rattle.program_session.specs.Transcript.{has_stopped}
use Rattle.program_session.proofs.LineLaws.{in_line}
use Rattle.program_session.proofs.AnswerLaws.{ends, stops, goes}
use Rattle.program_session.proofs.answer_lines.Goals as goal

pub returns-then-ne-clause-after : goal.returns-then-ne-clause-after
returns-then-ne-clause-after g c =
    let l = c.loop-end in
    let stopped : has_stopped (held c.answer.new.self) ≡ true = search rules in
    (stops _ _ _ _ (held l.program) l.program.out (g.W.Write.contents l.to) l.rest.now l.end l.invariant c.loop-end-test.true (held c.answer.new.self)
    c.answer.new.self.out (g.W.Write.contents c.answer.new.to) c.answer.ensures.after c.answer.ensures.written stopped).after

pub returns-then-ne-clause-written : goal.returns-then-ne-clause-written
returns-then-ne-clause-written g c =
    let l = c.loop-end in
    let stopped : has_stopped (held c.answer.new.self) ≡ true = search rules in
    (stops _ _ _ _ (held l.program) l.program.out (g.W.Write.contents l.to) l.rest.now l.end l.invariant c.loop-end-test.true (held c.answer.new.self)
    c.answer.new.self.out (g.W.Write.contents c.answer.new.to) c.answer.ensures.after c.answer.ensures.written stopped).sends

pub loop-end-preserved : goal.loop-end-preserved
loop-end-preserved g c =
    let l = c.loop-end in
    let rest = l.rest.now in
    let reads : has_stopped (held c.answer.new.self) ≡ false = search rules in
    let left : take (length rest - (l.end + 1)) (drop (l.end + 1) rest) ≡ drop (l.end + 1) rest = take_all _ (drop (l.end + 1) rest)
    (omega (arith, length-drop (l.end + 1) rest)) in
    let next = c.run_end-end-in-loop-end.ensures.value in_line (λ b t told. search rules) in
    rw left (goes _ _ _ _ (held l.program) l.program.out (g.W.Write.contents l.to) rest l.end l.invariant c.loop-end-test.true (held c.answer.new.self)
    c.answer.new.self.out (g.W.Write.contents c.answer.new.to) c.answer.ensures.after c.answer.ensures.written reads c.run_end-end-in-loop-end.result
    (omega (arith, rw left at next)))

pub returns-clause-after : goal.returns-clause-after
returns-clause-after g c =
    let l = c.loop-end in
    (ends _ _ _ _ (held l.program) l.program.out (g.W.Write.contents l.to) l.rest.now l.end l.invariant c.loop-end-test.false).0.after

pub returns-clause-written : goal.returns-clause-written
returns-clause-written g c =
    let l = c.loop-end in
    (ends _ _ _ _ (held l.program) l.program.out (g.W.Write.contents l.to) l.rest.now l.end l.invariant c.loop-end-test.false).0.sends

pub returns-clause-left : goal.returns-clause-left
returns-clause-left g c =
    let l = c.loop-end in
    rw l.invariant.reads ((ends _ _ _ _ (held l.program) l.program.out (g.W.Write.contents l.to) l.rest.now l.end l.invariant c.loop-end-test.false).1)
