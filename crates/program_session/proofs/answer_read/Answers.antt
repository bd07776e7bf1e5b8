-- `program_session::answer_read` meets its contract: what stands after the last newline is kept. Assumes nothing.
use Rattle.std.proofs.Common.{arith}
use Rattle.program_answers.specs.Answered.{held}
use Rattle.program_session.proofs.ReadLaws.{left_within, left_kept}
use Rattle.program_session.proofs.answer_read.Goals as goal

pub overflow_sub-input : goal.overflow_sub-input
overflow_sub-input g c =
    left_within (held c.answer_lines-left.new.program) c.args.buffer.now c.args.input.end c.answer_lines-left.result c.requires.within
    c.answer_lines-left.ensures.left

pub returns-then-input-eq-clause-held : goal.returns-then-input-eq-clause-held
returns-then-input-eq-clause-held g c =
    let a = c.answer_lines-left in
    rw (← a.ensures.after) (left_kept (held a.new.program) c.args.buffer.now c.keep_rest.new.buffer c.args.input.end a.result c.requires.within
    a.ensures.left c.keep_rest.ensures)

pub returns-then-input-eq-clause-fits : goal.returns-then-input-eq-clause-fits
returns-then-input-eq-clause-fits g c =
    let a = c.answer_lines-left in
    omega (arith, c.requires.within, left_within (held a.new.program) c.args.buffer.now c.args.input.end a.result c.requires.within a.ensures.left)

pub returns-else-input-eq-clause-held : goal.returns-else-input-eq-clause-held
returns-else-input-eq-clause-held g c =
    let a = c.answer_lines-left in
    rw (← a.ensures.after) (left_kept (held a.new.program) c.args.buffer.now c.keep_rest.new.buffer c.args.input.end a.result c.requires.within
    a.ensures.left c.keep_rest.ensures)

pub returns-else-input-eq-clause-fits : goal.returns-else-input-eq-clause-fits
returns-else-input-eq-clause-fits g c =
    let a = c.answer_lines-left in
    omega (arith, c.requires.within, left_within (held a.new.program) c.args.buffer.now c.args.input.end a.result c.requires.within a.ensures.left)
