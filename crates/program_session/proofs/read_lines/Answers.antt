-- `program_session::read_lines` meets its contract, by what was read. Assumes nothing.
use Rattle.std.proofs.Common.{arith}
use Rattle.program_answers.specs.Answered.{held}
use Rattle.program_session.proofs.LineLaws.{unended_nil}
use Rattle.program_session.proofs.ReadLaws.{heard_all, unended_all, heard_none}
use Rattle.program_session.proofs.read_lines.Goals as goal

pub returns-in-Ok-clause-heard : goal.returns-in-Ok-clause-heard
returns-in-Ok-clause-heard g c =
    let input = c.in-Ok.input in
    let a = c.answer_read in
    heard_all (held c.args.program.now) c.args.buffer.now c.read_more.new.buffer c.args.front input.end c.requires.reads c.read_more.auto.buffer input.last
    (omega (arith, c.requires.fits, c.requires.buffer)) c.in-Ok.ensures.buffer _ _ _ _ _ _ c.in-Ok.ensures.bytes _ a.ensures.after _ a.ensures.held
    a.ensures.written

pub returns-in-Ok-clause-unended : goal.returns-in-Ok-clause-unended
returns-in-Ok-clause-unended g c =
    let input = c.in-Ok.input in
    unended_all (held c.args.program.now) c.args.buffer.now c.read_more.new.buffer c.args.front input.end c.requires.reads c.read_more.auto.buffer _
    c.answer_read.ensures.held

pub returns-in-Err-clause-heard : goal.returns-in-Err-clause-heard
returns-in-Err-clause-heard g c =
    heard_none (held c.args.program.now) c.args.buffer.now c.read_more.new.buffer c.args.front _ _ _ _ c.requires.reads c.requires.buffer c.in-Err.error
    c.requires.fits c.requires.unended c.in-Err.ensures.buffer

pub returns-in-Err-clause-unended : goal.returns-in-Err-clause-unended
returns-in-Err-clause-unended g c = unended_nil
