-- `program_session::turn` meets its contract: what was sent is written. Assumes nothing.
use Rattle.program_answers.specs.Answered.{held}
use Rattle.program_session.proofs.SessionLaws.{turned}
use Rattle.program_session.proofs.turn.Goals as goal

pub returns-clause-turned : goal.returns-clause-turned
returns-clause-turned g c =
    let s = c.flush.ensures.state in
    turned (held c.args.program.now) (held c.read_lines-left.new.program) _ _ _ _ _ _ _ c.args.program.now.out c.read_lines-left.new.program.out
    c.read_lines-left.ensures.heard c.requires.none_waits c.requires.room s.0 c.flush.new.self s.1 s.2
