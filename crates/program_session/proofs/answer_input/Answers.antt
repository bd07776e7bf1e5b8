-- `program_session::answer_input` meets its contract, turn by turn. Assumes nothing.
use Rattle.std.proofs.Common.{sym, ap, subst, rules, [], false, true, ◌≡◌, take, arith}
use Rattle.program_answers.specs.Answered.{Held, held, begun}
use Rattle.program_session.specs.Transcript.{has_stopped}
use Rattle.program_session.proofs.LineLaws.{unended_nil}
use Rattle.program_session.proofs.SessionLaws.{Running, begins, starts, goes, ends, too_many, reading_at}
use Rattle.program_session.proofs.answer_input.Goals as goal
use Rattle.program_session.proofs.answer_input.Goals.{else-loop-test, then-loop-test+then-ne}

pub turn-front-requires-clause-reads : goal.turn-front-requires-clause-reads
turn-front-requires-clause-reads g c = c.loop.invariant.0

pub turn-front-requires-clause-none_waits : goal.turn-front-requires-clause-none_waits
turn-front-requires-clause-none_waits g c = c.loop.invariant.1

pub turn-front-requires-clause-room : goal.turn-front-requires-clause-room
turn-front-requires-clause-room g c = c.loop.invariant.2

pub turn-front-requires-clause-fits : goal.turn-front-requires-clause-fits
turn-front-requires-clause-fits g c = c.loop.invariant.3

pub turn-front-requires-clause-unended : goal.turn-front-requires-clause-unended
turn-front-requires-clause-unended g c = c.loop.invariant.4

pub loop-init : goal.loop-init
loop-init g c =
    let at_first = begins c.new.result c.zeros.result c.zeros-2.result c.new.ensures c.zeros.ensures c.zeros-2.ensures in
    let source = g.R.Read.remaining c.args.source.now in
    let written = g.W.Write.contents c.args.to.now in
    let start = subst (λ (h : Held). Running source written 0 h [] source written) (sym at_first) (starts source written) in
    (ap has_stopped at_first, c.new-2.ensures.none_waits, c.new-2.ensures.room, omega arith, unended_nil, start)

pub loop-preserved : goal.loop-preserved
loop-preserved g c =
    let l = c.loop in
    let t = c.turn-front in
    let reads : has_stopped (held t.new.program) ≡ false = search rules in (
      reads,
      t.ensures.none_waits,
      t.ensures.room,
      t.ensures.fits,
      t.ensures.unended,
      goes _ l.counter (held l.program) (held t.new.program) (take l.front l.buffer) (take t.result t.new.buffer) _ _ _ _ t.ensures.turned _ l.invariant.5
          reads,
    )

pub returns : goal.returns
returns g c =
    let l = c.loop in
    elim c.loop-test.branch [
      | else-loop-test w ↦
          rw (w.program-is, w.to-is, reading_at (l.program.session.state) l.invariant.0) (too_many _ _ l.counter (held l.program) (take l.front l.buffer) _ _
          l.invariant.5 w.loop-test.false)
      | then-loop-test+then-ne w ↦
          let t = w.turn-front in
          let stopped : has_stopped (held t.new.program) ≡ true = search rules in
          rw (w.program-is, w.to-is) (ends _ l.counter (held l.program) (held t.new.program) (take l.front l.buffer) (take t.result t.new.buffer) _ _ _ _
          t.ensures.turned _ l.invariant.5 stopped)
    ]
