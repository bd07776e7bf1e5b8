-- `spirv_words::Instructions` gives the instructions one by one. Assumes nothing.
use mathlib.Core.Path.{sym, ap, ◌∙◌}
use lib.ListN.{length}
use native.Mathlib.Omega.{arith}
use Rattle.spirv_words.proofs.SearchLaws.{between_next, between_end, between_stuck}
use Rattle.spirv_words.proofs.InstructionsIterator.next.Goals as goal

pub returns-then-self-at-clause-steps : goal.returns-then-self-at-clause-steps
returns-then-self-at-clause-steps c =
    let s = c.args.self.now in
    let e = between_end s.words.now s.end s.at c.if-self-at.true in
    (e, e)

pub returns-then-count-eq0-clause-steps : goal.returns-then-count-eq0-clause-steps
returns-then-count-eq0-clause-steps c =
    let s = c.args.self.now in
    let e = between_stuck s.words.now s.end s.at (sym c.word_count-count.ensures.0 ∙ c.if-count-eq0.true) in
    (e, e)

pub returns-clause-steps : goal.returns-clause-steps
returns-clause-steps c =
    let s = c.args.self.now in
    rw c.word_count-count.ensures.0
    (between_next s.words.now s.end s.at (omega (arith, c.if-self-at.false)) (omega (arith, c.word_count-count.ensures.0, c.if-count-eq0.false)))

pub returns-clause-goes : goal.returns-clause-goes
returns-clause-goes c =
    let s = c.args.self.now in
    let e = between_next s.words.now s.end s.at (omega (arith, c.if-self-at.false)) (omega (arith, c.word_count-count.ensures.0, c.if-count-eq0.false)) in
    let n = ap length e in
    rw c.word_count-count.ensures.0 (record { on = λ f. (tt, tt, omega (arith, n)); keeps = tt; rests = λ f. tt })
