-- `program_words::next_word` meets its contract, by the laws of runs. Assumes nothing.
use native.Mathlib.Omega.{arith}
use borrow.Author.Rules.{rules}
use Rattle.program_words.specs.Words.{is_blank, in_word}
use Rattle.program_words.proofs.WordLaws.{word_at_end, word_found}
use Rattle.program_words.proofs.next_word.Goals as goal

pub returns-then-start-s : goal.returns-then-start-s
returns-then-start-s c =
    let a = c.args in
    let r = c.run_end-start in
    word_at_end a.s.now a.at r.result (r.ensures.value is_blank (λ b t told. search rules)) (omega (arith, c.if-start-s.true))

pub returns : goal.returns
returns c =
    let a = c.args in
    let r = c.run_end-start in
    let e = c.run_end-end in
    let found = word_found a.s.now a.at r.result (r.ensures.value is_blank (λ b t told. search rules)) e.result
    (omega (arith, r.ensures.lower_bound, c.if-start-s.false)) (e.ensures.value in_word (λ b t told. search rules)) in
    (found.0, e.ensures.lower_bound.1, found.1)
