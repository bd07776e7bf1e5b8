use Prim.Native.Nat.{◌<◌}
use native.Mathlib.Omega.{arith}
use borrow.Author.Rules.{rules}
use Rattle.wgsl_tokens.specs.Tokens.{from, in_word}
use Rattle.wgsl_tokens.proofs.WordLaws.{word_token, word_bad, word_good}
use Rattle.wgsl_tokens.proofs.word_at.Goals as goal

pub returns-then-s-start : goal.returns-then-s-start
returns-then-s-start c =
    let s = c.args.s.now in
    let i = c.args.start in
    let e = c.run_end-end.result in
    let some_byte : i < e = omega (arith, c.run_end-end.ensures.lower_bound) in
    let within = c.run_end-end.ensures.lower_bound.1 in
    let token = word_token s i c.requires.0 c.requires.1 c.requires.2 e (c.run_end-end.ensures.value in_word (λ b r told. search rules)) in
    (from s e, rw (word_bad s i e some_byte within (rw c.byte_at-second.ensures at c.if-s-start.true)) at token)

pub returns : goal.returns
returns c =
    let s = c.args.s.now in
    let i = c.args.start in
    let e = c.run_end-end.result in
    let some_byte : i < e = omega (arith, c.run_end-end.ensures.lower_bound) in
    let within = c.run_end-end.ensures.lower_bound.1 in
    let token = word_token s i c.requires.0 c.requires.1 c.requires.2 e (c.run_end-end.ensures.value in_word (λ b r told. search rules)) in
    (omega arith, within, rw (word_good s i e some_byte within (rw c.byte_at-second.ensures at c.if-s-start.false)) at token)
