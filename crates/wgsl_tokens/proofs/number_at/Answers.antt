use Prim.Native.Nat.{◌<◌}
use native.Mathlib.Omega.{arith}
use borrow.Author.Rules.{rules}
use Rattle.program_words.specs.Number.{is_digit}
use Rattle.wgsl_tokens.specs.Tokens.{from}
use Rattle.wgsl_tokens.proofs.WordLaws.{digits_token, digits_bad, digits_good}
use Rattle.wgsl_tokens.proofs.number_at.Goals as goal

pub returns-then-s-start : goal.returns-then-s-start
returns-then-s-start c =
    let s = c.args.s.now in
    let i = c.args.start in
    let e = c.run_end-end.result in
    let some_byte : i < e = omega (arith, c.run_end-end.ensures.lower_bound) in
    let token = digits_token s i c.requires.0 c.requires.1 c.requires.2 c.requires.3 e (c.run_end-end.ensures.value is_digit (λ b r told. search rules)) in
    (from s e, rw (digits_bad s i e some_byte c.run_end-end.ensures.lower_bound.1 (rw (c.in_word.ensures, c.byte_at-next.ensures) at c.if-s-start.true)) at token)

pub returns-in-Ok : goal.returns-in-Ok
returns-in-Ok c =
    let s = c.args.s.now in
    let i = c.args.start in
    let e = c.run_end-end.result in
    let some_byte : i < e = omega (arith, c.run_end-end.ensures.lower_bound) in
    let token = digits_token s i c.requires.0 c.requires.1 c.requires.2 c.requires.3 e (c.run_end-end.ensures.value is_digit (λ b r told. search rules)) in
    let good = digits_good s i e some_byte c.run_end-end.ensures.lower_bound.1 (rw (c.in_word.ensures, c.byte_at-next.ensures) at c.if-s-start.false) c.number_of.result c.number_of.ensures in
    rw (good, c.in-Ok.is) at token

pub returns-in-Err-TooLarge : goal.returns-in-Err-TooLarge
returns-in-Err-TooLarge c =
    let s = c.args.s.now in
    let i = c.args.start in
    let e = c.run_end-end.result in
    let some_byte : i < e = omega (arith, c.run_end-end.ensures.lower_bound) in
    let token = digits_token s i c.requires.0 c.requires.1 c.requires.2 c.requires.3 e (c.run_end-end.ensures.value is_digit (λ b r told. search rules)) in
    let good = digits_good s i e some_byte c.run_end-end.ensures.lower_bound.1 (rw (c.in_word.ensures, c.byte_at-next.ensures) at c.if-s-start.false) c.number_of.result c.number_of.ensures in
    rw (good, c.in-Err-TooLarge.is, c.in-Err-TooLarge.field-0-is) at token

pub returns-in-Err-NotANumber : goal.returns-in-Err-NotANumber
returns-in-Err-NotANumber c =
    let s = c.args.s.now in
    let i = c.args.start in
    let e = c.run_end-end.result in
    let some_byte : i < e = omega (arith, c.run_end-end.ensures.lower_bound) in
    let token = digits_token s i c.requires.0 c.requires.1 c.requires.2 c.requires.3 e (c.run_end-end.ensures.value is_digit (λ b r told. search rules)) in
    let good = digits_good s i e some_byte c.run_end-end.ensures.lower_bound.1 (rw (c.in_word.ensures, c.byte_at-next.ensures) at c.if-s-start.false) c.number_of.result c.number_of.ensures in
    (from s e, rw (good, c.in-Err-NotANumber.is, c.in-Err-NotANumber.field-0-is) at token)
