-- `program_arguments::fill_numbers` meets its contract: what is read and what is left are all. Assumes nothing.
use borrow.Author.Rules.{rules}
use mathlib.Core.Path.{◌≡◌, sym, ◌∙◌}
use native.Mathlib.Omega.{arith}
use Prim.Native.Nat.{◌-◌}
use lib.ListN.{drop, take, length, length-drop, length-set}
use lib.Seq.{take_all}
use Rattle.std.specs.Prelude.{Err}
use Rattle.program_words.specs.Words.{words}
use Rattle.program_arguments.proofs.ArgumentLaws.{numbers_more, numbers_wrong, numbers_end, numbers_many, some_word, no_word}
use Rattle.program_arguments.proofs.fill_numbers.Goals as goal

pub returns-in_default-clause-numbers_after : goal.returns-in_default-clause-numbers_after
returns-in_default-clause-numbers_after c =
    let a = c.args in
    let l = c.loop-k in
    let none = rw (c.in_ok-number.was, c.in_default.is) at c.next_number.ensures in
    sym (numbers_end a.command (length a.numbers.now) l.k l.numbers (words l.rest.now) none) ∙ l.invariant.same

pub returns-in_err-number-clause-numbers_after : goal.returns-in_err-number-clause-numbers_after
returns-in_err-number-clause-numbers_after c =
    let a = c.args in
    let l = c.loop-k in
    let r = c.in_err-number.field-0.0 in
    let same : c.from_residual.result ≡ Err r = search rules in
    let no = rw c.in_err-number.was at c.next_number.ensures in
    rw same (sym (numbers_wrong a.command (length a.numbers.now) l.k l.numbers (words l.rest.now) r (omega arith) no) ∙ l.invariant.same)

pub loop-k-preserved : goal.loop-k-preserved
loop-k-preserved c =
    let a = c.args in
    let l = c.loop-k in
    let n = c.in-Some.number in
    let next = rw (c.in_ok-number.was, c.in-Some.is) at c.next_number.ensures in
    let rest = l.rest.now in
    let all : take (length rest - n.at) (drop n.at rest) ≡ drop n.at rest = take_all (length rest - n.at) (drop n.at rest) (omega (arith, length-drop n.at rest)) in
    record {
      within = simp length-set (omega arith);
      long = simp length-set l.invariant.long;
      same = rw all (sym (numbers_more a.command (length a.numbers.now) l.k l.numbers (words l.rest.now) (words (drop n.at l.rest.now)) n.value (omega arith) (omega arith) next.1) ∙ l.invariant.same);
    }

pub returns-then-is_some-clause-numbers_after : goal.returns-then-is_some-clause-numbers_after
returns-then-is_some-clause-numbers_after c =
    let a = c.args in
    let l = c.loop-k in
    let more = some_word l.rest.now c.next_word.result c.next_word.ensures (sym c.is_some.ensures ∙ c.if-is_some.true) in
    sym (numbers_many a.command (length a.numbers.now) l.k l.numbers (words l.rest.now) more.0 more.1 (omega arith) more.2) ∙ l.invariant.same

pub returns-clause-numbers_after : goal.returns-clause-numbers_after
returns-clause-numbers_after c =
    let a = c.args in
    let l = c.loop-k in
    let none = no_word l.rest.now c.next_word.result c.next_word.ensures (sym c.is_some.ensures ∙ c.if-is_some.false) in
    let all : l.k ≡ length l.numbers = omega arith in
    rw all at (sym (numbers_end a.command (length a.numbers.now) l.k l.numbers (words l.rest.now) none) ∙ l.invariant.same)
