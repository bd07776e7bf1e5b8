-- `program_lines::read_command` meets its contract: the numbers that were read, where there are enough. Assumes nothing.
use Rattle.std.proofs.Common.{◌≡◌, ◌≤◌, ℕ, List, refl, sym, arith, rules, length, take, drop, ◌∙◌}
use Rattle.std.proofs.lemmas.List.{take-append-le}
use lib.Seq.{length-take-le}
use Rattle.std.specs.Prelude.{Err}
use Rattle.program_words.specs.Words.{words}
use Rattle.program_arguments.specs.declared.Command.{Command}
use Rattle.program_lines.specs.Line.{most_of}
use Rattle.program_lines.proofs.LineLaws.{arguments_few, arguments_read, arguments_wrong, holds_take}
use Rattle.program_lines.proofs.read_command.Goals as goal

-- the words that are lent to the reader of the numbers
lent_long : (most : ℕ) (d : Command) (xs : List ℕ) → most ≡ most_of d → most ≤ 1025 → 1025 ≤ length xs → length (take most xs) ≡ most_of d
lent_long most d xs e h l = length-take-le most xs (omega arith) ∙ e

pub returns-in_err-count : goal.returns-in_err-count
returns-in_err-count c =
    let a = c.args in
    let u = c.usage_of-usage.ensures in
    let long = lent_long c.usage_of-usage.result.most a.command a.numbers.now u.1 u.2 c.requires in
    let r = c.in_err-count.field-0.0 in
    let same : c.from_residual.result ≡ Err r = search rules in
    let told = rw (c.in_err-count.was, long) at c.fill_numbers.ensures.numbers_after in
    rw (same, arguments_wrong a.command (words a.s.now) r told) record { value = refl; count = refl; holds = refl }

pub returns-then-count-usage : goal.returns-then-count-usage
returns-then-count-usage c =
    let a = c.args in
    let u = c.usage_of-usage.ensures in
    let k = c.in_ok-count.count in
    let xs = c.fill_numbers.new.numbers in
    let long = lent_long c.usage_of-usage.result.most a.command a.numbers.now u.1 u.2 c.requires in
    let told = rw (c.in_ok-count.was, long) at c.fill_numbers.ensures.numbers_after in
    let room = rw c.in_ok-count.was at c.fill_numbers.ensures.within in
    let within : k ≤ length xs = omega (arith, room, c.fill_numbers.ensures.long) in
    rw (arguments_few a.command (words a.s.now) k xs told within (omega (arith, c.if-count-usage.true, u.0)))
    record { value = refl; count = refl; holds = refl }

pub returns : goal.returns
returns c =
    let a = c.args in
    let u = c.usage_of-usage.ensures in
    let k = c.in_ok-count.count in
    let xs = c.fill_numbers.new.numbers in
    let after = drop c.usage_of-usage.result.most a.numbers.now in
    let long = lent_long c.usage_of-usage.result.most a.command a.numbers.now u.1 u.2 c.requires in
    let told = rw (c.in_ok-count.was, long) at c.fill_numbers.ensures.numbers_after in
    let room = rw c.in_ok-count.was at c.fill_numbers.ensures.within in
    let within : k ≤ length xs = omega (arith, room, c.fill_numbers.ensures.long) in
    rw (arguments_read a.command (words a.s.now) k xs told within (omega (arith, c.if-count-usage.false, u.0)))
    record {
      value = rw (take-append-le k xs after within) refl;
      count = sym (length-take-le k xs within);
      holds = holds_take k xs after within;
    }
