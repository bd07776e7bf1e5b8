-- `program_arguments::fill_numbers` meets its contract. The invariant: the k numbers that are read and those that are left are all. Assumes nothing.
use mathlib.Core.Path.{◌≡◌}
use Prim.Native.Nat.{◌+◌, ◌-◌, ◌≤◌}
use lib.ListN.{length, take}
use Rattle.program_words.specs.Words.{words}
use Rattle.program_arguments.specs.Arguments.{numbers_of}
use Rattle.program_arguments.proofs.ArgumentLaws.{prepend}
use Rattle.program_arguments.proofs.fill_numbers.Given as goal

abbrev pub invariant-loop-k : goal.invariant-loop-k
invariant-loop-k l = record {
  within : l.k ≤ length l.numbers;
  long : length l.numbers ≡ length l.initial.numbers;
  same : prepend (take l.k l.numbers) (numbers_of l.command (length l.initial.numbers - l.k) (l.k + 2) (words l.rest)) ≡ numbers_of l.command (length l.initial.numbers) 2 (words l.s);
}
