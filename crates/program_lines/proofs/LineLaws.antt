-- The numbers of a command.
-- Assumes nothing.
use mathlib.Core.Path.{◌≡◌, refl}
use mathlib.Core.List.{List, ◌++◌}
use Prim.Native.Nat.{ℕ, ◌≤◌, ◌<◌}
use lib.ListN.{length, take}
use lib.Seq.{length-take-le}
use Rattle.std.proofs.lemmas.List.{take-append-le}
use borrow.Author.Tests.{le-leb, lt-leb}
use Rattle.program_arguments.specs.Arguments.{read, wrong, numbers_of}
use Rattle.program_arguments.specs.declared.Command.{Command}
use Rattle.program_arguments.specs.declared.Reason.{Reason}
use Rattle.program_arguments.specs.declared.Reason.TheVariants.{Usage}
use Rattle.program_lines.specs.Line.{least_of, most_of, arguments_of, Holds}

-- a command's numbers, of which k were read
module _ (c : Command) (ws : List (List ℕ)) where
  module _ (k : ℕ) (xs : List ℕ) (all : read (take k xs) ≡ numbers_of c (most_of c) 2 ws) (within : k ≤ length xs) where
    pub arguments_few : k < least_of c → arguments_of c ws ≡ wrong (Usage c)
    unfolding arguments_of
    arguments_few h = rw (← all, length-take-le k xs within, lt-leb (least_of c) k h) refl

    pub arguments_read : least_of c ≤ k → arguments_of c ws ≡ read (take k xs)
    unfolding arguments_of
    arguments_read h = rw (← all, length-take-le k xs within, le-leb (least_of c) k h) refl

  pub arguments_wrong : (r : Reason) → wrong r ≡ numbers_of c (most_of c) 2 ws → arguments_of c ws ≡ wrong r
  unfolding arguments_of
  arguments_wrong r e = rw (← e) refl

-- the words that were read stand first, whatever follows them
pub holds_take : (k : ℕ) (xs ys : List ℕ) → k ≤ length xs → Holds (xs ++ ys) (take k xs)
holds_take k xs ys h = rw (length-take-le k xs h, take-append-le k xs ys h) refl
