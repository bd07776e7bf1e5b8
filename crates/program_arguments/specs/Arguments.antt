-- The numbers after a command, by the words of the line.
-- Assumes nothing.
use Rattle.std.specs.Prelude.{List, [], ◌∷◌, ℕ, zero, suc, Result, Ok, Err}
use Rattle.program_words.specs.Number.{number_of}
use Rattle.program_words.specs.declared.NumberError.{NumberError}
use Rattle.program_words.specs.declared.NumberError.TheVariants as number
use Rattle.program_words.specs.declared.Stray.{Stray}
use Rattle.program_words.specs.declared.Stray.TheVariants as stray
use Rattle.program_arguments.specs.declared.Command.{Command}
use Rattle.program_arguments.specs.declared.Reason.{Reason}
use Rattle.program_arguments.specs.declared.Reason.TheVariants as reason

pub data Arguments : Type 0 where
  read : List ℕ → Arguments
  wrong : Reason → Arguments

abbrev pub before : ℕ → Arguments → Arguments
before n (read ns) = read (n ∷ ns)
before n (wrong r) = wrong r

-- why word `at` of the line is no number
abbrev pub reason_of : NumberError → (at : ℕ) → Reason
reason_of number.NotANumber at = reason.NotANumber at
reason_of number.TooLarge at = reason.TooLarge at

abbrev pub with_number : Result ℕ NumberError → (at : ℕ) → Arguments → Arguments
with_number (Ok n) at rest = before n rest
with_number (Err e) at rest = wrong (reason_of e at)

-- a byte that no line may hold
abbrev pub reason_of_stray : Stray → Reason
reason_of_stray stray.ByteOrderMark = reason.ByteOrderMark
reason_of_stray stray.Nul = reason.Nul
reason_of_stray stray.Return = reason.Return

-- at most `left` numbers; `at` is the number of the first word in the line
unfoldable pub numbers_of : Command → (left at : ℕ) → List (List ℕ) → Arguments
numbers_of c left at [] = read []
numbers_of c zero at (w ∷ ws) = wrong (reason.Usage c)
numbers_of c (suc left) at (w ∷ ws) = with_number (number_of w) at (numbers_of c left (suc at) ws)
