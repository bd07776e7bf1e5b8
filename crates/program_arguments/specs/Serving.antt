-- Serves the contracts of functions inside the library: it adds nothing to what the other files say, and a reader may skip it.
-- Assumes nothing.
use denote.Ref.{Bor}
use Rattle.std.specs.Prelude.{◌≡◌, List, [], ℕ, suc, ◌≤◌, length, take, drop, Option, Some, None, Result, Ok, Err}
use Rattle.std.specs.Result.{result_map_both}
use Rattle.program_words.specs.Words.{words}
use Rattle.program_words.specs.declared.NumberError.{NumberError}
use Rattle.program_arguments.specs.declared.Command.{Command}
use Rattle.program_arguments.specs.declared.Reason.{Reason}
use Rattle.program_words.specs.declared.NumberRead.{NumberRead}
use Rattle.program_arguments.specs.Arguments.{Arguments, read, wrong, before, reason_of, numbers_of}

-- the number that a word is, with the reason where it is none
abbrev pub told_at : Result ℕ NumberError → (place : ℕ) → Result ℕ Reason
told_at r place = result_map_both (λ n. n) (λ e. reason_of e place) r

abbrev pub numbers_in : Result (Bor (List ℕ)) Reason → Arguments
numbers_in (Ok ns) = read ns.now
numbers_in (Err r) = wrong r

-- the same, where the numbers are so many words, the first of those that were lent
abbrev pub filled : Result ℕ Reason → List ℕ → Arguments
filled (Ok k) xs = read (take k xs)
filled (Err r) xs = wrong r

abbrev pub count_of : Result ℕ Reason → ℕ
count_of (Ok k) = k
count_of (Err r) = 0

-- the answer is the first number of a text, word `place` of the line, and the other words follow it
abbrev pub NumberAt : List ℕ → (place : ℕ) → Result (Option NumberRead) Reason → Type 0
NumberAt s place (Ok None) = words s ≡ []
NumberAt s place (Ok (Some n)) = (n.at ≤ length s) × ((c : Command) (left k : ℕ) → numbers_of c (suc left) k (words s) ≡ before n.value (numbers_of c left (suc k) (words (drop n.at s))))
NumberAt s place (Err r) = (c : Command) (left : ℕ) → numbers_of c (suc left) place (words s) ≡ wrong r
