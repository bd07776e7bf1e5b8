-- The definitions at work on a few lines.
-- Assumes nothing.
use mathlib.Core.Path.{◌≡◌, refl}
use mathlib.Core.List.{List, [], ◌∷◌}
use Prim.Native.Nat.{ℕ}
use Rattle.std.specs.Prelude.{Option, Some, None, Result, Ok, Err}
use Rattle.program_words.specs.Words.{run_of, before_comment, without_return, text_of, pieces, words}
use Rattle.program_words.specs.Number.{all_digits, decimal, number_of}
use Rattle.program_words.specs.Stray.{stray_of, stray_from}
use Rattle.program_arguments.specs.Arguments.{numbers_of}
use Rattle.program_lines.specs.Line.{Line, last_command_of, answer_command_of, later_command_of, command_of, arguments_of, line_of, numbers_read, line_in}
use Rattle.program_lines.specs.Line as line
use Rattle.program_arguments.specs.declared.Command.TheVariants as command
use Rattle.program_arguments.specs.declared.Reason.{Reason}
use Rattle.program_arguments.specs.declared.Reason.TheVariants as reason

abbrev read : List ℕ → Result (Option Line) Reason
read s = line_of (words (text_of s))

-- "range  3 252 # 1\r"
abbrev range_line : List ℕ
range_line = 114 ∷ 97 ∷ 110 ∷ 103 ∷ 101 ∷ 32 ∷ 32 ∷ 51 ∷ 32 ∷ 50 ∷ 53 ∷ 50 ∷ 32 ∷ 35 ∷ 32 ∷ 49 ∷ 13 ∷ []

range-line : (read range_line ≡ Ok (Some (line.Range 3 252))) × (numbers_read (words (text_of range_line)) ≡ 3 ∷ 252 ∷ [])
unfolding run_of before_comment without_return pieces words all_digits decimal number_of last_command_of answer_command_of later_command_of command_of numbers_of arguments_of
range-line = (refl, refl)

-- "\ttype 8 0 2": words left off are 0
type-line : read (9 ∷ 116 ∷ 121 ∷ 112 ∷ 101 ∷ 32 ∷ 56 ∷ 32 ∷ 48 ∷ 32 ∷ 50 ∷ []) ≡ Ok (Some (line.TypeRecord 8 0 2 0 0 0))
unfolding run_of before_comment without_return pieces words all_digits decimal number_of last_command_of answer_command_of later_command_of command_of numbers_of arguments_of
type-line = refl

-- "place 2 1 0": the steps are the numbers after the start
place-line : read (112 ∷ 108 ∷ 97 ∷ 99 ∷ 101 ∷ 32 ∷ 50 ∷ 32 ∷ 49 ∷ 32 ∷ 48 ∷ []) ≡ Ok (Some (line.Place 2 (1 ∷ 0 ∷ [])))
unfolding run_of before_comment without_return pieces words all_digits decimal number_of last_command_of answer_command_of later_command_of command_of numbers_of arguments_of
place-line = refl

-- " # x" does nothing
comment_line : read (32 ∷ 35 ∷ 32 ∷ 120 ∷ []) ≡ Ok None
unfolding run_of before_comment without_return pieces words
comment_line = refl

-- "caps 4294967296" and "caps 1x"
large_line : read (99 ∷ 97 ∷ 112 ∷ 115 ∷ 32 ∷ 52 ∷ 50 ∷ 57 ∷ 52 ∷ 57 ∷ 54 ∷ 55 ∷ 50 ∷ 57 ∷ 54 ∷ []) ≡ Err (reason.TooLarge 2)
unfolding run_of before_comment without_return pieces words all_digits decimal number_of last_command_of answer_command_of later_command_of command_of numbers_of arguments_of
large_line = refl

word_line : read (99 ∷ 97 ∷ 112 ∷ 115 ∷ 32 ∷ 49 ∷ 120 ∷ []) ≡ Err (reason.NotANumber 2)
unfolding run_of before_comment without_return pieces words all_digits decimal number_of last_command_of answer_command_of later_command_of command_of numbers_of arguments_of
word_line = refl

-- "check 1" and "chec"
check_line : read (99 ∷ 104 ∷ 101 ∷ 99 ∷ 107 ∷ 32 ∷ 49 ∷ []) ≡ Err (reason.Usage command.Check)
unfolding run_of before_comment without_return pieces words all_digits decimal number_of last_command_of answer_command_of later_command_of command_of numbers_of arguments_of
check_line = refl

unknown_line : read (99 ∷ 104 ∷ 101 ∷ 99 ∷ []) ≡ Err reason.NoCommand
unfolding run_of before_comment without_return pieces words all_digits decimal number_of last_command_of answer_command_of later_command_of command_of numbers_of arguments_of
unknown_line = refl

-- ---- bytes that no line may hold, before any word is looked at
-- a byte order mark before "check", in UTF-8 and in UTF-16 of either order
mark_line : (line_in (239 ∷ 187 ∷ 191 ∷ 99 ∷ 104 ∷ 101 ∷ 99 ∷ 107 ∷ []) ≡ Err reason.ByteOrderMark)
    × (line_in (255 ∷ 254 ∷ 99 ∷ 0 ∷ []) ≡ Err reason.ByteOrderMark)
    × (line_in (254 ∷ 255 ∷ 0 ∷ 99 ∷ []) ≡ Err reason.ByteOrderMark)
unfolding stray_of stray_from
mark_line = (refl, refl, refl)

-- "#" and a NUL; "check", a return and "clear"
stray_line : (line_in (35 ∷ 0 ∷ []) ≡ Err reason.Nul)
    × (line_in (99 ∷ 104 ∷ 101 ∷ 99 ∷ 107 ∷ 13 ∷ 99 ∷ 108 ∷ 101 ∷ 97 ∷ 114 ∷ []) ≡ Err reason.Return)
unfolding stray_of stray_from
stray_line = (refl, refl)

-- "check" and a return; a comment with a full-width 1, which begins as the mark does
plain_line : (line_in (99 ∷ 104 ∷ 101 ∷ 99 ∷ 107 ∷ 13 ∷ []) ≡ Ok (Some line.Check)) × (line_in (35 ∷ 239 ∷ 188 ∷ 145 ∷ []) ≡ Ok None)
unfolding stray_of stray_from run_of before_comment without_return pieces words all_digits decimal number_of last_command_of answer_command_of later_command_of command_of numbers_of arguments_of
plain_line = (refl, refl)
