-- The bytes of each answer, by what is answered.
-- Assumes nothing.
use Rattle.std.specs.Prelude.{List, [], ◌∷◌, ◌++◌, ℕ, Option, None, Some}
use Rattle.ir_records.specs.Outcome.{Outcome}
use Rattle.ir_records.specs.Outcome as outcome
use Rattle.immediates_ranges.specs.Answer.{SlotsAnswer}
use Rattle.immediates_ranges.specs.Answer as slots
use Rattle.program_arguments.specs.declared.Command.{Command}
use Rattle.program_arguments.specs.declared.Command.TheVariants as command
use Rattle.program_arguments.specs.declared.Reason.TheVariants as reason
use Rattle.program_input.specs.declared.ReadError.TheVariants as error
use Rattle.program_output.specs.declared.Stop.{Stop}
use Rattle.program_output.specs.declared.Stop.TheVariants as stop
use Rattle.program_output.specs.Bytes.{ascii, number, named, newline, words_line, row_lines, report_lines}

abbrev pub refusal_line : (number ty member detail : ℕ) → List ℕ
refusal_line number ty member detail = words_line (ascii "refused") (number ∷ ty ∷ member ∷ detail ∷ [])

abbrev pub outcome_lines : Outcome → List ℕ → List ℕ
outcome_lines outcome.Accepted rows = ascii "ok\n" ++ row_lines rows
outcome_lines (outcome.Refused number ty member detail) rows = refusal_line number ty member detail

abbrev pub slots_line : SlotsAnswer → List ℕ
slots_line (slots.Slots touched partly) = named (ascii "slots") touched ++ number 32 partly ++ newline
slots_line (slots.Refused number ty member detail) = refusal_line number ty member detail

abbrev pub place_line : (byte leaf : ℕ) → List ℕ
place_line byte leaf = named (ascii "place") byte ++ number 32 leaf ++ newline

abbrev pub totals_lines : (carried wasted : ℕ) → List ℕ → List ℕ
totals_lines carried wasted report = named (ascii "report") carried ++ number 32 wasted ++ newline ++ report_lines report

abbrev pub step_line : List ℕ → (mask : ℕ) → Outcome → List ℕ
step_line name mask outcome.Accepted = named name mask ++ newline
step_line name mask (outcome.Refused number ty member detail) = refusal_line number ty member detail

abbrev pub dispatch_lines : Outcome → (missing : ℕ) → List ℕ
dispatch_lines outcome.Accepted missing = ascii "passes\n"
dispatch_lines (outcome.Refused number ty member detail) missing = refusal_line number ty member detail ++ (named (ascii "missing") missing ++ newline)

-- ---- why a session stops
-- what a command takes
unfoldable pub usage_text : Command → List ℕ
usage_text command.Capabilities = ascii ": caps takes one number\n"
usage_text command.Rule = ascii ": rule takes one number\n"
usage_text command.TypeRecord = ascii ": type takes a kind and at most 5 words\n"
usage_text command.MemberRecord = ascii ": member takes a type and an offset, and may take a location and a blend source\n"
usage_text command.Layout = ascii ": layout takes no number\n"
usage_text command.Judge = ascii ": judge takes no number\n"
usage_text command.Check = ascii ": check takes no number\n"
usage_text command.Members = ascii ": members takes a type\n"
usage_text command.Slots = ascii ": slots takes a type and an offset\n"
usage_text command.Range = ascii ": range takes an offset and a size\n"
usage_text command.Place = ascii ": place takes a type and at most 1024 steps\n"
usage_text command.Short = ascii ": short takes a type and at most 1024 steps\n"
usage_text command.Report = ascii ": report takes no number\n"
usage_text command.Plain = ascii ": plain takes a shape and a width\n"
usage_text command.Pass = ascii ": pass takes no number\n"
usage_text command.SetRange = ascii ": set takes an offset and a size\n"
usage_text command.Choose = ascii ": choose takes a type\n"
usage_text command.Run = ascii ": run takes no number\n"
usage_text command.Clear = ascii ": clear takes no number\n"
usage_text command.Order = ascii ": order takes a span and at most 1024 types\n"

unfoldable pub why_text : Stop → List ℕ
why_text (stop.Input error.Long) = ascii ": longer than 65535 bytes\n"
why_text (stop.Input error.Failed) = ascii ": the input cannot be read\n"
why_text stop.TypesFull = ascii ": the arena is full, with 1024 types\n"
why_text stop.MembersFull = ascii ": the member table is full, with 4096 members\n"
why_text (stop.Line (reason.NotANumber word)) = ascii " is not a decimal number\n"
why_text (stop.Line (reason.TooLarge word)) = ascii " is above 4294967295\n"
why_text (stop.Line reason.ByteOrderMark) = ascii ": a byte order mark stands in it\n"
why_text (stop.Line reason.Nul) = ascii ": a NUL byte stands in it\n"
why_text (stop.Line reason.Return) = ascii ": a carriage return stands before its end\n"
why_text (stop.Line reason.NoCommand) = ascii ": no such command; there are caps, rule, type, member, layout, judge, check, members, slots, range, place, short, report, plain, pass, set, choose, run, clear and order\n"
why_text (stop.Line (reason.Usage command)) = usage_text command

-- the number of the word that is wrong
abbrev pub word_of : Stop → Option ℕ
word_of (stop.Input e) = None
word_of stop.TypesFull = None
word_of stop.MembersFull = None
word_of (stop.Line (reason.NotANumber word)) = Some word
word_of (stop.Line (reason.TooLarge word)) = Some word
word_of (stop.Line reason.NoCommand) = None
word_of (stop.Line (reason.Usage command)) = None
word_of (stop.Line reason.ByteOrderMark) = None
word_of (stop.Line reason.Nul) = None
word_of (stop.Line reason.Return) = None

abbrev pub word_part : Option ℕ → List ℕ
word_part None = []
word_part (Some word) = named (ascii ": word") word

-- the line at which a session stops, the word of it that is wrong, if one is, and why
unfoldable pub stop_line : (line : ℕ) → Stop → List ℕ
stop_line line why = named (ascii "line") line ++ word_part (word_of why) ++ why_text why
