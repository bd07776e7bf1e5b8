-- What the code's lines say, in the words of the definitions.
-- Assumes nothing.
use Rattle.std.specs.Prelude.{List, ℕ, get_or, take, Option, Some, None, Result, Ok, Err}
use Rattle.std.specs.Option.{option_map}
use Rattle.std.specs.Result.{result_map_both}
use Rattle.ir_member_words.specs.declared.Member.{Member}
use Rattle.program_arguments.specs.declared.Reason.{Reason}
use Rattle.program_lines.specs.declared.Change.{Change}
use Rattle.program_lines.specs.declared.Change.TheVariants as change
use Rattle.program_lines.specs.declared.Step.{Step}
use Rattle.program_lines.specs.declared.Step.TheVariants as step
use Rattle.program_lines.specs.declared.Query.{Query}
use Rattle.program_lines.specs.declared.Query.TheVariants as query
use Rattle.program_lines.specs.declared.Line.{Line}
use Rattle.program_lines.specs.declared.Line.TheVariants as line
use Rattle.program_lines.specs.declared.Read.{Read}
use Rattle.program_lines.specs.Line as told

-- records whose words are the numbers; words left off are 0
abbrev pub member_in : List ℕ → Member
member_in ns = record { ty = get_or ns 0 0; offset = get_or ns 1 0; location = get_or ns 2 0; source = get_or ns 3 0 }

abbrev pub change_said : Change → told.Line
change_said (change.Capabilities n) = told.Capabilities n
change_said (change.Rule n) = told.Rule n
change_said (change.TypeRecord w) = told.TypeRecord w.kind w.a w.b w.c w.d w.e
change_said (change.MemberRecord m) = told.MemberRecord m.ty m.offset m.location m.source
change_said change.Pass = told.Pass
change_said change.Clear = told.Clear

abbrev pub step_said : Step → told.Line
step_said (step.SetRange offset size) = told.SetRange offset size
step_said (step.Choose ty) = told.Choose ty
step_said step.Run = told.Run

abbrev pub query_said : Query → told.Line
query_said query.Layout = told.Layout
query_said query.Judge = told.Judge
query_said query.Check = told.Check
query_said (query.Members ty) = told.Members ty
query_said (query.Slots ty offset) = told.Slots ty offset
query_said (query.Range offset size) = told.Range offset size
query_said (query.Place start steps) = told.Place start steps.now
query_said (query.Short start steps) = told.Short start steps.now
query_said query.Report = told.Report
query_said (query.Plain shape width) = told.Plain shape width

abbrev pub said : Line → told.Line
said (line.Change c) = change_said c
said (line.Step s) = step_said s
said (line.Query q) = query_said q
said (line.Order span given) = told.Order span given.now

abbrev pub said_in : Result (Option Line) Reason → Result (Option told.Line) Reason
said_in r = result_map_both (option_map said) (λ e. e) r

-- what was read says the line of its command and of the words that hold its numbers, the first of those that were lent
abbrev pub read_said : Read → List ℕ → told.Line
read_said r xs = told.line_by r.command (take r.count xs)

abbrev pub read_said_of : Result Read Reason → List ℕ → Result told.Line Reason
read_said_of r xs = result_map_both (λ d. read_said d xs) (λ e. e) r

abbrev pub read_said_in : Result (Option Read) Reason → List ℕ → Result (Option told.Line) Reason
read_said_in r xs = result_map_both (option_map (λ d. read_said d xs)) (λ e. e) r

-- how many numbers were read; none of a line that asks for nothing or cannot be read
abbrev pub count_of : Result Read Reason → ℕ
count_of (Ok r) = r.count
count_of (Err e) = 0

abbrev pub count_in : Result (Option Read) Reason → ℕ
count_in (Ok (Some r)) = r.count
count_in (Ok None) = 0
count_in (Err e) = 0
