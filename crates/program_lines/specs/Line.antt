-- What a line says, by its bytes and its words: the command and the numbers after it.
-- Assumes nothing.
use Rattle.std.specs.Prelude.{◌≡◌, Bool, List, [], ◌∷◌, ℕ, nat_eq, leb, length, get_or, take, drop, Option, Some, None, Result, Ok, Err}
use Rattle.std.specs.Cmp.Lexicographic.{pointwise}
use Rattle.std.specs.Result.{result_map_both}
use Rattle.ir_records.specs.Result.{pick}
use Rattle.program_words.specs.Words.{text_of, words}
use Rattle.program_words.specs.Stray.{stray_in}
use Rattle.program_words.specs.declared.Stray.{Stray}
use Rattle.program_arguments.specs.Arguments.{Arguments, read, wrong, reason_of_stray, numbers_of}
use Rattle.program_arguments.specs.declared.Command.{Command}
use Rattle.program_arguments.specs.declared.Command.TheVariants as command
use Rattle.program_arguments.specs.declared.Reason.{Reason}
use Rattle.program_arguments.specs.declared.Reason.TheVariants as reason

-- ---- what a line may say
pub data Line : Type 0 where
  Capabilities : ℕ → Line
  Rule : ℕ → Line
  TypeRecord : (kind a b c d e : ℕ) → Line
  MemberRecord : (ty offset location source : ℕ) → Line
  Layout : Line
  Judge : Line
  Check : Line
  Members : ℕ → Line
  Slots : (ty offset : ℕ) → Line
  Range : (offset size : ℕ) → Line
  Place : (start : ℕ) (steps : List ℕ) → Line
  Short : (start : ℕ) (steps : List ℕ) → Line
  Report : Line
  Plain : (shape width : ℕ) → Line
  Pass : Line
  SetRange : (offset size : ℕ) → Line
  Choose : ℕ → Line
  Run : Line
  Clear : Line
  Order : (span : ℕ) (given : List ℕ) → Line

-- ---- the command that a word is
abbrev pub same : List ℕ → List ℕ → Bool
same s t = pointwise nat_eq s t

-- pass, set, choose, run, clear, order
unfoldable pub last_command_of : List ℕ → Option Command
last_command_of w =
    pick (same w (112 ∷ 97 ∷ 115 ∷ 115 ∷ [])) (Some command.Pass)
    (pick (same w (115 ∷ 101 ∷ 116 ∷ [])) (Some command.SetRange)
    (pick (same w (99 ∷ 104 ∷ 111 ∷ 111 ∷ 115 ∷ 101 ∷ [])) (Some command.Choose)
    (pick (same w (114 ∷ 117 ∷ 110 ∷ [])) (Some command.Run)
    (pick (same w (99 ∷ 108 ∷ 101 ∷ 97 ∷ 114 ∷ [])) (Some command.Clear)
    (pick (same w (111 ∷ 114 ∷ 100 ∷ 101 ∷ 114 ∷ [])) (Some command.Order)
    None)))))

-- range, place, short, report, plain, and those above
unfoldable pub answer_command_of : List ℕ → Option Command
answer_command_of w =
    pick (same w (114 ∷ 97 ∷ 110 ∷ 103 ∷ 101 ∷ [])) (Some command.Range)
    (pick (same w (112 ∷ 108 ∷ 97 ∷ 99 ∷ 101 ∷ [])) (Some command.Place)
    (pick (same w (115 ∷ 104 ∷ 111 ∷ 114 ∷ 116 ∷ [])) (Some command.Short)
    (pick (same w (114 ∷ 101 ∷ 112 ∷ 111 ∷ 114 ∷ 116 ∷ [])) (Some command.Report)
    (pick (same w (112 ∷ 108 ∷ 97 ∷ 105 ∷ 110 ∷ [])) (Some command.Plain)
    (last_command_of w)))))

-- layout, judge, check, members, slots, and those above
unfoldable pub later_command_of : List ℕ → Option Command
later_command_of w =
    pick (same w (108 ∷ 97 ∷ 121 ∷ 111 ∷ 117 ∷ 116 ∷ [])) (Some command.Layout)
    (pick (same w (106 ∷ 117 ∷ 100 ∷ 103 ∷ 101 ∷ [])) (Some command.Judge)
    (pick (same w (99 ∷ 104 ∷ 101 ∷ 99 ∷ 107 ∷ [])) (Some command.Check)
    (pick (same w (109 ∷ 101 ∷ 109 ∷ 98 ∷ 101 ∷ 114 ∷ 115 ∷ [])) (Some command.Members)
    (pick (same w (115 ∷ 108 ∷ 111 ∷ 116 ∷ 115 ∷ [])) (Some command.Slots)
    (answer_command_of w)))))

-- caps, rule, type, member, and those above
unfoldable pub command_of : List ℕ → Option Command
command_of w =
    pick (same w (99 ∷ 97 ∷ 112 ∷ 115 ∷ [])) (Some command.Capabilities)
    (pick (same w (114 ∷ 117 ∷ 108 ∷ 101 ∷ [])) (Some command.Rule)
    (pick (same w (116 ∷ 121 ∷ 112 ∷ 101 ∷ [])) (Some command.TypeRecord)
    (pick (same w (109 ∷ 101 ∷ 109 ∷ 98 ∷ 101 ∷ 114 ∷ [])) (Some command.MemberRecord)
    (later_command_of w))))

-- the fewest and the most numbers after a command
abbrev pub least_of : Command → ℕ
least_of command.Capabilities = 1
least_of command.Rule = 1
least_of command.TypeRecord = 1
least_of command.MemberRecord = 2
least_of command.Layout = 0
least_of command.Judge = 0
least_of command.Check = 0
least_of command.Members = 1
least_of command.Slots = 2
least_of command.Range = 2
least_of command.Place = 1
least_of command.Short = 1
least_of command.Report = 0
least_of command.Plain = 2
least_of command.Pass = 0
least_of command.SetRange = 2
least_of command.Choose = 1
least_of command.Run = 0
least_of command.Clear = 0
least_of command.Order = 1

abbrev pub most_of : Command → ℕ
most_of command.Capabilities = 1
most_of command.Rule = 1
most_of command.TypeRecord = 6
most_of command.MemberRecord = 4
most_of command.Layout = 0
most_of command.Judge = 0
most_of command.Check = 0
most_of command.Members = 1
most_of command.Slots = 2
most_of command.Range = 2
most_of command.Place = 1025
most_of command.Short = 1025
most_of command.Report = 0
most_of command.Plain = 2
most_of command.Pass = 0
most_of command.SetRange = 2
most_of command.Choose = 1
most_of command.Run = 0
most_of command.Clear = 0
most_of command.Order = 1025

-- ---- the numbers after a command, and not too few
abbrev pub enough : Command → Arguments → Arguments
enough c (read ns) = pick (leb (least_of c) (length ns)) (read ns) (wrong (reason.Usage c))
enough c (wrong r) = wrong r

unfoldable pub arguments_of : Command → List (List ℕ) → Arguments
arguments_of c ws = enough c (numbers_of c (most_of c) 2 ws)

abbrev pub list_of : Arguments → List ℕ
list_of (read ns) = ns
list_of (wrong r) = []

-- ---- the line. Words left off are 0; the steps of a place and the types given for an order are the numbers after the first
abbrev pub line_by : Command → List ℕ → Line
line_by command.Capabilities ns = Capabilities (get_or ns 0 0)
line_by command.Rule ns = Rule (get_or ns 0 0)
line_by command.TypeRecord ns = TypeRecord (get_or ns 0 0) (get_or ns 1 0) (get_or ns 2 0) (get_or ns 3 0) (get_or ns 4 0) (get_or ns 5 0)
line_by command.MemberRecord ns = MemberRecord (get_or ns 0 0) (get_or ns 1 0) (get_or ns 2 0) (get_or ns 3 0)
line_by command.Layout ns = Layout
line_by command.Judge ns = Judge
line_by command.Check ns = Check
line_by command.Members ns = Members (get_or ns 0 0)
line_by command.Slots ns = Slots (get_or ns 0 0) (get_or ns 1 0)
line_by command.Range ns = Range (get_or ns 0 0) (get_or ns 1 0)
line_by command.Place ns = Place (get_or ns 0 0) (drop 1 ns)
line_by command.Short ns = Short (get_or ns 0 0) (drop 1 ns)
line_by command.Report ns = Report
line_by command.Plain ns = Plain (get_or ns 0 0) (get_or ns 1 0)
line_by command.Pass ns = Pass
line_by command.SetRange ns = SetRange (get_or ns 0 0) (get_or ns 1 0)
line_by command.Choose ns = Choose (get_or ns 0 0)
line_by command.Run ns = Run
line_by command.Clear ns = Clear
line_by command.Order ns = Order (get_or ns 0 0) (drop 1 ns)

abbrev pub line_with : Command → Arguments → Result Line Reason
line_with c (read ns) = Ok (line_by c ns)
line_with c (wrong r) = Err r

abbrev pub line_after : Option Command → List (List ℕ) → Result (Option Line) Reason
line_after None ws = Err reason.NoCommand
line_after (Some c) ws = result_map_both Some (λ r. r) (line_with c (arguments_of c ws))

-- no word asks for nothing
abbrev pub line_of : List (List ℕ) → Result (Option Line) Reason
line_of [] = Ok None
line_of (w ∷ ws) = line_after (command_of w) ws

-- the numbers of a line that is read
abbrev pub numbers_after : Option Command → List (List ℕ) → List ℕ
numbers_after None ws = []
numbers_after (Some c) ws = list_of (arguments_of c ws)

abbrev pub numbers_read : List (List ℕ) → List ℕ
numbers_read [] = []
numbers_read (w ∷ ws) = numbers_after (command_of w) ws

-- ---- a line of bytes: a byte that no line may hold, or what its words say
abbrev pub line_unless : Option Stray → List (List ℕ) → Result (Option Line) Reason
line_unless None ws = line_of ws
line_unless (Some s) ws = Err (reason_of_stray s)

abbrev pub line_in : List ℕ → Result (Option Line) Reason
line_in s = line_unless (stray_in s) (words (text_of s))

abbrev pub numbers_unless : Option Stray → List (List ℕ) → List ℕ
numbers_unless None ws = numbers_read ws
numbers_unless (Some s) ws = []

abbrev pub line_numbers : List ℕ → List ℕ
line_numbers s = numbers_unless (stray_in s) (words (text_of s))

-- the words begin with the numbers
abbrev pub Holds : List ℕ → List ℕ → Type 0
Holds xs ns = take (length ns) xs ≡ ns
