-- 02, E7: the records of a WGSL text, for lent tables of so many words; and what a call leaves in them.
-- Assumes nothing.
use Rattle.std.specs.Prelude.{List, [], ◌++◌, ℕ, ◌+◌, ◌/◌, min, length, drop, replicate, ◌≡◌, Result, Ok, Err}
use Rattle.ir_records.specs.Record.{type_words, member_words}
use Rattle.ir_records.specs.Fields.{most_types, most_members}
use Rattle.ir_records.specs.Refusal.{number_of}
use Rattle.ir_records.specs.declared.Records as made
use Rattle.wgsl_tokens.specs.Tokens.{code, tokens}
use Rattle.wgsl_grammar.specs.Grammar.{Reading, refused, read}
use Rattle.wgsl_grammar.specs.declared.Refusal.{Refusal}
use Rattle.wgsl_tables.specs.Tables.{Records, room_in}
use Rattle.wgsl_members.specs.Members.{Rooms}
use Rattle.wgsl_structs.specs.Structs.{Declared, declarations_of}
use Rattle.wgsl_structs.specs.declared.State.{State}
use Rattle.wgsl_read.specs.TextAnswer.{TextAnswer}
use Rattle.wgsl_read.specs.TextAnswer as answer

-- 'more records than 01 or the lent tables admit is number 1': whole ones
abbrev pub rooms_in : (types members : ℕ) → Rooms
rooms_in types members = room_in types members

abbrev pub no_records : Records
no_records = record { made = 0; words = [] }

-- a text of n bytes has at most n attributes, members and declarations, and then its end
unfoldable pub text_of : (types members : ℕ) → List ℕ → Reading Declared
text_of types members s =
    declarations_of (length s) (length s + 1) (rooms_in types members) (record { types = no_records; members = no_records; structs = []; rest = tokens (code 0) s })

-- ---- what a call answers and leaves: the records at the start of the lent words, the others as they were; zeros on a refusal
abbrev pub answer_of : Reading Declared → TextAnswer
answer_of (read d) = answer.Records d.types.made d.members.made
answer_of (refused n) = answer.Refused n

abbrev pub left_in : Records → (lent : List ℕ) → List ℕ
left_in r lent = r.words ++ drop (length r.words) lent

abbrev pub types_left : Reading Declared → (lent : List ℕ) → List ℕ
types_left (read d) lent = left_in d.types lent
types_left (refused n) lent = replicate (length lent) 0

abbrev pub members_left : Reading Declared → (lent : List ℕ) → List ℕ
members_left (read d) lent = left_in d.members lent
members_left (refused n) lent = replicate (length lent) 0

-- a refusal's number alone
abbrev pub numbered_by : Result made.Records Refusal → TextAnswer
numbered_by (Ok r) = answer.Records r.types r.members
numbered_by (Err r) = answer.Refused (number_of r.fault)

-- what the declarations leave before a refusal zeroes the words
abbrev pub Filled : (text types types-now members members-now : List ℕ) → Result State Refusal → Type 0
Filled text types types-now members members-now (Ok d) =
    (answer_of (text_of (length types) (length members) text) ≡ answer.Records d.made.types d.made.members)
    × (types-now ≡ types_left (text_of (length types) (length members) text) types)
    × (members-now ≡ members_left (text_of (length types) (length members) text) members)
Filled text types types-now members members-now (Err r) = text_of (length types) (length members) text ≡ refused (number_of r.fault)
