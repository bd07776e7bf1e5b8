-- What the calls for C leave in the buffers that they are lent. An answer is four words, number, type, member, detail; zeros for an accepted one.
-- A buffer of one word gets the first of the two masks; any other buffer that is too short for its words is left as it was.
-- Assumes nothing.
use Rattle.std.specs.Prelude.{Bool, true, false, not, List, [], ◌∷◌, ◌++◌, ℕ, ◌*◌, eqb, leb, length, get_or, drop}
use Rattle.ir_records.specs.Result.{pick}
use Rattle.ir_records.specs.Record.{type_word, member_words, struct_members}
use Rattle.ir_records.specs.Outcome.{Outcome}
use Rattle.ir_records.specs.Outcome.{Accepted, Refused}
use Rattle.immediates_ranges.specs.Answer.{SlotsAnswer}
use Rattle.immediates_ranges.specs.Answer as slots
use Rattle.valid_type_info.specs.declared.UniformRule.{UniformRule}
use Rattle.valid_arena.specs.Arena.{arena_words}
use Rattle.immediates_pass.specs.declared.Pass.{Pass}
use Rattle.immediates_pass.specs.Pass.{Tried}
use Rattle.immediates_pass.specs.Pass.{PassStep, tried}
use Rattle.place_lookup.specs.Answer.{PlaceAnswer}
use Rattle.place_lookup.specs.Answer as place
use Rattle.proc_plain_types.specs.PlainTypes.{PlainAnswer}
use Rattle.proc_plain_types.specs.PlainTypes as plain
use Rattle.spirv_read.specs.Section.{Section}
use Rattle.spirv_read.specs.Section as section
use Rattle.place_report.specs.Answer.{ReportAnswer}
use Rattle.place_report.specs.Answer as report
use Rattle.wgsl_read.specs.TextAnswer.{TextAnswer}
use Rattle.wgsl_read.specs.TextAnswer as text

-- ---- 01's number and values for each answer
abbrev pub answer_words : Outcome → List ℕ
answer_words Accepted = 0 ∷ 0 ∷ 0 ∷ 0 ∷ []
answer_words (Refused number ty member detail) = number ∷ ty ∷ member ∷ detail ∷ []

abbrev pub slots_outcome : SlotsAnswer → Outcome
slots_outcome (slots.Slots touched partly) = Accepted
slots_outcome (slots.Refused number ty member detail) = Refused number ty member detail

abbrev pub place_outcome : PlaceAnswer → Outcome
place_outcome (place.Found byte leaf) = Accepted
place_outcome (place.Refused number ty member detail) = Refused number ty member detail

abbrev pub plain_outcome : PlainAnswer → Outcome
plain_outcome (plain.Found size alignment step) = Accepted
plain_outcome (plain.Refused number ty member detail) = Refused number ty member detail

abbrev pub totals_outcome : ReportAnswer → Outcome
totals_outcome (report.Totals carried wasted) = Accepted
totals_outcome (report.Refused number ty member detail) = Refused number ty member detail

abbrev pub section_outcome : Section → Outcome
section_outcome (section.Read types members) = Accepted
section_outcome (section.Refused number) = Refused number 0 0 0

abbrev pub text_outcome : TextAnswer → Outcome
text_outcome (text.Records types members) = Accepted
text_outcome (text.Refused number) = Refused number 0 0 0

-- ---- the words beside it; zeros on a refusal
-- the two masks
abbrev pub touched_of : SlotsAnswer → ℕ
touched_of (slots.Slots touched partly) = touched
touched_of (slots.Refused number ty member detail) = 0

abbrev pub partly_of : SlotsAnswer → ℕ
partly_of (slots.Slots touched partly) = partly
partly_of (slots.Refused number ty member detail) = 0

-- a leaf's byte place and its type
abbrev pub byte_of : PlaceAnswer → ℕ
byte_of (place.Found byte leaf) = byte
byte_of (place.Refused number ty member detail) = 0

abbrev pub leaf_of : PlaceAnswer → ℕ
leaf_of (place.Found byte leaf) = leaf
leaf_of (place.Refused number ty member detail) = 0

abbrev pub carried_of : ReportAnswer → ℕ
carried_of (report.Totals carried wasted) = carried
carried_of (report.Refused number ty member detail) = 0

abbrev pub wasted_of : ReportAnswer → ℕ
wasted_of (report.Totals carried wasted) = wasted
wasted_of (report.Refused number ty member detail) = 0

-- how many types and members were read
abbrev pub types_read : Section → ℕ
types_read (section.Read types members) = types
types_read (section.Refused number) = 0

abbrev pub members_read : Section → ℕ
members_read (section.Read types members) = members
members_read (section.Refused number) = 0

-- how many type records and member records a text has
abbrev pub text_types : TextAnswer → ℕ
text_types (text.Records types members) = types
text_types (text.Refused number) = 0

abbrev pub text_members : TextAnswer → ℕ
text_members (text.Records types members) = members
text_members (text.Refused number) = 0

abbrev pub numbers_of : PlainAnswer → List ℕ
numbers_of (plain.Found size alignment step) = size ∷ alignment ∷ step ∷ []
numbers_of (plain.Refused number ty member detail) = 0 ∷ 0 ∷ 0 ∷ []

-- the part of the member table that a struct's rows are: its first word, 0 for an empty part, and how many words it has
abbrev pub part_start : (ts ms : List ℕ) → ℕ → ℕ
part_start ts ms ty = pick (eqb (length (struct_members ts ms ty)) 0) 0 (type_word ts ty 1 * member_words)

abbrev pub part_length : (ts ms : List ℕ) → ℕ → ℕ
part_length ts ms ty = length (struct_members ts ms ty)

-- ---- lent words with an answer in the first ones
-- other words at the front, where there is room for them
abbrev pub with_front : {A : Type 0} → List A → List A → List A
with_front words front = pick (leb (length front) (length words)) (front ++ drop (length front) words) words

unfoldable pub with_answer : List ℕ → Outcome → List ℕ
with_answer words outcome = pick (leb 4 (length words)) (answer_words outcome ++ drop 4 words) words

unfoldable pub with_two : List ℕ → (a b : ℕ) → List ℕ
with_two words a b = pick (leb 2 (length words)) (a ∷ b ∷ drop 2 words) words

unfoldable pub with_numbers : List ℕ → PlainAnswer → List ℕ
with_numbers words found = pick (leb 3 (length words)) (numbers_of found ++ drop 3 words) words

-- the first mask where there is one word, the second only where there are two
unfoldable pub with_masks : List ℕ → SlotsAnswer → List ℕ
with_masks [] found = []
with_masks (w ∷ []) found = touched_of found ∷ []
with_masks (w ∷ x ∷ words) found = touched_of found ∷ partly_of found ∷ words

unfoldable pub with_one : List ℕ → ℕ → List ℕ
with_one [] a = []
with_one (w ∷ words) a = a ∷ words

-- ---- a pass in three lent words: the slots set, the slots needed, and 0 for no pipeline; any three words are one
abbrev pub pass_of : List ℕ → Pass
pass_of words = record { set = get_or words 0 0; needed = get_or words 1 0; chosen = not (eqb (get_or words 2 0) 0) }

abbrev pub chosen_word : Bool → ℕ
chosen_word true = 1
chosen_word false = 0

abbrev pub pass_words : Pass → List ℕ
pass_words p = p.set ∷ p.needed ∷ chosen_word p.chosen ∷ []

unfoldable pub with_pass : List ℕ → Pass → List ℕ
with_pass words p = pick (leb 3 (length words)) (pass_words p ++ drop 3 words) words

-- what a step comes to on them; fewer than three are no pass, and any step on them is refused with 1
unfoldable pub tried_in : List ℕ → PassStep → Tried
tried_in words step =
    pick (leb 3 (length words)) (tried (pass_of words) step) (record { pass = pass_of words; outcome = Refused 1 0 0 0; missing = 0 })

-- an accepted step leaves the pass after it, a refused one leaves the words
abbrev pub kept_words : Outcome → (after before : List ℕ) → List ℕ
kept_words Accepted after before = after
kept_words (Refused number ty member detail) after before = before

unfoldable pub with_tried : List ℕ → Tried → List ℕ
with_tried words r = kept_words r.outcome (with_pass words r.pass) words

-- the lent rows of a choice: on fewer than three words of a pass no arena is judged
unfoldable pub pass_rows : (words : List ℕ) (rule : UniformRule) (c : ℕ) (ts ms rows : List ℕ) → List ℕ
pass_rows words rule c ts ms rows = pick (leb 3 (length words)) (arena_words rule c ts ms rows) rows
