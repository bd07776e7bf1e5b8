-- 01, 'Marked examples of layouts': M1 to M12 as rows of one table, by the older uniform rule. 02, E8: arenas by the newer.
-- Assumes nothing.
use Rattle.std.specs.Prelude.{◌≡◌, List, [], ◌∷◌, ◌++◌, ℕ, ◌+◌, ◌*◌, length, take, drop, replicate}
use Rattle.ir_records.specs.Record.{type_count}
use Rattle.ir_records.specs.Fields.{row_words}
use Rattle.ir_records.specs.Outcome.{Outcome}
use Rattle.ir_records.specs.Outcome.{Accepted, Refused}
use Rattle.valid_type_info.specs.declared.UniformRule.{UniformRule}
use Rattle.valid_type_info.specs.declared.UniformRule.TheVariants.{Older, Newer}
use Rattle.valid_arena.specs.Arena.{arena_answer, arena_words}
use Rattle.immediates_ranges.specs.Answer.{SlotsAnswer}
use Rattle.immediates_ranges.specs.Answer as slots
use Rattle.immediates_ranges.specs.Answer.{Slots}
use Rattle.immediates_ranges.specs.Slots.{range_slots, part_answer}
use Rattle.immediates_slots.specs.Immediates.{slots_answer}

-- ---- the records that the examples are made of
-- E stands for f32, V3 for 01's V, vec3 of f32, S for a struct
abbrev pub E : List ℕ
E = 0 ∷ 2 ∷ 4 ∷ 0 ∷ 0 ∷ 0 ∷ []

abbrev pub V3 : List ℕ
V3 = 1 ∷ 3 ∷ 2 ∷ 4 ∷ 0 ∷ 0 ∷ []

abbrev pub f16 : List ℕ
f16 = 0 ∷ 2 ∷ 2 ∷ 0 ∷ 0 ∷ 0 ∷ []

abbrev pub S : (first count span : ℕ) → List ℕ
S first count span = 8 ∷ first ∷ count ∷ span ∷ 0 ∷ 0 ∷ []

abbrev pub counted : (base count stride : ℕ) → List ℕ
counted base count stride = 7 ∷ base ∷ 0 ∷ count ∷ stride ∷ 0 ∷ []

-- E, V, S{V at 0, E at `offset`} with this span
abbrev pub pair : (span : ℕ) → List ℕ
pair span = E ++ V3 ++ S 0 2 span

abbrev pub pair_members : (offset : ℕ) → List ℕ
pair_members offset = 1 ∷ 0 ∷ 0 ∷ 0 ∷ 0 ∷ offset ∷ 0 ∷ 0 ∷ []

-- ---- what an example says
-- words of the row of a type, from one of its words on
pub record Words : Type 0 where
  pub ty : ℕ
  pub from : ℕ
  pub words : List ℕ

abbrev pub row : (ty from : ℕ) → List ℕ → Words
row ty from words = record { ty = ty; from = from; words = words }

-- an arena with its capability word and the uniform rule, the answer, and words of the rows that it leaves
pub record Example : Type 0 where
  pub capabilities : ℕ
  pub rule : UniformRule
  pub types : List ℕ
  pub members : List ℕ
  pub answer : Outcome
  pub rows : List Words

-- the lent rows: one word more than needed, none of them 0
abbrev pub lent : Example → List ℕ
lent x = replicate (type_count x.types * row_words + 1) 7

abbrev pub made : Example → Outcome
made x = arena_answer x.capabilities x.types x.members (lent x)

-- the words that the check leaves from word `from` of the row of `ty` on, as many as the example has
abbrev pub left : Example → Words → List ℕ
left x w = take (length w.words) (drop (w.ty * row_words + w.from) (arena_words x.rule x.capabilities x.types x.members (lent x)))

abbrev pub AllLeft : Example → List Words → Type 0
AllLeft x [] = Unit {0}
AllLeft x (w ∷ ws) = (left x w ≡ w.words) × AllLeft x ws

abbrev pub Holds : Example → Type 0
Holds x = (made x ≡ x.answer) × AllLeft x x.rows

-- a row of the table: an arena; the slots of a type of an arena from an offset; a range given as two numbers
pub data Case : Type 0 where
  arena_case : Example → Case
  slots_case : Example → (ty offset : ℕ) → SlotsAnswer → Case
  range_case : (offset size : ℕ) → SlotsAnswer → Case

abbrev pub CaseHolds : Case → Type 0
CaseHolds (arena_case x) = Holds x
CaseHolds (slots_case x ty offset expected) = slots_answer x.capabilities x.types x.members (lent x) ty offset ≡ expected
CaseHolds (range_case offset size expected) = part_answer (range_slots offset size) ≡ expected

-- what each row of a table says
unfoldable pub AllHold : List Case → Type 0
AllHold [] = Unit {0}
AllHold (x ∷ xs) = CaseHolds x × AllHold xs

-- ---- the table
abbrev pub accepted : (types members : List ℕ) → List Words → Example
accepted types members rows = record { capabilities = 0; rule = Older; types = types; members = members; answer = Accepted; rows = rows }

-- every refusal but 1 zeroes the rows; the word past them stays
abbrev pub refused : (types members : List ℕ) → (number ty member detail : ℕ) → Example
refused types members number ty member detail =
    record {
      capabilities = 0;
      rule = Older;
      types = types;
      members = members;
      answer = Refused number ty member detail;
      rows = row 0 0 (replicate (type_count types * row_words) 0 ++ 7 ∷ []) ∷ [];
    }

unfoldable pub marked : List Case
marked =
    -- M1: the card program's lines; the word past the rows stays
    arena_case
    (accepted (pair 16) (pair_members 12)
    (row 0 0 (4 ∷ 4 ∷ 255 ∷ 0 ∷ 4 ∷ 0 ∷ 0 ∷ 0 ∷ 0 ∷ 4 ∷ 0 ∷ 0 ∷ 0 ∷ 0 ∷ [])
    ∷ row 1 0 (12 ∷ 16 ∷ 255 ∷ 0 ∷ 16 ∷ 0 ∷ 0 ∷ 0 ∷ 0 ∷ 16 ∷ 0 ∷ 0 ∷ 0 ∷ 0 ∷ [])
    ∷ row 2 0 (16 ∷ 16 ∷ 247 ∷ 0 ∷ 16 ∷ 0 ∷ 0 ∷ 0 ∷ 0 ∷ 16 ∷ 0 ∷ 0 ∷ 0 ∷ 0 ∷ 7 ∷ []) ∷ []))
    -- M2: M1's struct, slots from 0: 15, none covered only in part
    ∷ slots_case (accepted (pair 16) (pair_members 12) []) 2 0 (Slots 15 0)
    -- M3: span 20: both verdicts 2, type 2, value 20, bound 16
    ∷ arena_case (accepted (pair 20) (pair_members 12) (row 2 3 (2 ∷ 2 ∷ 0 ∷ 20 ∷ 16 ∷ 2 ∷ 2 ∷ 0 ∷ 20 ∷ 16 ∷ []) ∷ []))
    -- M4: E at 8: 18, member 1
    ∷ arena_case (refused (pair 16) (pair_members 8) 18 2 1 0)
    -- M5: E at 0: accepted, flags 231
    ∷ arena_case (accepted (pair 16) (pair_members 0) (row 2 2 (231 ∷ []) ∷ []))
    -- M6: span 15: 19, member 1
    ∷ arena_case (refused (pair 15) (pair_members 12) 19 2 1 0)
    -- M7: E counted 3, stride 4: storage Ok 4, uniform code 1, bound 16
    ∷ arena_case (accepted (E ++ counted 0 3 4) [] (row 1 3 (1 ∷ []) ∷ row 1 7 (16 ∷ []) ∷ row 1 8 (0 ∷ 4 ∷ []) ∷ []))
    -- M8: stride 2: count 1,073,741,823 accepted, 1,073,741,824 gives 4
    ∷ arena_case (accepted (E ++ counted 0 1073741823 2) [] [])
    ∷ arena_case (refused (E ++ counted 0 1073741824 2) [] 4 1 0 0)
    -- M9: S{E} span 4 at 0, E at 4, span 16: uniform code 4, bound 16; storage Ok 4
    ∷ arena_case (accepted (E ++ S 0 1 4 ++ S 1 2 16) (0 ∷ 0 ∷ 0 ∷ 0 ∷ 1 ∷ 0 ∷ 0 ∷ 0 ∷ 0 ∷ 4 ∷ 0 ∷ 0 ∷ []) (row 2 3 (4 ∷ []) ∷ row 2 7 (16 ∷ []) ∷ row 2 8 (0 ∷ 4 ∷ []) ∷ []))
    -- M10: E at 0, S{E} at 16, E at 0, span 32: 21, member 2
    ∷ arena_case (refused (E ++ S 0 1 4 ++ S 1 3 32) (0 ∷ 0 ∷ 0 ∷ 0 ∷ 0 ∷ 0 ∷ 0 ∷ 0 ∷ 1 ∷ 16 ∷ 0 ∷ 0 ∷ 0 ∷ 0 ∷ 0 ∷ 0 ∷ []) 21 2 2 0)
    -- M11: f16 without bit 1: 8, detail 1; with it: immediates word 3
    ∷ arena_case (refused f16 [] 8 0 0 1)
    ∷ arena_case (record { capabilities = 2; rule = Older; types = f16; members = []; answer = Accepted; rows = row 0 13 (3 ∷ []) ∷ [] })
    -- M12: ranges (offset, size): (300, 0) gives 0; (3, 2) gives 3, both only in part; (252, 4) gives bit 63 alone; (252, 5) gives 25
    ∷ range_case 300 0 (Slots 0 0)
    ∷ range_case 3 2 (Slots 3 3)
    ∷ range_case 252 4 (Slots 9223372036854775808 0)
    ∷ range_case 252 5 (slots.Refused 25 0 0 0)
    ∷ []

-- ---- 02, E9: an arena with DUAL_SOURCE_BLENDING, by its refusal; the accepted ones with the flags of the last type
abbrev pub blend_refused : (types members : List ℕ) → (number ty member detail : ℕ) → Example
blend_refused types members number ty member detail =
    record {
      capabilities = 8192;
      rule = Older;
      types = types;
      members = members;
      answer = Refused number ty member detail;
      rows = row 0 0 (replicate (type_count types * row_words) 0 ++ 7 ∷ []) ∷ [];
    }

abbrev pub blend_accepted : (types members : List ℕ) → List Words → Example
blend_accepted types members rows = record { capabilities = 8192; rule = Older; types = types; members = members; answer = Accepted; rows = rows }

abbrev pub V4 : List ℕ
V4 = 1 ∷ 4 ∷ 2 ∷ 4 ∷ 0 ∷ 0 ∷ []

abbrev pub bool : List ℕ
bool = 0 ∷ 3 ∷ 1 ∷ 0 ∷ 0 ∷ 0 ∷ []

unfoldable pub blends : List Case
blends =
    -- without the capability: 8, detail 13; with it a location other than 0 is a bad index
    arena_case (refused (E ++ S 0 2 16) (0 ∷ 0 ∷ 0 ∷ 0 ∷ 0 ∷ 4 ∷ 2 ∷ 1 ∷ []) 8 1 0 13)
    ∷ arena_case (blend_refused (E ++ S 0 2 16) (0 ∷ 0 ∷ 0 ∷ 0 ∷ 0 ∷ 4 ∷ 2 ∷ 1 ∷ []) 34 1 0 1)
    -- the same source twice
    ∷ arena_case (blend_refused (V4 ++ S 0 2 32) (0 ∷ 0 ∷ 1 ∷ 1 ∷ 0 ∷ 16 ∷ 1 ∷ 1 ∷ []) 34 1 0 2)
    -- both sources and another location; one source and another location
    ∷ arena_case (blend_refused (E ++ S 0 3 16) (0 ∷ 0 ∷ 1 ∷ 1 ∷ 0 ∷ 4 ∷ 1 ∷ 2 ∷ 0 ∷ 8 ∷ 3 ∷ 0 ∷ []) 34 1 0 3)
    ∷ arena_case (blend_refused (E ++ S 0 2 16) (0 ∷ 0 ∷ 1 ∷ 1 ∷ 0 ∷ 4 ∷ 3 ∷ 0 ∷ []) 34 1 0 6)
    -- arrays over two equal types differ; over one type they are the same, and not IO-shareable; two structs differ
    ∷ arena_case (blend_refused (E ++ E ++ counted 0 2 4 ++ counted 1 2 4 ++ S 0 2 16) (2 ∷ 0 ∷ 1 ∷ 1 ∷ 3 ∷ 8 ∷ 1 ∷ 2 ∷ []) 34 4 0 4)
    ∷ arena_case (blend_refused (E ++ counted 0 2 4 ++ counted 0 2 4 ++ S 0 2 16) (1 ∷ 0 ∷ 1 ∷ 1 ∷ 2 ∷ 8 ∷ 1 ∷ 2 ∷ []) 34 3 0 5)
    ∷ arena_case (blend_refused (E ++ S 0 1 4 ++ S 1 2 8) (0 ∷ 0 ∷ 0 ∷ 0 ∷ 1 ∷ 0 ∷ 1 ∷ 1 ∷ 1 ∷ 4 ∷ 1 ∷ 2 ∷ []) 34 2 0 4)
    ∷ arena_case (blend_refused (bool ++ S 0 2 2) (0 ∷ 0 ∷ 1 ∷ 1 ∷ 0 ∷ 1 ∷ 1 ∷ 2 ∷ []) 34 1 0 5)
    -- two sources that pass: IO_SHAREABLE; with both at 0 HOST_SHAREABLE is lost
    ∷ arena_case (blend_accepted (V4 ++ S 0 2 32) (0 ∷ 0 ∷ 1 ∷ 1 ∷ 0 ∷ 16 ∷ 1 ∷ 2 ∷ []) (row 1 2 (255 ∷ []) ∷ []))
    ∷ arena_case (blend_accepted (V4 ++ S 0 2 32) (0 ∷ 0 ∷ 1 ∷ 1 ∷ 0 ∷ 0 ∷ 1 ∷ 2 ∷ []) (row 1 2 (239 ∷ []) ∷ []))
    -- 18 of a member comes before the rules of a later one, and after those of its own
    ∷ arena_case (blend_refused (E ++ S 0 3 16) (0 ∷ 0 ∷ 1 ∷ 1 ∷ 0 ∷ 2 ∷ 0 ∷ 0 ∷ 0 ∷ 8 ∷ 1 ∷ 1 ∷ []) 18 1 1 0)
    ∷ arena_case (blend_refused (E ++ S 0 2 16) (0 ∷ 0 ∷ 1 ∷ 1 ∷ 0 ∷ 2 ∷ 1 ∷ 1 ∷ []) 34 1 0 2)
    -- a source without a location is 2; a large location alone is no matter
    ∷ arena_case (refused (E ++ counted 9 1 4 ++ S 0 1 4) (0 ∷ 0 ∷ 0 ∷ 1 ∷ []) 2 2 0 0)
    ∷ arena_case (accepted (E ++ S 0 1 4) (0 ∷ 0 ∷ 4294967295 ∷ 0 ∷ []) (row 1 2 (247 ∷ []) ∷ []))
    ∷ []

-- ---- 02, E8
-- the same by the newer rule
abbrev pub by_newer : Example → Example
by_newer x = record { capabilities = x.capabilities; rule = Newer; types = x.types; members = x.members; answer = x.answer; rows = x.rows }

-- E, S{E} with span 4, and a struct of that at 0 and E at 0, which costs HOST_SHAREABLE
abbrev pub overlaid : List Words → Example
overlaid rows = accepted (E ++ S 0 1 4 ++ S 1 2 4) (0 ∷ 0 ∷ 0 ∷ 0 ∷ 1 ∷ 0 ∷ 0 ∷ 0 ∷ 0 ∷ 0 ∷ 0 ∷ 0 ∷ []) rows

-- an array of E of no count, with stride 4
abbrev pub tail : List ℕ
tail = 7 ∷ 0 ∷ 1 ∷ 0 ∷ 4 ∷ 0 ∷ []

unfoldable pub newer : List Case
newer =
    -- from a struct to the member right after it no distance is asked: older code 4, newer as storage
    arena_case (overlaid (row 2 3 (4 ∷ 2 ∷ 1 ∷ 0 ∷ 16 ∷ 0 ∷ 4 ∷ 0 ∷ 0 ∷ 0 ∷ []) ∷ []))
    ∷ arena_case (by_newer (overlaid (row 2 3 (0 ∷ 4 ∷ 0 ∷ 0 ∷ 0 ∷ 0 ∷ 4 ∷ 0 ∷ 0 ∷ 0 ∷ []) ∷ [])))
    -- M7's array: uniform Ok 4
    ∷ arena_case (by_newer (accepted (E ++ counted 0 3 4) [] (row 1 3 (0 ∷ 4 ∷ 0 ∷ 0 ∷ 0 ∷ 0 ∷ 4 ∷ 0 ∷ 0 ∷ 0 ∷ []) ∷ [])))
    -- M3's struct: the span rule is in both
    ∷ arena_case (by_newer (accepted (pair 20) (pair_members 12) (row 2 3 (2 ∷ 2 ∷ 0 ∷ 20 ∷ 16 ∷ 2 ∷ 2 ∷ 0 ∷ 20 ∷ 16 ∷ []) ∷ [])))
    -- M10's struct: 21 of the distance stays
    ∷ arena_case (by_newer (refused (E ++ S 0 1 4 ++ S 1 3 32) (0 ∷ 0 ∷ 0 ∷ 0 ∷ 0 ∷ 0 ∷ 0 ∷ 0 ∷ 1 ∷ 16 ∷ 0 ∷ 0 ∷ 0 ∷ 0 ∷ 0 ∷ 0 ∷ []) 21 2 2 0))
    -- a runtime array by itself is judged as in storage; a struct with it has code 5 where it was Ok
    ∷ arena_case
    (by_newer (accepted (E ++ tail ++ S 0 1 4) (1 ∷ 0 ∷ 0 ∷ 0 ∷ [])
    (row 1 3 (0 ∷ 4 ∷ 0 ∷ 0 ∷ 0 ∷ 0 ∷ 4 ∷ 0 ∷ 0 ∷ 0 ∷ []) ∷ row 2 3 (5 ∷ 2 ∷ 0 ∷ 0 ∷ 0 ∷ 0 ∷ 4 ∷ 0 ∷ 0 ∷ 0 ∷ []) ∷ [])))
    -- the span rule overwrites that: span 6
    ∷ arena_case (by_newer (accepted (E ++ tail ++ S 0 1 6) (1 ∷ 0 ∷ 0 ∷ 0 ∷ []) (row 2 3 (2 ∷ 2 ∷ 0 ∷ 6 ∷ 4 ∷ 2 ∷ 2 ∷ 0 ∷ 6 ∷ 4 ∷ []) ∷ [])))
    -- an earlier error stays: V at 4, then the array at 16
    ∷ arena_case
    (by_newer (accepted (E ++ V3 ++ tail ++ S 0 2 32) (1 ∷ 4 ∷ 0 ∷ 0 ∷ 2 ∷ 16 ∷ 0 ∷ 0 ∷ [])
    (row 3 3 (3 ∷ 3 ∷ 0 ∷ 4 ∷ 16 ∷ 3 ∷ 3 ∷ 0 ∷ 4 ∷ 16 ∷ []) ∷ [])))
    ∷ []
