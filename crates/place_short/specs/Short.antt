-- 02, E10: the place lookup with a scratch of three words for each type: size, alignment and flags, which are the first three words of its row.
-- The definitions of refusals and places are those of the place lookup; no verdict is made and no uniform rule is named.
-- Assumes nothing.
use Rattle.std.specs.Prelude.{Bool, ◌&&◌, List, ◌++◌, ℕ, ◌*◌, ◌/◌, leb, length, drop}
use Rattle.ir_records.specs.Result.{pick}
use Rattle.ir_records.specs.Record.{type_words, type_count, decoded}
use Rattle.ir_records.specs.Fields.{row_words, tables_fit, capabilities_known}
use Rattle.ir_records.specs.Table.{flat}
use Rattle.ir_records.specs.Outcome.{Outcome}
use Rattle.ir_records.specs.Outcome.{Accepted, Refused}
use Rattle.ir_rows.specs.Rows.{cleared}
use Rattle.valid_arena.specs.Arena.{common, arena_outcome}
use Rattle.place_lookup.specs.Answer.{PlaceAnswer}
use Rattle.place_lookup.specs.Place.{start_answer}
use Rattle.place_short_layout.specs.ShortRows.{short_width, three_words}

-- ---- the call
-- the three words of type i
abbrev pub three_at : (c : ℕ) (ts ms : List ℕ) → ℕ → List ℕ
three_at c ts ms i =
    three_words (common c (decoded ts ms) i).size (common c (decoded ts ms) i).alignment (common c (decoded ts ms) i).flags

-- number 1: the tables and the capability word as in the other calls, and a scratch of three words for each type
unfoldable pub lengths_fit : (c types members scratch : ℕ) → Bool
lengths_fit c types members scratch =
    capabilities_known c && tables_fit types members (types / type_words * row_words) && leb (types / type_words * short_width) scratch

abbrev pub short_fits : (c : ℕ) (ts ms scratch : List ℕ) → Bool
short_fits c ts ms scratch = lengths_fit c (length ts) (length ms) (length scratch)

unfoldable pub short_answer : (c : ℕ) (ts ms scratch : List ℕ) → Outcome
short_answer c ts ms scratch = pick (short_fits c ts ms scratch) (arena_outcome c ts ms) (Refused 1 0 0 0)

unfoldable pub short_lookup : (c : ℕ) (ts ms scratch : List ℕ) (start : ℕ) (steps : List ℕ) → PlaceAnswer
short_lookup c ts ms scratch start steps = start_answer ts ms start steps (short_answer c ts ms scratch)

-- the scratch: acceptance fills three words for each type, a refusal zeroes them; words after them stay
abbrev pub scratch_after : Outcome → (c : ℕ) (ts ms : List ℕ) (n : ℕ) → List ℕ → List ℕ
scratch_after Accepted c ts ms n words = flat (three_at c ts ms) n ++ drop (n * short_width) words
scratch_after (Refused number ty member detail) c ts ms n words = cleared words (n * short_width)

-- number 1 touches nothing
unfoldable pub short_words : (c : ℕ) (ts ms scratch : List ℕ) → List ℕ
short_words c ts ms scratch = pick (short_fits c ts ms scratch) (scratch_after (arena_outcome c ts ms) c ts ms (type_count ts) scratch) scratch
