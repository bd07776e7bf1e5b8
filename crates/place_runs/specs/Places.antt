-- 02, E10, for a loader that looks up thousands of places: many in one call, with one judging. Each answer is that of the lookup with three words for
-- each type. A run cut short, or answers for fewer runs than there are, is number 1, which touches nothing.
-- Assumes nothing.
use Rattle.std.specs.Prelude.{Bool, ◌&&◌, List, [], ◌∷◌, ◌++◌, ℕ, ◌*◌, leb, length, drop}
use Rattle.ir_records.specs.Result.{pick}
use Rattle.ir_records.specs.Table.{flat}
use Rattle.ir_records.specs.Outcome.{Outcome}
use Rattle.ir_records.specs.Outcome as outcome
use Rattle.place_lookup.specs.Answer.{PlaceAnswer}
use Rattle.place_lookup.specs.Answer as answer
use Rattle.place_short.specs.Short.{short_fits, short_answer, short_lookup, short_words}
use Rattle.place_runs.specs.Runs.{run_start, run_steps, run_count, runs_whole}

-- ---- the two words of an answer: the byte place and the leaf's type, which is below 1,024; both 2 ^ 64 - 1 for no place
abbrev pub pair_width : ℕ
pair_width = 2

abbrev pub none_word : ℕ
none_word = 18446744073709551615

abbrev pub answer_pair : PlaceAnswer → List ℕ
answer_pair (answer.Found byte leaf) = byte ∷ leaf ∷ []
answer_pair (answer.Refused number ty member detail) = none_word ∷ none_word ∷ []

-- of run j
abbrev pub answer_at : (c : ℕ) (ts ms scratch queries : List ℕ) → ℕ → List ℕ
answer_at c ts ms scratch queries j = answer_pair (short_lookup c ts ms scratch (run_start queries j) (run_steps queries j))

-- ---- the call
abbrev pub queries_fit : (queries answers : List ℕ) → Bool
queries_fit queries answers = runs_whole queries && leb (run_count queries * pair_width) (length answers)

unfoldable pub places_answer : (c : ℕ) (ts ms scratch queries answers : List ℕ) → Outcome
places_answer c ts ms scratch queries answers = pick (queries_fit queries answers) (short_answer c ts ms scratch) (outcome.Refused 1 0 0 0)

unfoldable pub places_scratch : (c : ℕ) (ts ms scratch queries answers : List ℕ) → List ℕ
places_scratch c ts ms scratch queries answers = pick (queries_fit queries answers) (short_words c ts ms scratch) scratch

-- in a refused arena there is no place; words after the answers stay
unfoldable pub places_words : (c : ℕ) (ts ms scratch queries answers : List ℕ) → List ℕ
places_words c ts ms scratch queries answers =
    pick (queries_fit queries answers && short_fits c ts ms scratch)
    (flat (answer_at c ts ms scratch queries) (run_count queries) ++ drop (run_count queries * pair_width) answers)
    answers
