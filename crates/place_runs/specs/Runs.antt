-- 02, E10, for a loader that looks up thousands of places: lists of steps one after the other in lent words, as runs. A run is its start, how many
-- steps it has, and the steps.
-- Assumes nothing.
use Rattle.std.specs.Prelude.{Bool, List, ℕ, zero, suc, ◌+◌, eqb, ltb, length, get_or, take, drop}
use Rattle.ir_records.specs.Result.{pick}

-- how many steps the run that begins at `at` has, and where it ends
abbrev pub step_count : (queries : List ℕ) (at : ℕ) → ℕ
step_count queries at = get_or queries (at + 1) 0

abbrev pub run_end : (queries : List ℕ) (at : ℕ) → ℕ
run_end queries at = at + 2 + step_count queries at

-- where run j begins
unfoldable pub run_at : (queries : List ℕ) → ℕ → ℕ
run_at queries zero = 0
run_at queries (suc j) = run_end queries (run_at queries j)

abbrev pub run_start : (queries : List ℕ) (j : ℕ) → ℕ
run_start queries j = get_or queries (run_at queries j) 0

abbrev pub run_steps : (queries : List ℕ) (j : ℕ) → List ℕ
run_steps queries j = take (step_count queries (run_at queries j)) (drop (run_at queries j + 2) queries)

-- how many runs there are: the first n, from the given one on, for which run n would begin at the end of the words or past it
unfoldable pub count_from : (queries : List ℕ) (left n : ℕ) → ℕ
count_from queries zero n = n
count_from queries (suc left) n = pick (ltb (run_at queries n) (length queries)) (count_from queries left (suc n)) n

unfoldable pub run_count : (queries : List ℕ) → ℕ
run_count queries = count_from queries (length queries) 0

-- none is cut short: they end where the words end
unfoldable pub runs_whole : (queries : List ℕ) → Bool
runs_whole queries = eqb (run_at queries (run_count queries)) (length queries)
