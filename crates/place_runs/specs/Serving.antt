-- Serves the contracts of functions inside the library: it adds nothing to what the other files say, and a reader may skip it.
-- Assumes nothing.
use Rattle.std.specs.Prelude.{◌≡◌, ◌≤◌, ◌+◌, List, [], ◌∷◌, ℕ, Option, Some, None, length, get_or, take, drop}
use Rattle.ir_records.specs.Result.{pick}
use Rattle.place_runs.specs.Runs.{step_count, run_end, run_count, runs_whole, run_start, run_steps}
use Rattle.place_runs.specs.declared.Run.{Run}
use Rattle.place_descent.specs.Place.{Place}
use Rattle.place_descent.specs.Place.{At, NoPlace}
use Rattle.place_descent.specs.Place.{place_of}
use Rattle.place_runs.specs.Places.{none_word}

-- the run that begins at `at`, as the code has it
pub record IsRun (queries : List ℕ) (at : ℕ) (run : Run) : Type 0 where
  pub start : run.start ≡ get_or queries at 0
  pub steps : run.steps.now ≡ take (step_count queries at) (drop (at + 2) queries)
  pub end : run.end ≡ run_end queries at
  pub within : run.end ≤ length queries

abbrev pub runs_of : (queries : List ℕ) → Option ℕ
runs_of queries = pick (runs_whole queries) (Some (run_count queries)) None

abbrev pub place_pair : Place → List ℕ
place_pair (At byte leaf) = byte ∷ leaf ∷ []
place_pair NoPlace = none_word ∷ none_word ∷ []

-- the two words of run j in an accepted arena
abbrev pub pair_at : (ts ms queries : List ℕ) → ℕ → List ℕ
pair_at ts ms queries j = place_pair (place_of ts ms (run_start queries j) (run_steps queries j))
