-- `place_runs::runs_of` meets its contract. The invariant: n runs end at `at`, and those from there on are left to count. Assumes nothing.
use mathlib.Core.Path.{◌≡◌}
use Prim.Native.Nat.{◌≤◌, ◌-◌}
use lib.ListN.{length}
use Rattle.place_runs.specs.Runs.{run_at, count_from, run_count}
use Rattle.place_runs.proofs.runs_of.Given as goal

abbrev pub invariant-loop-at : goal.invariant-loop-at
invariant-loop-at l =
    (l.at ≤ length l.queries) × (l.n ≤ l.at) × (l.at ≡ run_at l.queries l.n) × (count_from l.queries (length l.queries - l.n) l.n ≡ run_count l.queries)

abbrev pub decreases-loop-at : goal.decreases-loop-at
decreases-loop-at l = length l.queries - l.at
