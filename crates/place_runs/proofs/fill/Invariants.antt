-- `place_runs::fill` meets its contract. The invariant: `at` is where run j begins, and the answers of the runs before it stand in place. Assumes nothing.
use mathlib.Core.Path.{◌≡◌}
use Prim.Native.Nat.{◌*◌}
use lib.ListN.{length, take}
use Rattle.ir_records.specs.Table.{flat}
use Rattle.place_runs.specs.Runs.{run_at}
use Rattle.place_runs.specs.Serving.{pair_at}
use Rattle.place_runs.proofs.fill.Given as goal

abbrev pub invariant-loop-j : goal.invariant-loop-j
invariant-loop-j l =
    (l.at ≡ run_at l.queries l.j)
    × (take (l.j * 2) l.answers ≡ flat (pair_at l.types l.members l.queries) l.j)
    × (length l.answers ≡ length l.initial.answers)
