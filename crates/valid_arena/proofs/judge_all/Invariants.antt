-- `valid_arena::judge_all` meets its contract. The invariant: the first i types pass numbers 2 to 7 and are accepted, their rows stand in place, and what
-- stands behind the n rows is as it was. Assumes nothing.
use mathlib.Core.Path.{◌≡◌}
use Prim.Native.Nat.{◌*◌}
use lib.ListN.{length, take, drop}
use Rattle.ir_records.specs.Table.{first_refusal, flat}
use Rattle.ir_records.specs.Outcome.{Accepted}
use Rattle.valid_type_info.specs.Verdict.{least_for}
use Rattle.valid_arena.specs.Arena.{row_at}
use Rattle.valid_arena.specs.Serving.{laid_then_judged}
use Rattle.valid_arena.proofs.judge_all.Given as goal

abbrev pub invariant-loop-i : goal.invariant-loop-i
invariant-loop-i l =
    (first_refusal (laid_then_judged (least_for l.rule) l.capabilities l.types l.members) l.i ≡ Accepted)
    × (take (l.i * 14) l.rows ≡ flat (row_at (least_for l.rule) l.capabilities l.types l.members) l.i)
    × (drop (l.n * 14) l.rows ≡ drop (l.n * 14) l.initial.rows)
    × (length l.rows ≡ length l.initial.rows)
