-- `proc_layouter::layout_all` meets its contract. The invariant: the first i types pass numbers 2 to 7, their layouts stand in their rows, and what stands
-- behind the n rows is as it was. Assumes nothing.
use mathlib.Core.Path.{◌≡◌}
use Prim.Native.Nat.{◌*◌}
use lib.ListN.{length, take, drop}
use Rattle.ir_records.specs.Table.{first_refusal, flat}
use Rattle.ir_records.specs.Outcome.{Accepted}
use Rattle.proc_layouter.specs.Layouter.{layout_row_at}
use Rattle.proc_layouter.specs.Serving.{record_then_layout}
use Rattle.proc_layouter.proofs.layout_all.Given as goal

abbrev pub invariant-loop-i : goal.invariant-loop-i
invariant-loop-i l =
    (first_refusal (record_then_layout l.types l.members) l.i ≡ Accepted)
    × (take (l.i * 14) l.rows ≡ flat (layout_row_at l.types l.members) l.i)
    × (drop (l.n * 14) l.rows ≡ drop (l.n * 14) l.initial.rows)
    × (length l.rows ≡ length l.initial.rows)
