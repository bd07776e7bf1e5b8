-- `place_short::judge_all` meets its contract. The invariant: the first i types pass numbers 4 to 7 and are accepted, their words stand in place, and what
-- stands behind the words of n types is as it was. Assumes nothing.
use mathlib.Core.Path.{◌≡◌}
use Prim.Native.Nat.{◌*◌}
use lib.ListN.{length, take, drop}
use Rattle.ir_records.specs.Table.{first_refusal, flat}
use Rattle.ir_records.specs.Outcome.{Accepted}
use Rattle.place_short.specs.Short.{three_at}
use Rattle.place_short.specs.Serving.{three_result}
use Rattle.place_short.proofs.judge_all.Given as goal

abbrev pub invariant-loop-i : goal.invariant-loop-i
invariant-loop-i l =
    (first_refusal (three_result l.arena.capabilities l.arena.types.now l.arena.members.now) l.i ≡ Accepted)
    × (take (l.i * 3) l.words ≡ flat (three_at l.arena.capabilities l.arena.types.now l.arena.members.now) l.i)
    × (drop (l.arena.n * 3) l.words ≡ drop (l.arena.n * 3) l.initial.words)
    × (length l.words ≡ length l.initial.words)
