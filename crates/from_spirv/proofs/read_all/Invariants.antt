-- `from_spirv::read_all` meets its contract. The invariant: the words that are held are those of the bytes that came. Assumes nothing.
use mathlib.Core.Path.{◌≡◌}
use Prim.Native.Nat.{◌-◌, ◌≤◌}
use lib.ListN.{length}
use Rattle.std.specs.Prelude.{Ok, false}
use Rattle.from_spirv.specs.Inputs.{HeldAfter}
use Rattle.from_spirv.proofs.read_all.Given as goal

abbrev pub invariant-loop-now : goal.invariant-loop-now
invariant-loop-now g l =
    (l.held ≤ length l.words)
    × (length l.words ≡ length l.initial.words)
    × HeldAfter (g.S.Read.remaining l.initial.source) (g.S.Read.remaining l.source) 0 l.initial.words l.words (Ok (record { count = l.held; ended = false }))

abbrev pub decreases-loop-now : goal.decreases-loop-now
decreases-loop-now g l = length l.initial.words - l.held
