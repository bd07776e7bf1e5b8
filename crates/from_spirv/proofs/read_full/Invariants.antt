-- `from_spirv::read_full` meets its contract. The invariant: the bytes that are held came first. Assumes nothing.
use mathlib.Core.Path.{◌≡◌}
use Prim.Native.Nat.{◌-◌, ◌≤◌}
use lib.ListN.{length, take}
use Rattle.std.specs.Io.KnownBytes.{Consumes}
use Rattle.from_spirv.proofs.read_full.Given as goal

abbrev pub invariant-loop-more : goal.invariant-loop-more
invariant-loop-more g l =
    (l.held ≤ length l.buffer)
    × (length l.buffer ≡ length l.initial.buffer)
    × Consumes (g.S.Read.remaining l.initial.source) (g.S.Read.remaining l.source) (take l.held l.buffer)

abbrev pub decreases-loop-more : goal.decreases-loop-more
decreases-loop-more g l = length l.initial.buffer - l.held
