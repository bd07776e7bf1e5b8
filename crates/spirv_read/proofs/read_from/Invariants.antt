-- `spirv_read::read_from` meets its contract. The invariant: the reading from `at` on, of the records that are held, is the whole reading. Assumes nothing.
use Prim.Native.Nat.{◌-◌}
use lib.ListN.{length}
use Rattle.spirv_read.proofs.ReadLaws.{Reading}
use Rattle.spirv_read.proofs.read_from.Given as goal

abbrev pub invariant-loop-at : goal.invariant-loop-at
invariant-loop-at l =
    Reading l.space.types l.space.members l.input.words.now l.initial.types l.initial.members l.initial.alignments l.at l.types l.members l.alignments l.held.types l.held.members

abbrev pub decreases-loop-at : goal.decreases-loop-at
decreases-loop-at l = length l.input.words.now - l.at
