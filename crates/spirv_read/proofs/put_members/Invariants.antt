-- `spirv_read::put_members` meets its contract. The invariant: j rows are written. Assumes nothing.
use Rattle.spirv_read.proofs.PutLaws.{Rows}
use Rattle.spirv_read.proofs.put_members.Given as goal

abbrev pub invariant-loop-j : goal.invariant-loop-j
invariant-loop-j l =
    Rows l.place.input.words.now l.place.at l.initial.members l.m l.n l.j l.members
