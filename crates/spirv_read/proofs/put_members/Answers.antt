-- `spirv_read::put_members` meets its contract. The invariant: j rows are written. Assumes nothing.
use Rattle.spirv_members.proofs.AlignmentLaws.{sound_at}
use Rattle.spirv_read.proofs.PutLaws.{rows_start, rows_more}
use Rattle.spirv_read.proofs.put_members.Goals as goal

pub loop-j-init : goal.loop-j-init
loop-j-init c =
    let a = c.args in
    rows_start a.place.input.words.now a.place.at a.members.now a.m a.n

pub put_member-requires-clause-sound : goal.put_member-requires-clause-sound
put_member-requires-clause-sound c =
    let a = c.args in
    sound_at a.place.input.words.now a.place.at a.n c.loop-j.j c.loop-j-test.true c.requires.sound

pub loop-j-preserved : goal.loop-j-preserved
loop-j-preserved c =
    let l = c.loop-j in
    let a = c.args in
    rw c.put_member.ensures (rows_more a.place.input.words.now a.place.at a.members.now a.m a.n l.j l.members c.loop-j-test.true c.requires.n_in_bounds l.invariant)
