-- `sheet_verdicts::put_wrong` meets its contract: one after the other. Assumes nothing.
use Rattle.sheet_output.proofs.WritesLaws.{writes_both}
use Rattle.sheet_verdicts.proofs.put_wrong.Goals as goal

pub returns-in-ArrayStride : goal.returns-in-ArrayStride
returns-in-ArrayStride g c =
    let o = c.other-of.ensures in
    rw c.in-ArrayStride.is (writes_both g.W.Write.contents (rw (o.sheet, o.i) at c.put_type.ensures) c.put_uneven.ensures)

pub returns-in-MemberOffset : goal.returns-in-MemberOffset
returns-in-MemberOffset g c =
    let o = c.other-of.ensures in
    rw c.in-MemberOffset.is (writes_both g.W.Write.contents (rw (o.sheet, o.i) at c.put_member.ensures) c.put_uneven-in-MemberOffset.ensures)

pub returns-in-MemberOffsetAfterStruct : goal.returns-in-MemberOffsetAfterStruct
returns-in-MemberOffsetAfterStruct g c =
    let k = g.W.Write.contents in
    let o = c.other-of.ensures in
    let member = rw (o.sheet, o.i) at c.put_member-in-MemberOffsetAfterStruct.ensures in
    let stands = rw c.from.ensures at c.put_with.ensures in
    let later = rw c.from-in-MemberOffsetAfterStruct.ensures at c.put_with-in-MemberOffsetAfterStruct.ensures in
    rw c.in-MemberOffsetAfterStruct.is (writes_both k (writes_both k member stands) later)

pub returns-in-UnsizedMember : goal.returns-in-UnsizedMember
returns-in-UnsizedMember g c =
    let o = c.other-of.ensures in
    rw c.in-UnsizedMember.is (writes_both g.W.Write.contents (rw (o.sheet, o.i) at c.put_member-in-UnsizedMember.ensures) c.put_text.ensures)

pub returns-in-NonHostShareable : goal.returns-in-NonHostShareable
returns-in-NonHostShareable g c =
    let o = c.other-of.ensures in
    rw c.in-NonHostShareable.is (writes_both g.W.Write.contents (rw (o.sheet, o.i) at c.put_type-in-NonHostShareable.ensures) c.put_text-in-NonHostShareable.ensures)
