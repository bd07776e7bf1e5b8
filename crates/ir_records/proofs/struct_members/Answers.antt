use mathlib.Core.Path.{refl}
use mathlib.Core.Bool.{◌&&◌}
use Prim.Native.Nat.{◌+◌, ◌/◌}
use borrow.Author.Tests.{leb-true}
use lib.Dec.{leb, ltb}
use lib.ListN.{length}
use Rattle.ir_records.specs.Record.{member_count, struct_members}
use Rattle.ir_records.proofs.ResultLaws.{true_T, T_true, and_right}
use Rattle.ir_records.proofs.struct_members.Goals as goal

-- the last of the three tests
pub member_part-requires : goal.member_part-requires
member_part-requires c =
    let a = c.args in
    let last = c.type_word-first.result + c.type_word-count.result in
    let rows = member_count a.members.now in
    leb-true last rows (T_true (leb last rows) (and_right (ltb a.i (length a.types.now / 6) && c.is_of_kind.result) (leb last rows) (true_T (rw (c.type_count.ensures, c.member_count.ensures) at c.if-i-type_count.true))))

pub returns-then-i-type_count : goal.returns-then-i-type_count
unfolding struct_members
returns-then-i-type_count c =
    let test = rw (c.type_word-count.ensures, c.type_word-first.ensures, c.is_of_kind.ensures, c.type_count.ensures, c.member_count.ensures) at c.if-i-type_count.true in
    rw (test) (rw (c.type_word-count.ensures, c.type_word-first.ensures) at c.member_part.ensures.words)

pub returns : goal.returns
unfolding struct_members
returns c =
    let test = rw (c.type_word-count.ensures, c.type_word-first.ensures, c.is_of_kind.ensures, c.type_count.ensures, c.member_count.ensures) at c.if-i-type_count.false in
    rw (test) refl
