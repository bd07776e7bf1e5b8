use mathlib.Core.Path.{refl, sym, ◌∙◌}
use borrow.Author.Tests.{eqb-true, eqb-false}
use Prim.Native.Nat.{◌*◌}
use lib.ListN.{take}
use native.Mathlib.Omega.{arith}
use Rattle.ir_records.specs.Record.{member_count, type_count, type_inner, struct_members}
use Rattle.valid_type_info.specs.Verdict.{least_for}
use Rattle.valid_structs.proofs.RecordRowLaws.{by_words, struct-words}
use Rattle.valid_structs.proofs.record_row.Goals as goal

pub returns-then-is : goal.returns-then-is
returns-then-is c =
    let s = c in let a = s.args in let ts = a.types.now in let ms = a.members.now in
    let w = c.own_record-w in
    rw (← struct-words (least_for a.rule) a.capabilities ts ms (take (a.i * 14) a.rows.now) a.i w.result w.ensures (eqb-true w.result.kind 8 (sym c.is.ensures ∙ c.if-is.true)) s.requires.i_in_bounds_2) (c.struct_row.ensures (type_count ts))

pub returns-then-is-2 : goal.returns-then-is-2
returns-then-is-2 c =
    let s = c in let a = s.args in let ts = a.types.now in let ms = a.members.now in
    let w = c.own_record-w in
    rw (← by_words (least_for a.rule) a.capabilities ts ms (take (a.i * 14) a.rows.now) a.i w.result w.ensures 7 (eqb-true w.result.kind 7 (sym c.is-2.ensures ∙ c.if-is-2.true)) (λ q. omega arith) s.requires.i_in_bounds_2) (rw c.least_for-least.ensures at (c.array_row.ensures a.capabilities (member_count ms) (type_count ts) (type_inner ts) (struct_members ts ms a.i)))

pub returns : goal.returns
returns c =
    let s = c in let a = s.args in let ts = a.types.now in let ms = a.members.now in
    let w = c.own_record-w in
    rw (← by_words (least_for a.rule) a.capabilities ts ms (take (a.i * 14) a.rows.now) a.i w.result w.ensures w.result.kind refl (eqb-false w.result.kind 8 (sym c.is.ensures ∙ c.if-is.false)) s.requires.i_in_bounds_2) (c.plain_row.ensures (least_for a.rule) (member_count ms) (struct_members ts ms a.i))
