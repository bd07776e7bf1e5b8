-- `place_report::leaf_bytes_all` meets its contract. The invariant: what each of the first i types carries stands in its words. Assumes nothing.
use borrow.Author.Rules.{rules}
use mathlib.Core.Path.{◌≡◌, refl, ap, ◌∙◌}
use Prim.Native.Nat.{ℕ, ◌*◌, ◌<◌}
use borrow.Rule.Slice.PartMut.{put_mid}
use Rattle.ir_records.specs.Record.{type_count}
use Rattle.ir_rows.specs.Rows.{cleared}
use native.Mathlib.Omega.{arith}
use Rattle.place_report.proofs.MemberBytes.{small_entry}
use Rattle.place_report.proofs.PassLaws.{bounds-at, narrow_told}
use Rattle.place_report.proofs.FirstPass.{first_pass_small, first_pass_refused, first_pass_more}
use Rattle.place_report.proofs.leaf_bytes_all.Goals as goal

pub invariant_of-before : goal.invariant_of-before
invariant_of-before c =
    let a = c.args in
    let l = c.loop-i in
    record { small = small_entry _ (first_pass_small a.types.now a.members.now a.rows.now a.report.now (type_count a.types.now) l.report l.i l.invariant) }

pub leaf_bytes_at-own-requires : goal.leaf_bytes_at-own-requires
leaf_bytes_at-own-requires c =
    let s = c in let a = s.args in let l = c.loop-i in
    bounds-at a.types.now a.members.now a.rows.now s.requires.rows_of l.i (omega (arith, c.type_count-n.ensures, c.loop-i-test.true))

pub returns-then-structured-narrow : goal.returns-then-structured-narrow
returns-then-structured-narrow c =
    let s = c in let a = s.args in let l = c.loop-i in
    let ts = a.types.now in let ms = a.members.now in let rows = a.rows.now in
    let inside : l.i < type_count ts = omega (arith, c.type_count-n.ensures, c.loop-i-test.true) in
    let is = rw c.row_word-size.ensures at c.leaf_bytes_at-own.ensures in
    let e = rw (c.is_struct-structured.ensures, narrow_told c.leaf_bytes_at-own.result c.is_none-narrow.result c.is_none-narrow.ensures) at c.if-structured-narrow.true in
    let g = first_pass_refused ts ms rows a.report.now (type_count a.types.now) l.report l.i l.invariant s.requires.rows_of refl s.requires.room inside c.leaf_bytes_at-own.result is e in
    let n = c.type_count-n.result in
    let all : put_mid 0 (n * 2) l.report c.fill.new.self ≡ cleared l.report (n * 2) = search rules in
    let zeroed = all ∙ ap (λ (k : ℕ). cleared l.report (k * 2)) c.type_count-n.ensures in
    rw (c.at.ensures, c.of.ensures) record { value = g.0; report_after = zeroed ∙ g.1 }

pub loop-i-preserved : goal.loop-i-preserved
loop-i-preserved c =
    let s = c in let a = s.args in let l = c.loop-i in
    let ts = a.types.now in let ms = a.members.now in let rows = a.rows.now in
    let inside : l.i < type_count ts = omega (arith, c.type_count-n.ensures, c.loop-i-test.true) in
    let is = rw c.row_word-size.ensures at c.leaf_bytes_at-own.ensures in
    let e = rw (c.is_struct-structured.ensures, narrow_told c.leaf_bytes_at-own.result c.is_none-narrow.result c.is_none-narrow.ensures) at c.if-structured-narrow.false in
    rw c.put_leaf_bytes.ensures
    (first_pass_more ts ms rows a.report.now (type_count a.types.now) l.report l.i l.invariant s.requires.rows_of refl s.requires.room inside c.leaf_bytes_at-own.result is e
    (rw (← c.row_word-size.ensures) (search rules)))
