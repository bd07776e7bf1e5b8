-- `sheet_page::put_member` meets its contract: one after the other. Assumes nothing.
use Rattle.sheet_output.proofs.WritesLaws.{writes_both, writes_then}
use Rattle.sheet_types.specs.Text.{member_text, type_text}
use Rattle.sheet_page.proofs.put_member.Goals as goal

pub returns : goal.returns
returns g c =
    let k = g.W.Write.contents in
    let m = c.args.member in
    let s = m.of.sheet in
    let t = c.own_type-t.ensures in
    let offset = rw c.from.ensures at c.put_cell.ensures in
    let size = rw (c.from-2.ensures, c.size.ensures, t.sheet, t.i) at c.put_cell-2.ensures in
    let alignment = rw (c.from-3.ensures, c.alignment.ensures, t.sheet, t.i) at c.put_cell-3.ensures in
    let numbers = writes_both k (writes_both k (writes_both k c.put_text.ensures offset) size) alignment in
    let coloured = writes_both k numbers (rw c.from-4.ensures at c.put_with.ensures) in
    let named = writes_then k (λ marks. member_text marks s m.of.i m.j) coloured c.put_member_name.ensures in
    let typed = writes_then k (λ marks. type_text marks s m.ty) (writes_both k named c.put_text-2.ensures) (rw (t.sheet, t.i) at c.put_type.ensures) in
    let steps = writes_both k typed (rw (t.sheet, t.i) at c.put_steps.ensures) in
    writes_both k steps c.put_text-3.ensures
