-- `sheet_rust::put_member` meets its contract: one after the other. Assumes nothing.
use Rattle.sheet_output.proofs.WritesLaws.{writes_both, writes_then}
use Rattle.sheet_types.specs.Text.{type_text}
use Rattle.sheet_rust.proofs.put_member.Goals as goal

pub returns : goal.returns
returns g c =
    let k = g.W.Write.contents in
    let a = c.args.member in
    let t = c.own_type-t.ensures in
    let name = writes_both k (writes_both k c.put_text.ensures c.put_member.ensures.written) c.put_text-2.ensures in
    let typed = writes_both k name (rw (t.sheet, t.i) at c.put_type.ensures) in
    let offset = writes_both k typed (rw c.from.ensures at c.put_with.ensures) in
    let words = writes_then k (λ m. type_text m a.of.sheet a.ty) offset (rw (t.sheet, t.i) at c.put_type-2.ensures) in
    writes_both k words c.put_byte.ensures
