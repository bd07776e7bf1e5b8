-- `sheet_structs::put_page` meets its contract: one after the other. Assumes nothing.
use Rattle.std.specs.Prelude.{Some}
use Rattle.program_output.specs.Bytes.{ascii}
use Rattle.sheet_output.proofs.WritesLaws.{writes_both, writes_then}
use Rattle.sheet_types.specs.Text.{struct_name}
use Rattle.sheet_lines.specs.Lines.{lines_text}
use Rattle.sheet_page.specs.Text.{gap_row}
use Rattle.sheet_structs.specs.Facts.{facts_text}
use Rattle.sheet_structs.specs.Structs.{of_member, size_of, page_member, picture_text}
use Rattle.sheet_structs.proofs.MemberLaws.{writes_member}
use Rattle.sheet_structs.proofs.put_page.Goals as goal

pub returns : goal.returns
returns g c =
    let k = g.W.Write.contents in
    let s = c.args.t.sheet in
    let i = c.args.t.i in
    let named = writes_then k (λ m. struct_name m s i) c.put_text.ensures c.put_struct_name.ensures in
    let facts = writes_then k (λ m. facts_text m (ascii "<br>\n") s i) (writes_both k named c.put_text-2.ensures) c.put_facts.ensures in
    let lines =
    c.put_lines.ensures (λ m. gap_row) (λ m. of_member (page_member m) s i) (λ was is unused p. p.1)
    (λ was is member of same p. writes_member k (page_member (was.now.markup)) member of same p.1) in
    let rows =
    writes_then k (λ m. lines_text gap_row (of_member (page_member m) s i) s i (Some (size_of s i))) (writes_both k facts c.put_text-3.ensures)
    (rw (c.from.ensures, c.size.ensures) at lines) in
    writes_then k (λ m. picture_text m s i) (writes_both k rows c.put_text-4.ensures) c.put_picture.ensures
