-- `sheet_structs::put_text` meets its contract: one after the other. Assumes nothing.
use Rattle.std.specs.Prelude.{Some}
use Rattle.std.proofs.Common.{rules}
use Rattle.program_output.specs.Bytes.{ascii}
use Rattle.sheet_output.specs.Written.{Writes}
use Rattle.sheet_output.proofs.WritesLaws.{writes_both, writes_then}
use Rattle.sheet_types.specs.Text.{struct_name}
use Rattle.sheet_lines.specs.Lines.{lines_text}
use Rattle.sheet_table.specs.Text.{gap_text}
use Rattle.sheet_structs.specs.Facts.{facts_text}
use Rattle.sheet_structs.specs.Structs.{of_member, text_member, size_of, width_of}
use Rattle.sheet_structs.proofs.MemberLaws.{writes_member}
use Rattle.sheet_structs.proofs.put_text.Goals as goal

pub returns : goal.returns
returns g c =
    let k = g.W.Write.contents in
    let s = c.args.t.sheet in
    let i = c.args.t.i in
    let width = c.name_width-width.result in
    let named = writes_then k (λ m. struct_name m s i) c.put_text.ensures c.put_struct_name.ensures in
    let facts = writes_then k (λ m. facts_text m (ascii "\n  ") s i) (writes_both k named c.put_text-2.ensures) c.put_facts.ensures in
    let head = writes_both k (writes_both k facts c.put_byte.ensures) (rw (c.name_width-width.ensures, c.count.ensures) at c.put_table_head.ensures) in
    let lines =
    c.put_lines.ensures (λ m. gap_text) (λ m. of_member (text_member width m) s i) (λ was is unused p. p.1)
    (λ was is member of same p.
    let own : Writes k (was.now) (text_member width (was.now.markup) member) (is.now) = search rules in
    writes_member k (text_member width (was.now.markup)) member of same own) in
    let all =
    writes_then k (λ m. lines_text gap_text (of_member (text_member (width_of s i) m) s i) s i (Some (size_of s i))) head
    (rw (c.name_width-width.ensures, c.count.ensures, c.from.ensures, c.size.ensures) at lines) in
    writes_both k all c.put_byte-2.ensures
