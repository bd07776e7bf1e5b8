-- `sheet_structs::put_c` meets its contract: one after the other. Assumes nothing.
use mathlib.Core.Path.{sym, ◌∙◌}
use Rattle.ir_records.specs.Record.{type_word, struct_members}
use Rattle.sheet_output.proofs.WritesLaws.{writes_both, writes_then}
use Rattle.sheet_lines.specs.Lines.{lines_text}
use Rattle.sheet_c.specs.Last.{last_byte_of}
use Rattle.sheet_c.specs.Text.{c_gap_text, c_member_text, c_offset_text}
use Rattle.sheet_structs.specs.Structs.{of_member, each_text, size_of}
use Rattle.sheet_structs.proofs.MemberLaws.{writes_member}
use Rattle.sheet_structs.proofs.put_c.Goals as goal

pub returns : goal.returns
returns g c =
    let k = g.W.Write.contents in
    let s = c.args.t.sheet in
    let i = c.args.t.i in
    let types = s.types.now in
    let end = last_byte_of types (struct_members types (s.members.now) i) (type_word types i 2) (size_of s i) in
    let lines = rw c.last_byte.ensures at (c.put_lines.ensures c_gap_text (λ m. of_member (c_member_text m) s i) (λ was is unused p. p.1)
    (λ was is member of same p. writes_member k (c_member_text (was.now.markup)) member of same p.1)) in
    let opened = writes_then k (λ m. lines_text (c_gap_text m) (of_member (c_member_text m) s i) s i end) c.put_open.ensures lines in
    let offset =
    c.put_each.ensures (λ m. of_member (c_offset_text m) s i)
    (λ was is member of same p. writes_member k (c_offset_text (was.now.markup)) member of same p.1) in
    let offsets = writes_then k (λ m. each_text (of_member (c_offset_text m) s i) s i) (writes_both k opened c.put_text.ensures) offset in
    rw (sym c.is_usable.ensures ∙ c.if-not-is_usable.false) (writes_both k offsets c.put_end.ensures)
