-- `sheet_structs::put_rust` meets its contract: one after the other. Assumes nothing.
use mathlib.Core.Path.{sym, ◌∙◌}
use Rattle.std.specs.Prelude.{Some}
use Rattle.sheet_output.proofs.WritesLaws.{writes_both, writes_then}
use Rattle.sheet_lines.specs.Lines.{lines_text}
use Rattle.sheet_rust.specs.Text.{rust_gap_text, rust_member_text, rust_offset_text, rust_assertion_text}
use Rattle.sheet_structs.specs.Structs.{of_member, each_text, size_of}
use Rattle.sheet_structs.proofs.MemberLaws.{writes_member}
use Rattle.sheet_structs.proofs.put_rust.Goals as goal

pub returns : goal.returns
returns g c =
    let k = g.W.Write.contents in
    let s = c.args.t.sheet in
    let i = c.args.t.i in
    let lines = rw (c.from.ensures, c.size.ensures) at (c.put_lines.ensures rust_gap_text (λ m. of_member (rust_member_text m) s i) (λ was is unused p. p.1)
    (λ was is member of same p. writes_member k (rust_member_text (was.now.markup)) member of same p.1)) in
    let opened = writes_then k (λ m. lines_text (rust_gap_text m) (of_member (rust_member_text m) s i) s i (Some (size_of s i))) c.put_open.ensures lines in
    let offset =
    c.put_each.ensures (λ m. of_member (rust_offset_text m) s i)
    (λ was is member of same p. writes_member k (rust_offset_text (was.now.markup)) member of same p.1) in
    let offsets = writes_then k (λ m. each_text (of_member (rust_offset_text m) s i) s i) (writes_both k opened c.put_numbers.ensures) offset in
    let assertion =
    c.put_each-2.ensures (λ m. of_member (rust_assertion_text m) s i)
    (λ was is member of same p. writes_member k (rust_assertion_text (was.now.markup)) member of same p.1) in
    let all = writes_then k (λ m. each_text (of_member (rust_assertion_text m) s i) s i) (writes_both k offsets c.put_size.ensures) assertion in
    rw (sym c.is_usable.ensures ∙ c.if-not-is_usable.false) all
