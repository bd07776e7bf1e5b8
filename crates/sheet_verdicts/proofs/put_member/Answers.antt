-- `sheet_verdicts::put_member` meets its contract: one after the other. Assumes nothing.
use Rattle.std.specs.Prelude.{◌++◌}
use borrow.Author.Tests.{ne_eqb}
use Rattle.program_output.specs.Bytes.{ascii}
use Rattle.sheet_output.proofs.WritesLaws.{writes_then}
use Rattle.sheet_types.specs.Text.{struct_name}
use Rattle.sheet_verdicts.proofs.put_member.Goals as goal

pub returns-then-of-judged : goal.returns-then-of-judged
returns-then-of-judged g c =
    let k = g.W.Write.contents in
    let of = c.args.of in
    let member = rw (c.member.ensures.of, c.member.ensures.j) at c.put_numbered_member.ensures in
    let struct = writes_then k (λ m. struct_name m of.sheet of.i) c.put_text.ensures c.put_struct_name.ensures in
    rw (ne_eqb of.i c.args.judged.i c.if-of-judged.true) (writes_then k (λ m. ascii " of " ++ struct_name m of.sheet of.i) member struct)
