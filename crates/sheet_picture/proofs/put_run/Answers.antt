-- `sheet_picture::put_run` meets its contract: one after the other. Assumes nothing.
use Rattle.std.specs.Prelude.{Some}
use Rattle.sheet_output.proofs.WritesLaws.{writes_both, writes_then}
use Rattle.sheet_types.specs.Text.{member_text}
use Rattle.sheet_picture.specs.Picture.{run_inside}
use Rattle.sheet_picture.proofs.put_run.Goals as goal

pub returns-in-Some : goal.returns-in-Some
returns-in-Some g c =
    let k = g.W.Write.contents in
    let t = c.args.t in
    let j = c.in-Some.j in
    let e = c.member.ensures in
    let coloured = rw c.from.ensures at c.put_with-in-Some.ensures in
    let named = writes_then k (λ m. member_text m t.sheet t.i j) coloured (rw (e.of, e.j) at c.put_member_name.ensures) in
    rw c.in-Some.is (writes_then k (λ m. run_inside m t.sheet t.i (Some j)) c.put_with.ensures (writes_both k named c.put_text.ensures))

pub returns-in-None : goal.returns-in-None
returns-in-None g c = rw c.in-None.is (writes_both g.W.Write.contents c.put_with.ensures c.put_text-in-None.ensures)
