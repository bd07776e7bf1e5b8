-- `sheet_picture::put_rows` meets its contract: each row after those before it. Assumes nothing.
use Prim.Native.Nat.{◌+◌, ◌*◌}
use Rattle.std.specs.Prelude.{min}
use Rattle.sheet_output.proofs.WritesLaws.{writes_none, writes_then}
use Rattle.sheet_picture.specs.Picture.{row_text, rows_before}
use Rattle.sheet_picture.proofs.PictureLaws.{rows_more}
use Rattle.sheet_picture.proofs.put_rows.Goals as goal

pub loop-row-init : goal.loop-row-init
unfolding rows_before
loop-row-init g c = writes_none g.W.Write.contents c.args.out.now

pub loop-row-preserved : goal.loop-row-preserved
loop-row-preserved g c =
    let t = c.args.t in
    let row = c.loop-row.row in
    let drawn = c.min-drawn.result in
    let put = rw c.min.ensures at c.put_row.ensures in
    rw (rows_more (c.args.out.now.markup) t.sheet t.i drawn row)
    (writes_then g.W.Write.contents (λ m. row_text m t.sheet t.i (row * 16) (min drawn (row * 16 + 16))) c.loop-row.invariant put)
