-- `sheet_picture::put_rest` meets its contract: one after the other. Assumes nothing.
use borrow.Author.Tests.{lt-ltb}
use Rattle.sheet_output.proofs.WritesLaws.{writes_both}
use Rattle.sheet_picture.proofs.put_rest.Goals as goal

pub returns-then-from-gt-MOST_DRAWN : goal.returns-then-from-gt-MOST_DRAWN
returns-then-from-gt-MOST_DRAWN g c =
    let k = g.W.Write.contents in
    let more = lt-ltb 4096 c.from.result c.if-from-gt-MOST_DRAWN.true in
    rw (← c.size.ensures, ← c.from.ensures, more) (writes_both k c.put_text.ensures c.put_with.ensures)
