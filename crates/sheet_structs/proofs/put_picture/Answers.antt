-- `sheet_structs::put_picture` meets its contract: one after the other. Assumes nothing.
use mathlib.Core.Path.{sym, ◌∙◌}
use Rattle.sheet_output.proofs.WritesLaws.{writes_both, writes_then}
use Rattle.sheet_picture.specs.Picture.{rows_text}
use Rattle.sheet_structs.proofs.put_picture.Goals as goal

pub returns-then-is_shareable : goal.returns-then-is_shareable
returns-then-is_shareable g c =
    let k = g.W.Write.contents in
    let rows = writes_then k (λ m. rows_text m c.args.t.sheet c.args.t.i) c.put_text.ensures c.put_rows.ensures in
    rw (sym c.is_shareable.ensures ∙ c.if-is_shareable.true) (writes_both k rows c.put_rest.ensures)
