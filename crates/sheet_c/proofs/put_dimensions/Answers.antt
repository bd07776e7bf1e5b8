-- `sheet_c::put_dimensions` meets its contract: one dimension more. Assumes nothing.
use native.Mathlib.Numerals.{add-one}
use native.Mathlib.Omega.{arith}
use lib.ListN.{take, get_or}
use lib.Seq.{take-suc}
use Rattle.std.specs.Prelude.{None}
use Rattle.sheet_output.proofs.WritesLaws.{writes_both}
use Rattle.sheet_c.proofs.TextLaws.{dimensions_more}
use Rattle.sheet_c.proofs.put_dimensions.Goals as goal

pub loop-n-preserved : goal.loop-n-preserved
loop-n-preserved g c =
    let l = c.loop-n in
    let ns = c.as_slice-n-items.result.now in
    rw (add-one, take-suc ns l.n-index None (omega arith), dimensions_more c.args.alone (take l.n-index ns) (get_or ns l.n-index None))
    (writes_both g.W.Write.contents l.invariant c.put_dimension.ensures)
