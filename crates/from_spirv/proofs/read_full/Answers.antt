-- `from_spirv::read_full` meets its contract: what came is after what is held. Assumes nothing.
use Rattle.std.proofs.Common.{take-add, arith, ◌∙◌}
use Rattle.std.proofs.KnownBytes.{Consumes-trans}
use Rattle.from_spirv.proofs.read_full.Goals as goal

pub loop-more-preserved : goal.loop-more-preserved
loop-more-preserved g c =
    let l = c.loop-more in
    let came = c.in-Ok.ensures in
    let more = c.in-Ok.more in
    let is = c.read_after.new.buffer in
    rw (take-add l.held more is, came.buffer.3)
    (omega (arith, came.buffer.0, came.buffer.1, l.invariant.1), came.buffer.2 ∙ l.invariant.1, Consumes-trans _ _ _ _ _ l.invariant.2 came.bytes.0)
