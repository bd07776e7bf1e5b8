-- `sheet_verdicts::has_slot` meets its contract: no slot past the last one is set. Assumes nothing.
use mathlib.Core.Path.{◌∙◌}
use borrow.Author.Tests.{le-ltb}
use Rattle.sheet_verdicts.proofs.SlotLaws.{bit_past}
use Rattle.sheet_verdicts.proofs.has_slot.Goals as goal

pub returns-else-k-lt64 : goal.returns-else-k-lt64
returns-else-k-lt64 c =
    let a = c.args in
    le-ltb a.k 64 c.if-k-lt64.false ∙ bit_past a.mask a.k c.ranges.mask.fits c.if-k-lt64.false
