-- `sheet_places::refused_at` meets its contract. The invariant: halves of what is left give the same. The measure: how many instructions are left.
-- Assumes nothing.
use Rattle.std.proofs.Common.{◌-◌}
use Rattle.sheet_places.specs.Halving.{refused_before, refused_at}
use Rattle.sheet_places.proofs.HalvingLaws.{Halves}
use Rattle.sheet_places.proofs.refused_at.Given as goal

abbrev pub invariant-loop-among : goal.invariant-loop-among
invariant-loop-among l = Halves (refused_before l.words) (refused_at l.words) l.among.start l.among.end

abbrev pub decreases-loop-among : goal.decreases-loop-among
decreases-loop-among l = l.among.end - l.among.start
