-- `sheet_types::put_within` meets its contract. The measure: how many arrays are still written out. Assumes nothing.
use Rattle.sheet_types.proofs.+put_within.Given as goal

abbrev pub decreases-put_within : goal.decreases-put_within
decreases-put_within g l = l.depth
