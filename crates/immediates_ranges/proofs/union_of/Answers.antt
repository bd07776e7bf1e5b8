-- `immediates_ranges::union_of` meets its contract. Assumes nothing.
use Rattle.immediates_ranges.proofs.MaskLaws.{union_word}
use Rattle.immediates_ranges.proofs.union_of.Goals as goal

pub returns : goal.returns
returns c = union_word c.args.this c.args.other 64 c.ranges.this.fits c.ranges.other.fits
