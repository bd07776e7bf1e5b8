-- `immediates_ranges::difference_of` meets its contract. Assumes nothing.
use Rattle.immediates_ranges.proofs.MaskLaws.{difference_word}
use Rattle.immediates_ranges.proofs.difference_of.Goals as goal

pub returns : goal.returns
returns c = difference_word c.args.this c.args.other 64 c.ranges.this.fits c.ranges.other.fits
