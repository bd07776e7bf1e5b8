-- `immediates_ranges::contains_all` meets its contract. Assumes nothing.
use Rattle.immediates_ranges.proofs.MaskLaws.{contains_word}
use Rattle.immediates_ranges.proofs.contains_all.Goals as goal

pub returns : goal.returns
returns c = contains_word c.args.this c.args.other 64 c.ranges.this.fits c.ranges.other.fits
