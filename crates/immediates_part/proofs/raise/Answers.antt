-- `immediates_part::raise` meets its contract. Assumes nothing.
use mathlib.Core.Path.{◌∙◌}
use Rattle.immediates_part.proofs.RaisedLaws.{raised-shift}
use Rattle.immediates_part.proofs.raise.Goals as goal

pub returns : goal.returns
returns c = c.unwrap_or.ensures ∙ raised-shift c.args.mask c.args.n c.checked_shl.result c.checked_shl.ensures
