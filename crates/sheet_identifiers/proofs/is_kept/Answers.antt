-- `sheet_identifiers::is_kept` meets its contract: the list is that of the kept words. Assumes nothing.
use Rattle.sheet_identifiers.specs.Identifiers.{kept_words}
use Rattle.sheet_identifiers.proofs.is_kept.Goals as goal

pub returns : goal.returns
unfolding kept_words
returns c = c.is_listed.ensures
