-- `sheet_names::from_text` meets its contract. The invariant: the tokens that are left give what all do. Assumes nothing.
use Rattle.std.proofs.Common.{◌≡◌}
use Rattle.sheet_names.proofs.WalkLaws.{Walking}
use Rattle.sheet_names.proofs.from_text.Given as goal

abbrev pub invariant-loop-token : goal.invariant-loop-token
invariant-loop-token l = (l.token-iterator.text.now ≡ l.fn.text) × Walking l.fn.text l.fn.types l.walk l.token-iterator.at
