-- `sheet_identifiers::has_identifier` meets its contract: the name is tested where there is one. Assumes nothing.
use Rattle.std.proofs.Common.{rules, tests}
use Rattle.sheet_identifiers.proofs.IdentifierLaws.{identifier_had}
use Rattle.sheet_identifiers.proofs.has_identifier.Goals as goal

pub returns : goal.returns
returns c = identifier_had c.args.name c.is_some_and.result c.is_some_and.ensures (λ x p. search (rules, tests))
