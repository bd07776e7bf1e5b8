-- `sheet_identifiers::put_identifier` meets its contract: two names stay two, whether they are taken or not. Assumes nothing.
use Rattle.sheet_identifiers.proofs.IdentifierLaws.{stays_apart}
use Rattle.sheet_identifiers.proofs.put_identifier.Goals as goal

pub returns-then-made-is_kept-clause-apart : goal.returns-then-made-is_kept-clause-apart
returns-then-made-is_kept-clause-apart g c = stays_apart c.args.name.now

pub returns-else-made-is_kept-clause-apart : goal.returns-else-made-is_kept-clause-apart
returns-else-made-is_kept-clause-apart g c = stays_apart c.args.name.now
