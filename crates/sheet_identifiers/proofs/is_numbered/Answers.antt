-- `sheet_identifiers::is_numbered` meets its contract: what follows the prefix is tested. Assumes nothing.
use Rattle.std.proofs.Common.{rules, tests}
use Rattle.sheet_identifiers.proofs.IdentifierLaws.{numbered_rest}
use Rattle.sheet_identifiers.proofs.is_numbered.Goals as goal

pub returns : goal.returns
returns c =
    let a = c.args in
    numbered_rest a.word.now a.prefix.now c.strip_prefix.result _ c.strip_prefix.ensures.cases c.is_some_and.ensures (λ x p. search (rules, tests))
