-- `sheet_identifiers::is_identifier` meets its contract: the first byte is a letter, and all are tested. Assumes nothing.
use Rattle.std.proofs.Common.{rules, tests}
use Rattle.std.proofs.lemmas.Iterator.{YieldsList-from_slice}
use Rattle.std.proofs.lemmas.Iterator.Search.{all_from_yields_List}
use Rattle.sheet_identifiers.specs.Identifiers.{is_letter_or_digit}
use Rattle.sheet_identifiers.proofs.IdentifierLaws.{identifier_first}
use Rattle.sheet_identifiers.proofs.is_identifier.Goals as goal

pub returns-then-is_some_and : goal.returns-then-is_some_and
returns-then-is_some_and c =
    let name = c.args.name.now in
    let all = all_from_yields_List is_letter_or_digit _ _ c.all.result c.all.ensures.ran (YieldsList-from_slice name cc) (λ x b q k. search (rules, tests)) in
    identifier_first name c.first.result _ _ c.is_some_and.ensures (λ x p. search (rules, tests)) c.first.ensures.value c.if-is_some_and.true all
