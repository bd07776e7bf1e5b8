-- `sheet_identifiers::stem` meets its contract: the last byte that is no underscore is the first from the end on. Assumes nothing.
use Rattle.std.proofs.Common.{rules, tests, not}
use Rattle.sheet_identifiers.specs.Identifiers.{is_underscore}
use Rattle.sheet_identifiers.proofs.IdentifierLaws.{place_from_end, yields_back, stem_some, stem_none}
use Rattle.sheet_identifiers.proofs.stem.Goals as goal

pub returns-in-Some : goal.returns-in-Some
returns-in-Some c =
    let name = c.args.name.now in
    let place = place_from_end (λ b. not (is_underscore b)) _ _ _ _ c.rposition.ensures.ran
    (yields_back name c.iter.ensures.rest) (λ x b q k. search (rules, tests)) in
    stem_some name c.in-Some.last (rw (c.in-Some.is, c.iter.ensures.rest) at place)

pub returns-in-None : goal.returns-in-None
returns-in-None c =
    let name = c.args.name.now in
    let place = place_from_end (λ b. not (is_underscore b)) _ _ _ _ c.rposition.ensures.ran
    (yields_back name c.iter.ensures.rest) (λ x b q k. search (rules, tests)) in
    stem_none name (rw c.in-None.is at place)
