-- `sheet_identifiers::is_listed` meets its contract: the parts between the blanks are compared. Assumes nothing.
use Rattle.std.proofs.Common.{rules, tests, eqb}
use Rattle.std.specs.Str.{bytes_eq}
use Rattle.std.proofs.lemmas.Iterator.Splits.{YieldsList-from_slice_split}
use Rattle.std.proofs.lemmas.Iterator.Search.{any_from_yields_List}
use Rattle.sheet_identifiers.proofs.is_listed.Goals as goal

pub returns : goal.returns
returns c =
    let split = c.split.ensures in
    any_from_yields_List (λ listed. bytes_eq listed c.args.word.now) _ _ _ c.any.ensures.ran
    (YieldsList-from_slice_split _ (λ b. eqb b 32) c.args.list.now split.rest split.done split.closure (λ x b q k. search (rules, tests)))
    (λ x b q k. search (rules, tests))
