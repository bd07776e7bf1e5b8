use mathlib.Core.Path.{refl, sym, ◌∙◌}
use Rattle.std.proofs.Common.{rules}
use borrow.Author.Tests.{tests}
use Prim.Native.Nat.{◌-◌}
use lib.ListN.{length}
use Rattle.std.proofs.lemmas.Iterator.{YieldsList-from_range}
use Rattle.std.proofs.lemmas.Iterator.Adapters.{option_map_id}
use Rattle.std.proofs.lemmas.Iterator.Search.{find_from_yields_List}
use Rattle.order_numbers.proofs.SearchLaws.{range_find}
use Rattle.order_types.specs.Given.{is_sort, first_of}
use Rattle.order_types.specs.Serving.{sort_number}
use Rattle.order_types.proofs.GivenTypes.first_of.Goals as goal

pub returns : goal.returns
unfolding first_of
returns c =
    let a = c.args in
    let f = is_sort a.self.types.now a.self.given.rows.now a.self.n a.self.given.wanted.now (sort_number a.sort) in
    let left = length a.self.given.wanted.now - a.from in
    sym (option_map_id c.find.result) ∙ find_from_yields_List f _ _ c.find.result c.find.ensures.ran (YieldsList-from_range a.from (length a.self.given.wanted.now) left refl refl) (λ x b q k. search (rules, tests)) ∙ range_find f left a.from
