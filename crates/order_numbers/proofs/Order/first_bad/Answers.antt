use mathlib.Core.Path.{refl, sym, ◌∙◌}
use Rattle.std.proofs.Common.{rules, arith}
use borrow.Author.Tests.{tests}
use Rattle.std.proofs.lemmas.Iterator.{YieldsList-from_range}
use Rattle.std.proofs.lemmas.Iterator.Adapters.{option_map_id}
use Rattle.std.proofs.lemmas.Iterator.Search.{find_from_yields_List}
use Rattle.order_numbers.specs.Order.{member_at, bad_place}
use Rattle.order_numbers.proofs.SearchLaws.{range_find}
use Rattle.order_numbers.proofs.Order.first_bad.Goals as goal

pub returns : goal.returns
returns c =
    let a = c.args.self in
    let f = bad_place a.n (member_at a.n a.number) in
    sym (option_map_id c.find.result) ∙ find_from_yields_List f _ _ c.find.result c.find.ensures.ran (YieldsList-from_range 0 a.n a.n refl (omega arith)) (λ x b q k. search (rules, tests)) ∙ range_find f a.n 0
