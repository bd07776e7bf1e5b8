use mathlib.Core.Path.{refl, ◌∙◌}
use Rattle.std.proofs.Common.{rules, arith}
use borrow.Author.Tests.{tests}
use Rattle.std.proofs.lemmas.Iterator.{YieldsList-from_range}
use Rattle.std.proofs.lemmas.Iterator.Search.{any_from_yields_List}
use Rattle.order_numbers.specs.Order.{member_at, alike, bad_place}
use Rattle.order_numbers.proofs.SearchLaws.{range_any}
use Rattle.order_numbers.proofs.Order.bad_place.Goals as goal

pub returns : goal.returns
unfolding bad_place
returns c =
    let a = c.args in
    let f = alike (member_at a.self.n a.self.number) a.j in
    let earlier = any_from_yields_List f _ _ c.any-earlier.result c.any-earlier.ensures.ran (YieldsList-from_range 0 a.j a.j refl (omega arith)) (λ x b q k. search (rules, tests)) ∙ range_any f a.j 0 in
    rw (earlier, c.member_at-m.ensures)
