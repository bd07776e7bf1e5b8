use mathlib.Core.Path.{refl, ◌∙◌}
use Rattle.std.proofs.Common.{rules, arith}
use borrow.Author.Tests.{tests}
use Rattle.std.proofs.lemmas.Iterator.{YieldsList-from_range}
use Rattle.std.proofs.lemmas.Iterator.Search.{any_from_yields_List}
use Rattle.valid_blend.specs.Blend.{is_other}
use Rattle.valid_blend.proofs.BlendLaws.{any_other}
use Rattle.valid_blend.proofs.other_location.Goals as goal

pub returns : goal.returns
returns c =
    let a = c.args in
    let f = is_other a.part.now in
    any_from_yields_List f _ _ c.any.result c.any.ensures.ran (YieldsList-from_range 0 a.n a.n refl (omega arith)) (λ x b q k. search (rules, tests)) ∙ any_other a.part.now a.n
