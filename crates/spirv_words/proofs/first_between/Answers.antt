-- `spirv_words::first_between` meets its contract. Assumes nothing.
use Rattle.std.proofs.Common.{rules, refl, sym, ◌∙◌}
use Rattle.std.proofs.lemmas.Iterator.Consumers.{YieldsList-from_first}
use Rattle.std.proofs.lemmas.Iterator.Search.{find_from_yields_List}
use Rattle.spirv_words.specs.Module.{between}
use Rattle.spirv_words.proofs.SearchLaws.{same_find, same_place}
use Rattle.spirv_words.proofs.first_between.Goals as goal

pub returns : goal.returns
returns g c = λ test tells.
    let a = c.args in
    let found = find_from_yields_List test c.find.new.self _ c.find.result c.find.ensures.ran (YieldsList-from_first (λ p. p) (λ s. between s.words.now s.at s.end) (between a.words.now a.from a.end) refl) (λ x b q k. search (rules, tells)) in
    sym (same_place c.find.result) ∙ found ∙ same_find test (between a.words.now a.from a.end)
