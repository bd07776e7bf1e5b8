-- `sheet_names::Module::type_of` meets its contract: the search goes over the types in their order. Assumes nothing.
use Rattle.std.proofs.Common.{rules, refl, ℕ, Bool, None, get_or}
use Rattle.std.proofs.lemmas.Iterator.{YieldsList-from_range}
use Rattle.std.proofs.lemmas.Iterator.Search.{find_from_yields_List}
use Rattle.sheet_names.specs.Module.{gives_id}
use Rattle.spirv_words.specs.Module.{word}
use Rattle.sheet_names.proofs.SearchLaws.{found_between}
use Rattle.sheet_names.proofs.Module.type_of.Goals as goal

pub returns : goal.returns
returns c =
    let m = c.args.self in
    let test : ℕ → Bool = λ i. gives_id m.words.now (word m.words.now c.args.at c.args.k) (get_or m.places.now i None) in
    found_between test 0 1024 c.find.result
    (find_from_yields_List test _ _ c.find.result c.find.ensures.ran (YieldsList-from_range 0 1024 1024 refl refl) (λ x b q k. search rules))
