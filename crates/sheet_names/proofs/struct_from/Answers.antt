-- `sheet_names::struct_from` meets its contract: the search goes over the types in their order. Assumes nothing.
use Rattle.std.proofs.Common.{rules, refl, ◌-◌}
use Rattle.std.proofs.lemmas.Iterator.{YieldsList-from_range}
use Rattle.std.proofs.lemmas.Iterator.Search.{find_from_yields_List}
use Rattle.sheet_names.specs.Text.{is_struct}
use Rattle.sheet_names.proofs.SearchLaws.{found_between}
use Rattle.sheet_names.proofs.struct_from.Goals as goal

pub returns : goal.returns
returns c =
    let a = c.args in
    found_between (is_struct a.types.now) a.from 1024 c.find.result
    (find_from_yields_List (is_struct a.types.now) _ _ c.find.result c.find.ensures.ran
    (YieldsList-from_range a.from 1024 (1024 - a.from) refl refl) (λ x b q k. search rules))
