-- `sheet_bytes::holder_in` meets its contract: the search goes over the members in their order. Assumes nothing.
use Rattle.std.proofs.Common.{rules, refl, sym, ◌∙◌, arith}
use Rattle.std.proofs.lemmas.Iterator.{YieldsList-from_range}
use Rattle.std.proofs.lemmas.Iterator.Adapters.{option_map_id}
use Rattle.std.proofs.lemmas.Iterator.Search.{find_from_yields_List}
use Rattle.sheet_bytes.specs.Holder.{holds}
use Rattle.sheet_bytes.proofs.holder_in.Goals as goal

pub returns : goal.returns
returns c =
    let a = c.args in
    sym (option_map_id c.find.result)
    ∙ find_from_yields_List (λ j. holds a.part.now a.rows.now j a.byte) _ _ c.find.result c.find.ensures.ran
    (YieldsList-from_range 0 a.count a.count refl (omega arith)) (λ x b q k. search rules)
