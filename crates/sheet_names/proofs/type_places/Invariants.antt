-- `sheet_names::type_places` meets its contract. The invariant: the types before those that are left have their places. Assumes nothing.
use Rattle.spirv_words.specs.Module.{between}
use Rattle.sheet_names.specs.Module.{type_instructions}
use Rattle.sheet_names.proofs.PlaceLaws.{Placing}
use Rattle.sheet_names.proofs.type_places.Given as goal

abbrev pub invariant-loop-at : goal.invariant-loop-at
invariant-loop-at l =
    Placing l.words (type_instructions l.words) l.i l.places (between l.at-iterator.words.now l.at-iterator.at l.at-iterator.end)
