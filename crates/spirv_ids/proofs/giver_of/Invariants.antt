-- `spirv_ids::giver_of` meets its contract. The invariant: what is found of those that are left is what is found, and how many types are read before them.
-- Assumes nothing.
use Rattle.spirv_words.specs.Module.{between}
use Rattle.spirv_ids.proofs.CountLaws.{Counting}
use Rattle.spirv_ids.proofs.giver_of.Given as goal

abbrev pub invariant-loop-p : goal.invariant-loop-p
invariant-loop-p l =
    Counting l.place.input.words.now l.place.at l.id l.number (between l.p-iterator.words.now l.p-iterator.at l.p-iterator.end)
