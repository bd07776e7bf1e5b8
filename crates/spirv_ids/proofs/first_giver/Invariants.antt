-- `spirv_ids::first_giver` meets its contract. The invariant: none before `next` may give an id. Assumes nothing.
use Rattle.spirv_words.specs.Module.{between}
use Rattle.spirv_ids.proofs.FirstLaws.{Seeking}
use Rattle.spirv_ids.proofs.first_giver.Given as goal

abbrev pub invariant-loop-p : goal.invariant-loop-p
invariant-loop-p l = Seeking l.words l.next (between l.p-iterator.words.now l.p-iterator.at l.p-iterator.end)
