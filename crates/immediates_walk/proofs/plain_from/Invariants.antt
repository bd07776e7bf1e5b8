-- `immediates_walk::plain_from` meets its contract: the invariant is that part is the part of the members up to j. Assumes nothing.
use mathlib.Core.Path.{◌≡◌}
use Rattle.immediates_part.specs.Part.{part_in}
use Rattle.immediates_walk.specs.Serving.{members_at}
use Rattle.immediates_walk.proofs.plain_from.Given as goal

abbrev pub invariant-loop-j : goal.invariant-loop-j
invariant-loop-j l = part_in l.part ≡ members_at l.walk.of.types.now l.walk.of.members.now l.walk.of.ty l.walk.offset l.j
