-- At member j, part is the part of the members before it, and what is kept is what the walk gives. Twice the type number falls, and one more for the struct itself.
use Rattle.std.proofs.Common.{◌≡◌, ◌+◌, ◌-◌, ◌*◌, ◌≤◌}
use Rattle.ir_records.specs.Record.{decoded}
use Rattle.immediates_part.specs.Part.{part_in}
use Rattle.immediates_kept.specs.Kept.{Keeps}
use Rattle.immediates_walk.specs.Parts.{part_at}
use Rattle.immediates_walk.specs.Serving.{members_at}
use Rattle.immediates_walk.proofs.+members_part_struct_part.Given as goal

abbrev pub decreases-members_part : goal.decreases-members_part
decreases-members_part l = 2 * l.walk.of.ty

abbrev pub decreases-struct_part : goal.decreases-struct_part
decreases-struct_part l = 2 * l.own.ty + 1

abbrev pub invariant-members_part-loop-j : goal.invariant-members_part-loop-j
invariant-members_part-loop-j l = record {
  within : l.j ≤ l.walk.count;
  so_far : part_in l.part ≡ members_at l.walk.of.types.now l.walk.of.members.now l.walk.of.ty l.walk.offset l.j;
  keeps : Keeps (part_at (decoded l.walk.of.types.now l.walk.of.members.now)) l.kept;
}

abbrev pub decreases-members_part-loop-j : goal.decreases-members_part-loop-j
decreases-members_part-loop-j l = l.walk.count - l.j
