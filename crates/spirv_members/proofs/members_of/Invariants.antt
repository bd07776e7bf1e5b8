-- `spirv_members::members_of` meets its contract. The invariant: none of the first j members is unsupported, and what is known of them.
-- Assumes nothing.
use mathlib.Core.Path.{◌≡◌}
use mathlib.Core.Bool.{false}
use Rattle.std.specs.Prelude.{Some, None}
use Rattle.ir_records.specs.Result.{pick}
use Rattle.spirv_members.specs.Members.{members_unsupported, members_sound}
use Rattle.spirv_members.specs.Serving.{members_seen}
use Rattle.spirv_members.proofs.members_of.Given as goal

abbrev pub invariant-loop-j : goal.invariant-loop-j
invariant-loop-j l =
    let ws = l.place.input.words.now in
    let ts = l.tables.types.now in
    (members_unsupported ws ts l.place.at l.j ≡ false)
    × (l.seen ≡ pick (members_sound ws l.place.at l.j) (Some (members_seen ws ts l.tables.alignments.now l.place.at l.j)) None)
