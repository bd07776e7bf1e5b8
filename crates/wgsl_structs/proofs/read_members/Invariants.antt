-- `wgsl_structs::read_members` meets its contract. The invariant: the members that are left give what all give, and behind the records nothing changes.
-- Assumes nothing.
use mathlib.Core.Path.{◌≡◌}
use Prim.Native.Nat.{◌-◌}
use lib.ListN.{length}
use Rattle.wgsl_tables.specs.Tables.{structs_in}
use Rattle.wgsl_members.specs.Serving.{tables, members_in, Bounds, Kept}
use Rattle.wgsl_structs.specs.Structs.{members_of}
use Rattle.wgsl_structs.proofs.read_members.Given as goal

abbrev pub invariant-loop-turn : goal.invariant-loop-turn
invariant-loop-turn l = (members_of (length l.s) (length l.s - l._turn) l.room (structs_in l.s l.structs) (members_in l.s (tables l.names l.types l.members) l.body) ≡ members_of (length l.s) (length l.s) l.room (structs_in l.s l.structs) (members_in l.s (tables l.initial.names l.initial.types l.initial.members) l.initial.body)) × Bounds l.room (tables l.names l.types l.members) l.body × Kept (tables l.initial.names l.initial.types l.initial.members) (tables l.names l.types l.members) l.initial.body l.body
