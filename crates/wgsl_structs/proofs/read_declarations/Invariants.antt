-- `wgsl_structs::read_declarations` meets its contract. The invariant: the declarations that are left give what all give, and behind the records nothing
-- changes. Assumes nothing.
use mathlib.Core.Path.{◌≡◌}
use Prim.Native.Nat.{◌+◌, ◌-◌}
use lib.ListN.{length}
use Rattle.wgsl_structs.specs.Structs.{declarations_of}
use Rattle.wgsl_structs.specs.Serving.{declarations, declared_in, StateBounds, StateKept, first}
use Rattle.wgsl_structs.proofs.read_declarations.Given as goal

abbrev pub invariant-loop-turn : goal.invariant-loop-turn
invariant-loop-turn l = (declarations_of (length l.s) (length l.s + 1 - l._turn) l.room (declared_in l.s (declarations l.structs l.names l.types l.members) l.state) ≡ declarations_of (length l.s) (length l.s + 1) l.room (declared_in l.s (declarations l.initial.structs l.initial.names l.initial.types l.initial.members) first)) × StateBounds l.room (declarations l.structs l.names l.types l.members) l.state × StateKept (declarations l.initial.structs l.initial.names l.initial.types l.initial.members) (declarations l.structs l.names l.types l.members) first l.state
