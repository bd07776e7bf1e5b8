-- `spirv_members::column_step` meets its contract. The invariant: the step from k on is the step. Assumes nothing.
use mathlib.Core.Path.{◌≡◌}
use Prim.Native.Nat.{suc, ◌-◌}
use Rattle.spirv_members.specs.Members.{column_step_in}
use Rattle.spirv_members.proofs.column_step.Given as goal

abbrev pub invariant-loop : goal.invariant-loop
invariant-loop l = column_step_in l.tables.types.now (suc l.t - l.counter) l.k ≡ column_step_in l.tables.types.now (suc l.t) l.t
