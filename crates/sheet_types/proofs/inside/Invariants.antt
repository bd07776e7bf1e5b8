-- `sheet_types::inside` meets its contract. The invariant: what is inside the arrays that are left is inside all. Assumes nothing.
use mathlib.Core.Path.{◌≡◌}
use Prim.Native.Nat.{◌-◌, ◌≤◌}
use Rattle.sheet_types.specs.Types.{inside_arrays}
use Rattle.sheet_types.proofs.inside.Given as goal

abbrev pub invariant-loop : goal.invariant-loop
invariant-loop l = record {
  within : l.counter ≤ l.depth;
  sheet : l.t.sheet ≡ l.of.sheet;
  same : inside_arrays l.of.sheet.types.now (l.depth - l.counter) l.t.i ≡ inside_arrays l.of.sheet.types.now l.depth l.of.i;
}
