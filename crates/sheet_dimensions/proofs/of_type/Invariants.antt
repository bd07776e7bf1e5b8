-- `sheet_dimensions::of_type` meets its contract. The invariant: the dimensions so far over the shape of what is left are the shape of all. Assumes nothing.
use mathlib.Core.Path.{◌≡◌}
use Prim.Native.Nat.{◌-◌}
use lib.ListN.{length}
use Rattle.sheet_dimensions.specs.Shapes.{onto, shape_in, shape_of}
use Rattle.sheet_dimensions.specs.Extents.{in_use}
use Rattle.sheet_dimensions.proofs.of_type.Given as goal

abbrev pub invariant-loop : goal.invariant-loop
invariant-loop l =
    let types = l.t.sheet.types.now in
    let rows = l.t.sheet.rows.now in
    record {
      sheet : l.within.t.sheet ≡ l.t.sheet;
      counts : l.within.extents.count ≡ l.counter;
      room : length l.within.extents.list ≡ 34;
      same : onto (in_use l.within.extents) (shape_in types rows (32 - l.counter) l.within.step l.within.t.i) ≡ shape_of types rows l.t.i;
    }
