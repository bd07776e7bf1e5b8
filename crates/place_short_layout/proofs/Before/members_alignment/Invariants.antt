-- `place_short_layout::members_alignment` meets its contract. The invariant: the first j members are earlier types, and a is their largest
-- alignment. Assumes nothing.
use mathlib.Core.Path.{◌≡◌}
use Rattle.ir_records.specs.Result.{ok}
use Rattle.proc_type_alignment.specs.TypeAlignment.{members_alignment}
use Rattle.place_short_layout.specs.ShortRows.{short_layouts}
use Rattle.place_short_layout.proofs.Before.members_alignment.Given as goal

abbrev pub invariant-loop-j : goal.invariant-loop-j
invariant-loop-j l = members_alignment (short_layouts l.self.words.now) l.self.i l.part l.j ≡ ok l.a
