-- `sheet_places::place_of` meets its contract. The invariant: so many instructions further is the place. Assumes nothing.
use Rattle.std.proofs.Common.{◌≡◌, ◌-◌, ◌≤◌}
use Rattle.sheet_places.specs.Places.{place_from, place_of}
use Rattle.sheet_places.proofs.place_of.Given as goal

abbrev pub invariant-loop : goal.invariant-loop
invariant-loop l = (l.counter ≤ l.k) × (place_from l.words (l.k - l.counter) l.at ≡ place_of l.words l.k)
