-- Serves the contracts of functions inside the library: it adds nothing to what the other files say, and a reader may skip it.
-- Assumes nothing.
use Rattle.std.specs.Prelude.{Bool, ◌&&◌, not, ℕ, ◌/◌, ◌%◌, eqb}

-- the border of a part, its offset or its end, lies inside slot k: a name for the code, no term of 02
abbrev pub cuts : (border k : ℕ) → Bool
cuts border k = not (eqb (border % 4) 0) && eqb (border / 4) k
