-- Serves the contracts of functions inside the library: it adds nothing to what the other files say, and a reader may skip it.
-- Assumes nothing.
use Rattle.std.specs.Prelude.{ℕ, eqb}
use Rattle.ir_records.specs.Result.{Result, pick}
use Rattle.valid_flags.specs.Flags.{bit}
use Rattle.valid_width.specs.Width.{allowed_with, allowed_only}

-- the width of an integer or a float: 2 and 8 with the capabilities of these bits, or 4
abbrev pub number_width : (c half double width : ℕ) → Result (Unit {0})
number_width c half double width =
    pick (eqb width 2) (allowed_with (bit c half) half)
    (pick (eqb width 8) (allowed_with (bit c double) double) (allowed_only (eqb width 4) 9))
