-- Serves the contracts of functions inside the library: it adds nothing to what the other files say, and a reader may skip it.
-- Assumes nothing.
use Rattle.std.specs.Prelude.{◌≡◌, true, false, ◌*◌, Option, Some, None}
use Rattle.wgsl_placement.specs.declared.Shape.{Shape}
use Rattle.wgsl_placement.specs.declared.Measure.{Measure}
use Rattle.wgsl_placement.specs.Placement.{Count, stride_of, elements, array_fits}

-- what the code answers of an array: SizeOf and StrideOf, or that they leave 32 bits
abbrev pub Measured : Count → Shape → Option Measure → Type 0
Measured n e (Some m) = (array_fits n e ≡ true) × (m.size ≡ elements n * stride_of e) × (m.stride ≡ stride_of e)
Measured n e None = array_fits n e ≡ false
