-- Serves the contracts of functions inside the library: it adds nothing to what the other files say, and a reader may skip it.
-- Assumes nothing.
use Rattle.std.specs.Prelude.{Bool, Result}
use Rattle.ir_records.specs.declared.Fault.TheVariants.{FieldOutside}
use Rattle.ir_records.specs.declared.TypeRefusal.{TypeRefusal}
use Rattle.ir_records.specs.Refusal.{type_refusal, RefusedUnless}

-- number 2 just where the fields do not lie in their sets
abbrev pub FieldsTold : Result (Unit {0}) TypeRefusal → (fit : Bool) → Type 0
FieldsTold told fit = RefusedUnless told (type_refusal FieldOutside 0 0) fit
