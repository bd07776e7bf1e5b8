-- The layout sheet: which record is a runtime-sized array.
-- Assumes nothing.
use Rattle.std.specs.Prelude.{Bool, true, false}
use Rattle.ir_records.specs.declared.TypeInner.{TypeInner}
use Rattle.ir_records.specs.declared.TypeInner.TheVariants.{Plain, Array, RuntimeArray, Struct, Other}

-- an array whose form is dynamic
abbrev pub is_runtime : TypeInner → Bool
is_runtime (Plain leaf) = false
is_runtime (Array base count stride) = false
is_runtime (RuntimeArray base stride) = true
is_runtime (Struct count span) = false
is_runtime (Other o) = false
