-- The flags of an array over its base, by the form of its record.
-- Assumes nothing.
use mathlib.Core.Path.{◌≡◌, refl}
use mathlib.Core.Bool.{Bool, true, false}
use Prim.Native.Nat.{ℕ, ◌+◌}
use lib.Dec.{eqb}
use Rattle.std.specs.Int.Bits.{bit_and}
use Rattle.std.specs.Prelude.{Some, None}
use Rattle.ir_records.specs.Result.{pick}
use Rattle.ir_records.specs.Record.{array_kind, binding_array_kind}
use Rattle.ir_records.specs.Serving.{size_of}
use Rattle.valid_flags.specs.Flags.{array_flags, runtime_array_flags, binding_array_flags, starting_flags, host_shareable_flag, creation_resolved_flag}
use Rattle.valid_flags.specs.Serving.{flags_over_base}

pub array_by_form : (form count base : ℕ) → flags_over_base array_kind (size_of form count) base ≡ pick (eqb form 0) (array_flags base) (runtime_array_flags base)
array_by_form form count base = go (eqb form 0)
  where
    go : (t : Bool) → flags_over_base array_kind (pick t (Some count) None) base ≡ pick t (array_flags base) (runtime_array_flags base)
    go true = refl
    go false = refl

-- the same of a binding array
pub binding_array_by_form : (form count base : ℕ) → flags_over_base binding_array_kind (size_of form count) base ≡ binding_array_flags form base
binding_array_by_form form count base = go (eqb form 0)
  where
    go : (t : Bool) → flags_over_base binding_array_kind (pick t (Some count) None) base ≡ bit_and base (pick t (starting_flags binding_array_kind) (host_shareable_flag + creation_resolved_flag))
    go true = refl
    go false = refl
