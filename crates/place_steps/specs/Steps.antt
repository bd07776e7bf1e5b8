-- 01, 'The place', with E6 of 02: what one step does, and where the steps must end.
-- Assumes nothing.
use Rattle.std.specs.Prelude.{Bool, false, List, ℕ, ◌*◌, ◌^◌, ltb}
use Rattle.ir_records.specs.Result.{pick}
use Rattle.ir_records.specs.Record.{member_type, member_offset}
use Rattle.ir_records.specs.declared.TypeInner.{TypeInner}
use Rattle.ir_records.specs.declared.TypeInner.TheVariants.{Plain, Array, RuntimeArray, Struct, Other}
use Rattle.place_steps.specs.Step.{Step}
use Rattle.place_steps.specs.Step.{To, NoStep}
use Rattle.place_steps.specs.Columns.{is_whole, column_of}

-- a leaf: a DATA type that is neither array, struct nor matrix. The leaves of a matrix are its columns
abbrev pub is_leaf : TypeInner → Bool
is_leaf (Plain leaf) = is_whole leaf
is_leaf (Array base count stride) = false
is_leaf (RuntimeArray base stride) = false
is_leaf (Struct count span) = false
is_leaf (Other o) = false

-- one step. At an array, a step below the count adds step times stride and goes on with the base; a runtime array takes any 32-bit
-- element number. At a struct, a step below the member count adds that member's offset and goes on with its type. At a matrix, a step
-- is a column
unfoldable pub step_of : TypeInner → (members : List ℕ) → (step : ℕ) → Step
step_of (Plain leaf) members step = column_of leaf step
step_of (Array base count stride) members step = pick (ltb step count) (To base (step * stride)) NoStep
step_of (RuntimeArray base stride) members step = pick (ltb step (2 ^ 32)) (To base (step * stride)) NoStep
step_of (Struct count span) members step = pick (ltb step count) (To (member_type members step) (member_offset members step)) NoStep
step_of (Other o) members step = NoStep
