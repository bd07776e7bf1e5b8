-- Serves the contracts of functions inside the library: it adds nothing to what the other files say, and a reader may skip it.
-- Assumes nothing.
use Rattle.std.specs.Prelude.{ℕ, eqb}
use Rattle.ir_records.specs.Result.{pick}
use Rattle.ir_records.specs.Outcome.{Outcome, Accepted, Refused}
use Rattle.order_types.specs.declared.Sort.{Sort}
use Rattle.order_types.specs.declared.Sort.TheVariants.{Sized, RuntimeArray, UnsizedStruct, NoData, Outside}
use Rattle.order_types.specs.Given.{sized, runtime_array, unsized_struct, no_data, outside}

-- a sort as the code has it
abbrev pub sort_number : Sort → ℕ
sort_number Sized = sized
sort_number RuntimeArray = runtime_array
sort_number UnsizedStruct = unsized_struct
sort_number NoData = no_data
sort_number Outside = outside

-- what a number says, of which 0 is no refusal
abbrev pub outcome_by : (number : ℕ) → Outcome
outcome_by number = pick (eqb number 0) Accepted (Refused number 0 0 0)
