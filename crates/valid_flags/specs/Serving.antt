-- Serves the contracts of functions inside the library: it adds nothing to what the other files say, and a reader may skip it.
-- Assumes nothing.
use Rattle.std.specs.Prelude.{◌≡◌, ℕ, ◌+◌, ◌<◌, Option, Some, None, Result, MatchResult}
use Rattle.std.specs.Int.Bits.{bit_and}
use Rattle.valid_flags.specs.Flags.{data_flag, copy_flag, io_shareable_flag, host_shareable_flag, creation_resolved_flag, starting_flags}
use Rattle.ir_records.specs.declared.Fault.TheVariants.{FieldOutside}
use Rattle.ir_records.specs.declared.TypeRefusal.{TypeRefusal}
use Rattle.ir_records.specs.Refusal.{type_refusal}
use Rattle.ir_records.specs.Fields.{most_space}
use Rattle.valid_flags.specs.declared.AddressSpace.{AddressSpace}
use Rattle.valid_flags.specs.declared.AddressSpace.TheVariants as space

-- the number of an address space in a record
abbrev pub space_number : AddressSpace → ℕ
space_number space.Function = 0
space_number space.Private = 1
space_number space.WorkGroup = 2
space_number space.Uniform = 3
space_number space.Storage = 4
space_number space.Handle = 5
space_number space.Immediate = 6
space_number space.TaskPayload = 7
space_number space.RayPayload = 8
space_number space.IncomingRayPayload = 9

-- the address space with this number, or number 2 for a number above all of them
abbrev pub NamesSpace : ℕ → Result AddressSpace TypeRefusal → Type 0
NamesSpace number named = MatchResult named (λ s. space_number s ≡ number) (λ r. (r ≡ type_refusal FieldOutside 0 0) × (most_space < number))

-- what a type may have that has no size
abbrev pub without_size : ℕ
without_size = data_flag + copy_flag + io_shareable_flag + host_shareable_flag + creation_resolved_flag

-- what an array of this kind and size has of its base's flags; no size: a runtime array, or a dynamic binding array
abbrev pub flags_over_base : (kind : ℕ) → (size : Option ℕ) → (base : ℕ) → ℕ
flags_over_base kind (Some count) base = bit_and base (starting_flags kind)
flags_over_base kind None base = bit_and base (bit_and (starting_flags kind) without_size)
