-- 01, 'The result row' and 'The capability word': flags and capabilities are bits of a word.
-- Assumes nothing.
use Rattle.std.specs.Prelude.{Bool, ◌&&◌, ◌||◌, [], ◌∷◌, ℕ, ◌+◌, ◌/◌, ◌%◌, ◌^◌, eqb, leb, get_or}
use Rattle.std.specs.Int.Bits.{bit_and, bit_or}
use Rattle.ir_records.specs.Result.{pick}
use Rattle.ir_records.specs.Record.{array_kind, binding_array_kind}

-- bit k of a word
abbrev pub bit : (word k : ℕ) → Bool
bit word k = eqb (word / 2 ^ k % 2) 1

-- ---- the flags: 01's values, and the bits that rules ask for
abbrev pub data_flag : ℕ
data_flag = 1

abbrev pub sized_flag : ℕ
sized_flag = 2

abbrev pub copy_flag : ℕ
copy_flag = 4

abbrev pub io_shareable_flag : ℕ
io_shareable_flag = 8

abbrev pub host_shareable_flag : ℕ
host_shareable_flag = 16

abbrev pub argument_flag : ℕ
argument_flag = 32

abbrev pub constructible_flag : ℕ
constructible_flag = 64

abbrev pub creation_resolved_flag : ℕ
creation_resolved_flag = 128

abbrev pub data_bit : ℕ
data_bit = 0

abbrev pub sized_bit : ℕ
sized_bit = 1

abbrev pub io_shareable_bit : ℕ
io_shareable_bit = 3

abbrev pub host_shareable_bit : ℕ
host_shareable_bit = 4

abbrev pub creation_resolved_bit : ℕ
creation_resolved_bit = 7

-- what an array's base has to be (number 15), and a member that no rule on flags refuses
abbrev pub is_sized_data : (flags : ℕ) → Bool
is_sized_data flags = bit flags data_bit && bit flags sized_bit && bit flags creation_resolved_bit

-- ---- a table gives each kind its starting flags
-- all but IO_SHAREABLE and HOST_SHAREABLE, which a bool has not
abbrev pub unshareable : ℕ
unshareable = data_flag + sized_flag + copy_flag + argument_flag + constructible_flag + creation_resolved_flag

-- of scalars and vectors; of matrices, arrays and structs
abbrev pub numeric : ℕ
numeric = unshareable + io_shareable_flag + host_shareable_flag

abbrev pub composite : ℕ
composite = unshareable + host_shareable_flag

-- of pointers of both kinds; of images, samplers and acceleration structures
abbrev pub reference : ℕ
reference = sized_flag + copy_flag + creation_resolved_flag

abbrev pub handle : ℕ
handle = argument_flag + creation_resolved_flag

abbrev pub starting_flags : ℕ → ℕ
starting_flags kind =
    get_or
    (numeric  -- Scalar
    ∷ numeric  -- Vector
    ∷ composite  -- Matrix
    ∷ composite  -- CooperativeMatrix
    ∷ (data_flag + sized_flag + host_shareable_flag + creation_resolved_flag)  -- Atomic
    ∷ reference  -- Pointer
    ∷ reference  -- ValuePointer
    ∷ composite  -- Array
    ∷ composite  -- Struct
    ∷ handle  -- Image
    ∷ handle  -- Sampler
    ∷ handle  -- AccelerationStructure
    ∷ (data_flag + sized_flag + constructible_flag + creation_resolved_flag)  -- RayQuery
    ∷ (sized_flag + host_shareable_flag + creation_resolved_flag)  -- BindingArray
    ∷ [])
    kind
    0

-- a bool is neither IO_SHAREABLE nor HOST_SHAREABLE; scalar kind 3 is Bool
abbrev pub scalar_flags : (scalar_kind flags : ℕ) → ℕ
scalar_flags scalar_kind flags = pick (eqb scalar_kind 3) (bit_and flags unshareable) flags

-- pointers in Function, Private, RayPayload and IncomingRayPayload may be arguments
abbrev pub space_flag : (space : ℕ) → ℕ
space_flag space = pick (leb space 1 || leb 8 space) argument_flag 0

abbrev pub pointer_flags : (space flags : ℕ) → ℕ
pointer_flags space flags = bit_or flags (space_flag space)

-- an array has what its base has of its kind's flags; a runtime array is not SIZED, no ARGUMENT and not CONSTRUCTIBLE
abbrev pub array_flags : (base : ℕ) → ℕ
array_flags base = bit_and base (starting_flags array_kind)

abbrev pub runtime_array_flags : (base : ℕ) → ℕ
runtime_array_flags base = bit_and base (data_flag + copy_flag + host_shareable_flag + creation_resolved_flag)

-- a binding array likewise; a dynamic one is not SIZED
abbrev pub binding_array_flags : (form base : ℕ) → ℕ
binding_array_flags form base = bit_and base (pick (eqb form 0) (starting_flags binding_array_kind) (host_shareable_flag + creation_resolved_flag))

-- without HOST_SHAREABLE
abbrev pub not_host_shareable : ℕ → ℕ
not_host_shareable flags = bit_and flags (unshareable + io_shareable_flag)
