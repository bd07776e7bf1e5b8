-- The address space layout constraints of the W3C WGSL specification, in its words: RequiredAlignOf, and what the address spaces storage
-- and uniform ask of a host-shareable type and of all that it contains, in the standard's own placement.
-- Assumes nothing.
use Rattle.std.specs.Prelude.{ℕ, ◌+◌, ◌≤◌, ◌<◌}
use Rattle.std.specs.Int.{◌∣◌}
use Rattle.proc_alignment.specs.Alignment.{round_up}
use Rattle.w3c_agreement.specs.Wgsl.{WgslType, plain, array, runtime_array, struct, Members, last, member, member_total, type_of_member, align_of, size_of, stride_of, offset_of_member, FixedSize}
use Rattle.w3c_agreement.specs.Placed.{Space, storage, uniform}

-- ---- RequiredAlignOf(T, C)
unfoldable pub required_align_of : WgslType → Space → ℕ
-- storage: AlignOf(T)
required_align_of type storage = align_of type
-- uniform: AlignOf(T) for a scalar, a vector, a matrix, an atomic
required_align_of (plain p) uniform = align_of (plain p)
-- uniform: roundUp(16, AlignOf(T)) for an array, a struct
required_align_of (array element count) uniform = round_up 16 (align_of (array element count))
required_align_of (runtime_array element) uniform = round_up 16 (align_of (runtime_array element))
required_align_of (struct members) uniform = round_up 16 (align_of (struct members))

-- ---- arrays
-- 'An array with elements of type T has a stride that is a multiple of RequiredAlignOf(T, C)'; in uniform besides: 'an array's stride is a multiple of 16'
abbrev pub StrideFits : (element : WgslType) → Space → Type 0
StrideFits element storage = required_align_of element storage ∣ stride_of element
StrideFits element uniform = (required_align_of element uniform ∣ stride_of element) × (16 ∣ stride_of element)

-- ---- members
-- 'A member of type T stands at an offset that is a multiple of RequiredAlignOf(T, C)'
abbrev pub OffsetsFit : Members → Space → Type 0
OffsetsFit members space = (i : ℕ) → i < member_total members → required_align_of (type_of_member members i) space ∣ offset_of_member members i

-- 'where a member has a struct type S, from its start to the start of [a] later member there are at least roundUp(16, SizeOf(S)) bytes'
abbrev pub StructDistance : WgslType → (start later : ℕ) → Type 0
StructDistance (plain p) start later = Unit {0}
StructDistance (array element count) start later = Unit {0}
StructDistance (runtime_array element) start later = Unit {0}
StructDistance (struct members) start later = start + round_up 16 (size_of (struct members)) ≤ later

-- of any later member
abbrev pub DistancesFit : Members → Type 0
DistancesFit members =
    (i j : ℕ) → i < j → j < member_total members → StructDistance (type_of_member members i) (offset_of_member members i) (offset_of_member members j)

-- no member is a runtime-sized array. This is said of members and not of a type by itself: the verdict of array<E> alone is Ok where its
-- stride fits, and that of a struct with such a member is not. A struct that has a runtime-sized array is itself no member in the standard.
abbrev pub FixedMembers : Members → Type 0
FixedMembers members = (i : ℕ) → i < member_total members → FixedSize (type_of_member members i)

-- what a space asks of the members of one struct
abbrev pub MembersFit : Members → Space → Type 0
MembersFit members storage = OffsetsFit members storage
MembersFit members uniform = OffsetsFit members uniform × DistancesFit members × FixedMembers members

-- ---- the constraints, for the type and all that it contains
unfoldable mutual
  pub Constraints : WgslType → Space → Type 0
  Constraints (plain p) space = Unit {0}
  Constraints (array element count) space = StrideFits element space × Constraints element space
  Constraints (runtime_array element) space = StrideFits element space × Constraints element space
  Constraints (struct members) space = MembersFit members space × AllConstraints members space

  pub AllConstraints : Members → Space → Type 0
  AllConstraints (last type align size) space = Constraints type space
  AllConstraints (member type align size rest) space = Constraints type space × AllConstraints rest space
