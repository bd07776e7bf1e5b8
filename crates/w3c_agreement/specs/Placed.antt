-- Placed WGSL types: arrays with a stride, structs with the offsets of their members and a span, whatever these are; what it means that a
-- record of an arena is one; and the address space layout constraints of the W3C WGSL specification, in its words, said of the placement.
-- Assumes nothing.
use Rattle.std.specs.Prelude.{◌≡◌, ℕ, zero, suc, ◌+◌, ◌*◌, ◌≤◌, ◌<◌}
use Rattle.std.specs.Int.{◌∣◌}
use Rattle.ir_records.specs.Record.{Decoded, member_type, member_offset}
use Rattle.ir_records.specs.declared.TypeInner.TheVariants.{Plain as PlainRecord, Array, RuntimeArray, Struct}
use Rattle.proc_alignment.specs.Alignment.{round_up}
use Rattle.w3c_agreement.specs.Wgsl.{max_over}
use Rattle.w3c_agreement.specs.Plain.{Plain, align_of_plain, size_of_plain, NumericPlain, leaf_of}

-- ---- types with their placement
mutual
  pub data Placed : Type 0 where
    plain : Plain → Placed
    -- array<E, N>: element i starts at i × stride
    array : Placed → (count stride : ℕ) → Placed
    -- array<E>
    runtime_array : Placed → (stride : ℕ) → Placed
    struct : PlacedMembers → (span : ℕ) → Placed

  -- the members of a struct in their order, one at least: each has a type and an offset
  pub data PlacedMembers : Type 0 where
    last : Placed → (offset : ℕ) → PlacedMembers
    member : Placed → (offset : ℕ) → PlacedMembers → PlacedMembers

-- the number of the last member; members are numbered from 0
unfoldable pub last_member : PlacedMembers → ℕ
last_member (last type offset) = 0
last_member (member type offset rest) = suc (last_member rest)

-- how many members there are
abbrev pub member_total : PlacedMembers → ℕ
member_total members = suc (last_member members)

-- the type of member i; a number past the last member stands for the last
unfoldable pub type_of_member : PlacedMembers → ℕ → Placed
type_of_member (last type offset) i = type
type_of_member (member type offset rest) zero = type
type_of_member (member type offset rest) (suc i) = type_of_member rest i

-- where member i stands
unfoldable pub offset_of_member : PlacedMembers → ℕ → ℕ
offset_of_member (last type offset) i = offset
offset_of_member (member type offset rest) zero = offset
offset_of_member (member type offset rest) (suc i) = offset_of_member rest i

-- ---- AlignOf and SizeOf. A placed type has no attributes: AlignOfMember is AlignOf of the member's type
unfoldable mutual
  pub align_of : Placed → ℕ
  align_of (plain p) = align_of_plain p
  -- AlignOf(E)
  align_of (array element count stride) = align_of element
  align_of (runtime_array element stride) = align_of element
  -- max over i of AlignOfMember(S, i)
  align_of (struct members span) = max_over (λ i. align_of_member members i) (last_member members)

  pub align_of_member : PlacedMembers → ℕ → ℕ
  align_of_member (last type offset) i = align_of type
  align_of_member (member type offset rest) zero = align_of type
  align_of_member (member type offset rest) (suc i) = align_of_member rest i

-- what the placement takes: N strides, one where N is known only at runtime; the span
abbrev pub size_of : Placed → ℕ
size_of (plain p) = size_of_plain p
size_of (array element count stride) = count * stride
size_of (runtime_array element stride) = 1 * stride
size_of (struct members span) = span

-- ---- host-shareable: numeric scalars, numeric vectors, matrices, atomics, arrays of host-shareable elements, structs whose members all are
unfoldable mutual
  pub HostShareable : Placed → Type 0
  HostShareable (plain p) = NumericPlain p
  HostShareable (array element count stride) = HostShareable element
  HostShareable (runtime_array element stride) = HostShareable element
  HostShareable (struct members span) = AllHostShareable members

  pub AllHostShareable : PlacedMembers → Type 0
  AllHostShareable (last type offset) = HostShareable type
  AllHostShareable (member type offset rest) = HostShareable type × AllHostShareable rest

-- ---- members in order and apart: each starts where the one before it ends, or later
abbrev pub MembersApart : PlacedMembers → Type 0
MembersApart members =
    (i : ℕ) → suc i < member_total members → offset_of_member members i + size_of (type_of_member members i) ≤ offset_of_member members (suc i)

-- in the type and all that it contains
unfoldable mutual
  pub Apart : Placed → Type 0
  Apart (plain p) = Unit {0}
  Apart (array element count stride) = Apart element
  Apart (runtime_array element stride) = Apart element
  Apart (struct members span) = MembersApart members × AllApart members

  pub AllApart : PlacedMembers → Type 0
  AllApart (last type offset) = Apart type
  AllApart (member type offset rest) = Apart type × AllApart rest

-- ---- address spaces
pub data Space : Type 0 where
  storage uniform : Space

-- ---- RequiredAlignOf(T, C)
unfoldable pub required_align_of : Placed → Space → ℕ
-- storage: AlignOf(T)
required_align_of type storage = align_of type
-- uniform: AlignOf(T) for a scalar, a vector, a matrix, an atomic
required_align_of (plain p) uniform = align_of (plain p)
-- uniform: roundUp(16, AlignOf(T)) for an array, a struct
required_align_of (array element count stride) uniform = round_up 16 (align_of (array element count stride))
required_align_of (runtime_array element stride) uniform = round_up 16 (align_of (runtime_array element stride))
required_align_of (struct members span) uniform = round_up 16 (align_of (struct members span))

-- ---- the constraints
-- 'An array with elements of type T has a stride that is a multiple of RequiredAlignOf(T, C)'; in uniform besides: 'an array's stride is a multiple of 16'
abbrev pub StrideFits : (element : Placed) (stride : ℕ) → Space → Type 0
StrideFits element stride storage = required_align_of element storage ∣ stride
StrideFits element stride uniform = (required_align_of element uniform ∣ stride) × (16 ∣ stride)

-- 'A member of type T stands at an offset that is a multiple of RequiredAlignOf(T, C)'
abbrev pub OffsetsFit : PlacedMembers → Space → Type 0
OffsetsFit members space = (i : ℕ) → i < member_total members → required_align_of (type_of_member members i) space ∣ offset_of_member members i

-- 'where a member has a struct type S, from its start to the start of [a] later member there are at least roundUp(16, SizeOf(S)) bytes'
abbrev pub StructDistance : Placed → (start later : ℕ) → Type 0
StructDistance (plain p) start later = Unit {0}
StructDistance (array element count stride) start later = Unit {0}
StructDistance (runtime_array element stride) start later = Unit {0}
StructDistance (struct members span) start later = start + round_up 16 (size_of (struct members span)) ≤ later

-- of any later member
abbrev pub DistancesFit : PlacedMembers → Type 0
DistancesFit members =
    (i j : ℕ) → i < j → j < member_total members → StructDistance (type_of_member members i) (offset_of_member members i) (offset_of_member members j)

-- not a runtime-sized array
abbrev pub FixedSize : Placed → Type 0
FixedSize (plain p) = Unit {0}
FixedSize (array element count stride) = Unit {0}
FixedSize (runtime_array element stride) = ⊥
FixedSize (struct members span) = Unit {0}

-- no member is a runtime-sized array
abbrev pub FixedMembers : PlacedMembers → Type 0
FixedMembers members = (i : ℕ) → i < member_total members → FixedSize (type_of_member members i)

-- what a space asks of the members of one struct
abbrev pub MembersFit : PlacedMembers → Space → Type 0
MembersFit members storage = OffsetsFit members storage
MembersFit members uniform = OffsetsFit members uniform × DistancesFit members × FixedMembers members

-- the constraints, for the type and all that it contains. A struct's span is a multiple of AlignOf(S) in both spaces, as SizeOf(S) is roundUp(AlignOf(S), ..)
unfoldable mutual
  pub Constraints : Placed → Space → Type 0
  Constraints (plain p) space = Unit {0}
  Constraints (array element count stride) space = StrideFits element stride space × Constraints element space
  Constraints (runtime_array element stride) space = StrideFits element stride space × Constraints element space
  Constraints (struct members span) space = (align_of (struct members span) ∣ span) × MembersFit members space × AllConstraints members space

  pub AllConstraints : PlacedMembers → Space → Type 0
  AllConstraints (last type offset) space = Constraints type space
  AllConstraints (member type offset rest) space = Constraints type space × AllConstraints rest space

-- ---- records that are placed types
unfoldable mutual
  -- record t of an arena is this type, so placed
  pub IsPlaced : Placed → (types : ℕ → Decoded) → ℕ → Type 0
  IsPlaced (plain p) types t = (types t).inner ≡ PlainRecord (leaf_of p)
  IsPlaced (array element count stride) types t = (base : ℕ) × ((types t).inner ≡ Array base count stride) × IsPlaced element types base
  IsPlaced (runtime_array element stride) types t = (base : ℕ) × ((types t).inner ≡ RuntimeArray base stride) × IsPlaced element types base
  IsPlaced (struct members span) types t =
      ((types t).inner ≡ Struct (member_total members) span)
      × ((i : ℕ) → i < member_total members → member_offset (types t).members i ≡ offset_of_member members i)
      × ((i : ℕ) → i < member_total members → IsMember members types i (member_type (types t).members i))

  -- record t of an arena is the type of member i
  pub IsMember : PlacedMembers → (types : ℕ → Decoded) → (i t : ℕ) → Type 0
  IsMember (last type offset) types i t = IsPlaced type types t
  IsMember (member type offset rest) types zero t = IsPlaced type types t
  IsMember (member type offset rest) types (suc i) t = IsMember rest types i t
