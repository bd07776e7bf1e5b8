-- The memory layout of the W3C WGSL specification, in its words: WGSL types with their attributes, AlignOf, SizeOf, StrideOf, OffsetOfMember;
-- and what the standard asks of the attributes.
-- Assumes nothing.
use Rattle.std.proofs.Math.Option.{Option, none, some}
use Rattle.std.specs.Prelude.{ℕ, zero, suc, ◌+◌, ◌*◌, ◌≤◌, max}
use Rattle.std.specs.Int.{◌∣◌}
use Rattle.proc_alignment.specs.Alignment.{Power, round_up}
use Rattle.w3c_agreement.specs.Plain.{Plain, align_of_plain, size_of_plain, NumericPlain}

-- ---- types
-- What the standard asks of N and of runtime-sized arrays is not asked here, so that what is proved holds of more trees: that N is positive, and
-- that a runtime-sized array is only the last member of a struct that is no element and no member.
mutual
  pub data WgslType : Type 0 where
    plain : Plain → WgslType
    -- array<E, N>
    array : WgslType → ℕ → WgslType
    -- array<E>
    runtime_array : WgslType → WgslType
    struct : Members → WgslType

  -- the members of a struct in their order, one at least: each has a type and may have @align(k) and @size(k)
  pub data Members : Type 0 where
    last : WgslType → (align size : Option ℕ) → Members
    member : WgslType → (align size : Option ℕ) → Members → Members

-- the number of the last member; members are numbered from 0 here, from 1 in the standard
unfoldable pub last_member : Members → ℕ
last_member (last type align size) = 0
last_member (member type align size rest) = suc (last_member rest)

-- how many members there are
abbrev pub member_total : Members → ℕ
member_total members = suc (last_member members)

-- the type of member i; a number past the last member stands for the last
unfoldable pub type_of_member : Members → ℕ → WgslType
type_of_member (last type align size) i = type
type_of_member (member type align size rest) zero = type
type_of_member (member type align size rest) (suc i) = type_of_member rest i

-- ---- AlignOf
-- max over i of f(i), i from 0 to n
unfoldable pub max_over : (ℕ → ℕ) → ℕ → ℕ
max_over f zero = f zero
max_over f (suc n) = max (max_over f n) (f (suc n))

-- k where there is an attribute, else what the type has
abbrev pub given_or : Option ℕ → ℕ → ℕ
given_or none own = own
given_or (some k) own = k

unfoldable mutual
  pub align_of : WgslType → ℕ
  align_of (plain p) = align_of_plain p
  -- AlignOf(E)
  align_of (array element count) = align_of element
  align_of (runtime_array element) = align_of element
  -- max over i of AlignOfMember(S, i)
  align_of (struct members) = max_over (λ i. align_of_member members i) (last_member members)

  -- AlignOfMember(S, i): k where the member has @align(k), else AlignOf of its type
  pub align_of_member : Members → ℕ → ℕ
  align_of_member (last type align size) i = given_or align (align_of type)
  align_of_member (member type align size rest) zero = given_or align (align_of type)
  align_of_member (member type align size rest) (suc i) = align_of_member rest i

-- ---- SizeOf
-- OffsetOfMember(S, 1) = 0;
-- OffsetOfMember(S, i) = roundUp(AlignOfMember(S, i), OffsetOfMember(S, i-1) + SizeOfMember(S, i-1))
unfoldable pub offset_by : (align size : ℕ → ℕ) → ℕ → ℕ
offset_by align size zero = 0
offset_by align size (suc i) = round_up (align (suc i)) (offset_by align size i + size i)

unfoldable mutual
  pub size_of : WgslType → ℕ
  size_of (plain p) = size_of_plain p
  -- N × roundUp(AlignOf(E), SizeOf(E))
  size_of (array element count) = count * round_up (align_of element) (size_of element)
  -- N_runtime × roundUp(AlignOf(E), SizeOf(E)), with N_runtime = 1
  size_of (runtime_array element) = 1 * round_up (align_of element) (size_of element)
  -- roundUp(AlignOf(S), OffsetOfMember(S, N) + SizeOfMember(S, N))
  size_of (struct members) =
      round_up (align_of (struct members))
      (offset_by (λ i. align_of_member members i) (λ i. size_of_member members i) (last_member members) + size_of_member members (last_member members))

  -- SizeOfMember(S, i): k where it has @size(k), else SizeOf of its type
  pub size_of_member : Members → ℕ → ℕ
  size_of_member (last type align size) i = given_or size (size_of type)
  size_of_member (member type align size rest) zero = given_or size (size_of type)
  size_of_member (member type align size rest) (suc i) = size_of_member rest i

-- OffsetOfMember(S, i)
abbrev pub offset_of_member : Members → ℕ → ℕ
offset_of_member members = offset_by (align_of_member members) (size_of_member members)

-- StrideOf(array<E, N>) = StrideOf(array<E>) = roundUp(AlignOf(E), SizeOf(E))
abbrev pub stride_of : (element : WgslType) → ℕ
stride_of element = round_up (align_of element) (size_of element)

-- ---- host-shareable: no bool anywhere
unfoldable mutual
  -- numeric scalars, numeric vectors, matrices, atomics, arrays of host-shareable elements, structs whose members all are
  pub HostShareable : WgslType → Type 0
  HostShareable (plain p) = NumericPlain p
  HostShareable (array element count) = HostShareable element
  HostShareable (runtime_array element) = HostShareable element
  HostShareable (struct members) = AllHostShareable members

  pub AllHostShareable : Members → Type 0
  AllHostShareable (last type align size) = HostShareable type
  AllHostShareable (member type align size rest) = HostShareable type × AllHostShareable rest

-- ---- what the standard asks of the attributes, as far as the theorems need it
-- '@align(k): k is positive and a power of two, and a multiple of RequiredAlignOf(T, C)', here for storage, where RequiredAlignOf is AlignOf
abbrev pub AlignFits : Option ℕ → WgslType → Type 0
AlignFits none type = Unit {0}
AlignFits (some k) type = Power k × (align_of type ∣ k)

-- no runtime-sized array
abbrev pub FixedSize : WgslType → Type 0
FixedSize (plain p) = Unit {0}
FixedSize (array element count) = Unit {0}
FixedSize (runtime_array element) = ⊥
FixedSize (struct members) = Unit {0}

-- '@size(k): k is at least SizeOf(T), and T has a creation-fixed footprint (so no runtime-sized array)'
abbrev pub SizeFits : Option ℕ → WgslType → Type 0
SizeFits none type = Unit {0}
SizeFits (some k) type = (size_of type ≤ k) × FixedSize type

-- of the type and all that it contains
unfoldable mutual
  pub WellFormed : WgslType → Type 0
  WellFormed (plain p) = Unit {0}
  WellFormed (array element count) = WellFormed element
  WellFormed (runtime_array element) = WellFormed element
  WellFormed (struct members) = AllWellFormed members

  pub AllWellFormed : Members → Type 0
  AllWellFormed (last type align size) = AlignFits align type × SizeFits size type × WellFormed type
  AllWellFormed (member type align size rest) = AlignFits align type × SizeFits size type × WellFormed type × AllWellFormed rest

-- no @align on a member
abbrev pub NoneGiven : Option ℕ → Type 0
NoneGiven none = Unit {0}
NoneGiven (some k) = ⊥

-- nowhere in the type
unfoldable mutual
  pub Unaligned : WgslType → Type 0
  Unaligned (plain p) = Unit {0}
  Unaligned (array element count) = Unaligned element
  Unaligned (runtime_array element) = Unaligned element
  Unaligned (struct members) = AllUnaligned members

  pub AllUnaligned : Members → Type 0
  AllUnaligned (last type align size) = NoneGiven align × Unaligned type
  AllUnaligned (member type align size rest) = NoneGiven align × Unaligned type × AllUnaligned rest
