-- Placements and the types that have them: what besides the constraints makes a placement one that the standard gives to some type, and that type.
-- Assumes nothing.
use Rattle.std.specs.Prelude.{◌≡◌, ℕ, ◌+◌, ◌-◌, ◌≤◌}
use Rattle.std.proofs.Math.Option.{Option, none, some}
use Rattle.proc_alignment.specs.Alignment.{round_up}
use Rattle.w3c_agreement.specs.Wgsl as wgsl
use Rattle.w3c_agreement.specs.Wgsl.{WgslType, Members}
use Rattle.w3c_agreement.specs.Placed.{Placed, plain, array, runtime_array, struct, PlacedMembers, last, member, last_member, type_of_member, offset_of_member, align_of, size_of, FixedSize}

-- ---- room: a stride is at least the element's size, in the type and all that it contains
unfoldable mutual
  pub StridesCover : Placed → Type 0
  StridesCover (plain p) = Unit {0}
  StridesCover (array element count stride) = (size_of element ≤ stride) × StridesCover element
  StridesCover (runtime_array element stride) = (size_of element ≤ stride) × StridesCover element
  StridesCover (struct members span) = AllStridesCover members

  pub AllStridesCover : PlacedMembers → Type 0
  AllStridesCover (last type offset) = StridesCover type
  AllStridesCover (member type offset rest) = StridesCover type × AllStridesCover rest

-- a span reaches to the end of the last member
unfoldable mutual
  pub SpansReach : Placed → Type 0
  SpansReach (plain p) = Unit {0}
  SpansReach (array element count stride) = SpansReach element
  SpansReach (runtime_array element stride) = SpansReach element
  SpansReach (struct members span) =
      (offset_of_member members (last_member members) + size_of (type_of_member members (last_member members)) ≤ span) × AllSpansReach members

  pub AllSpansReach : PlacedMembers → Type 0
  AllSpansReach (last type offset) = SpansReach type
  AllSpansReach (member type offset rest) = SpansReach type × AllSpansReach rest

-- ---- placements that the standard has
-- a runtime-sized last member can have no @size, so the span is SizeOf
abbrev pub TailSpan : Placed → (align end span : ℕ) → Type 0
TailSpan (plain p) align end span = Unit {0}
TailSpan (array element count stride) align end span = Unit {0}
TailSpan (runtime_array element stride) align end span = span ≡ round_up align end
TailSpan (struct members own) align end span = Unit {0}

-- a stride is StrideOf, the first member of a struct stands at 0, and only the last is runtime-sized: in the type and all that it contains
unfoldable mutual
  pub Standard : Placed → Type 0
  Standard (plain p) = Unit {0}
  Standard (array element count stride) = (stride ≡ round_up (align_of element) (size_of element)) × Standard element
  Standard (runtime_array element stride) = (stride ≡ round_up (align_of element) (size_of element)) × Standard element
  Standard (struct members span) =
      (offset_of_member members 0 ≡ 0)
      × TailSpan (type_of_member members (last_member members)) (align_of (struct members span))
      (offset_of_member members (last_member members) + size_of (type_of_member members (last_member members))) span
      × AllStandard members

  pub AllStandard : PlacedMembers → Type 0
  AllStandard (last type offset) = Standard type
  AllStandard (member type offset rest) = FixedSize type × Standard type × AllStandard rest

-- ---- the type of a placement, without attributes
unfoldable mutual
  pub bare : Placed → WgslType
  bare (plain p) = wgsl.plain p
  bare (array element count stride) = wgsl.array (bare element) count
  bare (runtime_array element stride) = wgsl.runtime_array (bare element)
  bare (struct members span) = wgsl.struct (bare_members members)

  -- of all members
  pub bare_members : PlacedMembers → Members
  bare_members (last type offset) = wgsl.last (bare type) none none
  bare_members (member type offset rest) = wgsl.member (bare type) none none (bare_members rest)

-- ---- a type that has this placement, where there is one: each member has @size(k), with k up to the start of the next member or the end of the span,
-- but for a runtime-sized last one
abbrev pub size_up_to : Placed → ℕ → Option ℕ
size_up_to (plain p) k = some k
size_up_to (array element count stride) k = some k
size_up_to (runtime_array element stride) k = none
size_up_to (struct members span) k = some k

unfoldable mutual
  pub written : Placed → WgslType
  written (plain p) = wgsl.plain p
  written (array element count stride) = wgsl.array (written element) count
  written (runtime_array element stride) = wgsl.runtime_array (written element)
  written (struct members span) = wgsl.struct (written_members members span)

  -- of all members
  pub written_members : PlacedMembers → (span : ℕ) → Members
  written_members (last type offset) span = wgsl.last (written type) none (size_up_to type (span - offset))
  written_members (member type offset rest) span = wgsl.member (written type) none (some (offset_of_member rest 0 - offset)) (written_members rest span)
