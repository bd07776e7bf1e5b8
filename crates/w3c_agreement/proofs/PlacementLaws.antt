-- Laws of the standard's own placement of a WGSL type with attributes: its alignments divide the standard's, its members are apart, and the
-- constraints hold of it exactly where the standard's hold of the type.
-- Assumes nothing.
use mathlib.Core.Path.{◌≡◌, refl, ap}
use mathlib.Core.Logic.{◌↔◌}
use mathlib.Core.Option.{Option, none, some}
use Prim.Native.Nat.{ℕ, zero, suc, ◌+◌, ◌≤◌, ◌<◌, ◌∣◌, max}
use native.Mathlib.Nat.{dvd_refl, dvd-zero, dvd_trans, le_of_dvd}
use native.Mathlib.Omega.{arith}
use Rattle.proc_alignment.specs.Alignment.{Power, round_up}
use Rattle.proc_alignment.proofs.PowerLaws.{power_positive, power_divides}
use Rattle.w3c_agreement.specs.Wgsl.{WgslType, plain, array, runtime_array, struct, Members, last, member, last_member, member_total, type_of_member, max_over, given_or, align_of, align_of_member, size_of, size_of_member, stride_of, offset_by, offset_of_member, HostShareable, AllHostShareable, FixedSize, AlignFits, SizeFits, WellFormed, AllWellFormed, NoneGiven, Unaligned, AllUnaligned}
use Rattle.w3c_agreement.specs.Placed as placed
use Rattle.w3c_agreement.specs.Placed.{PlacedMembers, Space, storage, uniform, Apart, AllApart, MembersApart}
use Rattle.w3c_agreement.specs.Placement.{placement, place_at}
use Rattle.w3c_agreement.specs.Constraints.{required_align_of, StrideFits, OffsetsFit, StructDistance, DistancesFit, FixedMembers, MembersFit, Constraints, AllConstraints}
use Rattle.proc_alignment.proofs.RoundLaws.{round_up_multiple, round_up_next}
use Rattle.w3c_agreement.proofs.PlainLaws.{plain_power, largest_power, largest_same, power_sixteen, round_sixteen, multiple_both}
use Rattle.w3c_agreement.proofs.PlacedLaws as laws

-- ---- members by their number, in the type and in its placement
-- there are as many
pub last_same : (members : Members) (offset : ℕ → ℕ) → placed.last_member (place_at members offset) ≡ last_member members
unfolding placement last_member placed.last_member
last_same (last type align size) offset = refl
last_same (member type align size rest) offset = let e = last_same rest (λ i. offset (suc i)) in rw e refl

-- each has the placement of its type
type_same : (members : Members) (offset : ℕ → ℕ) (i : ℕ) → placed.type_of_member (place_at members offset) i ≡ placement (type_of_member members i)
unfolding placement type_of_member placed.type_of_member
type_same (last type align size) offset i = refl
type_same (member type align size rest) offset zero = refl
type_same (member type align size rest) offset (suc i) = type_same rest (λ i. offset (suc i)) i

-- and stands at the given offset
pub offset-same : (members : Members) (offset : ℕ → ℕ) (i : ℕ) → i < member_total members → placed.offset_of_member (place_at members offset) i ≡ offset i
unfolding placement last_member placed.offset_of_member
offset-same (last type align size) offset i h = let e : i ≡ 0 = omega arith in rw e refl
offset-same (member type align size rest) offset zero h = refl
offset-same (member type align size rest) offset (suc i) h = offset-same rest (λ i. offset (suc i)) i (omega arith)

-- each is well-formed where all are
member_formed : (members : Members) → AllWellFormed members → (i : ℕ) → WellFormed (type_of_member members i)
unfolding WellFormed type_of_member
member_formed (last type align size) formed i = formed.2
member_formed (member type align size rest) formed zero = formed.2
member_formed (member type align size rest) formed (suc i) = member_formed rest formed.3 i

-- ---- alignments are powers of two
-- with @align(k) or without it
given_power : (align : Option ℕ) (type : WgslType) → AlignFits align type → Power (align_of type) → Power (given_or align (align_of type))
given_power none type fits p = p
given_power (some k) type fits p = fits.0

mutual
  unfolding align_of WellFormed

  -- AlignOf is a power of two
  pub align_power : (type : WgslType) → WellFormed type → Power (align_of type)
  align_power (plain p) formed = plain_power p
  align_power (array element count) formed = align_power element formed
  align_power (runtime_array element) formed = align_power element formed
  align_power (struct members) formed = largest_power (align_of_member members) (λ i. align_member_power members formed i) (last_member members)

  -- AlignOfMember is a power of two
  pub align_member_power : (members : Members) → AllWellFormed members → (i : ℕ) → Power (align_of_member members i)
  align_member_power (last type align size) formed i = given_power align type formed.0 (align_power type formed.2)
  align_member_power (member type align size rest) formed zero = given_power align type formed.0 (align_power type formed.2)
  align_member_power (member type align size rest) formed (suc i) = align_member_power rest formed.3 i

-- @align(k) is a multiple of AlignOf
given_multiple : (align : Option ℕ) (type : WgslType) → AlignFits align type → align_of type ∣ given_or align (align_of type)
given_multiple none type fits = dvd_refl (align_of type)
given_multiple (some k) type fits = fits.1

-- AlignOfMember is a multiple of AlignOf of the member's type
member_multiple : (members : Members) → AllWellFormed members → (i : ℕ) → align_of (type_of_member members i) ∣ align_of_member members i
unfolding align_of WellFormed type_of_member
member_multiple (last type align size) formed i = given_multiple align type formed.0
member_multiple (member type align size rest) formed zero = given_multiple align type formed.0
member_multiple (member type align size rest) formed (suc i) = member_multiple rest formed.3 i

-- ---- the alignment of the placement
-- the largest of numbers that are at most others
largest_within : (f g : ℕ → ℕ) → ((i : ℕ) → f i ≤ g i) → (n : ℕ) → max_over f n ≤ max_over g n
unfolding max_over
largest_within f g each zero = each zero
largest_within f g each (suc n) = let h = each (suc n) in omega (arith, largest_within f g each n)

-- a multiple of a number is at least that number
given_within : (align : Option ℕ) (type : WgslType) (a : ℕ) → AlignFits align type → a ≤ align_of type → a ≤ given_or align (align_of type)
given_within none type a fits h = h
given_within (some k) type a fits h = let m = le_of_dvd (power_positive fits.0) fits.1 in omega arith

mutual
  unfolding align_of WellFormed placement placed.align_of

  -- AlignOf of the placement, which has no @align, is at most AlignOf
  align_within : (type : WgslType) → WellFormed type → placed.align_of (placement type) ≤ align_of type
  align_within (plain p) formed = omega arith
  align_within (array element count) formed = align_within element formed
  align_within (runtime_array element) formed = align_within element formed
  align_within (struct members) formed =
      rw (last_same members (offset_of_member members))
      (largest_within (placed.align_of_member (place_at members (offset_of_member members))) (align_of_member members)
      (λ i. align_member_within members formed (offset_of_member members) i) (last_member members))

  -- AlignOfMember of the placement is at most AlignOfMember
  align_member_within : (members : Members) → AllWellFormed members → (offset : ℕ → ℕ) (i : ℕ) → placed.align_of_member (place_at members offset) i ≤ align_of_member members i
  align_member_within (last type align size) formed offset i =
      given_within align type (placed.align_of (placement type)) formed.0 (align_within type formed.2)
  align_member_within (member type align size rest) formed offset zero =
      given_within align type (placed.align_of (placement type)) formed.0 (align_within type formed.2)
  align_member_within (member type align size rest) formed offset (suc i) = align_member_within rest formed.3 (λ i. offset (suc i)) i

-- so it divides AlignOf
pub align_divides : (type : WgslType) → WellFormed type → placed.align_of (placement type) ∣ align_of type
align_divides type formed =
    power_divides (placed.align_of (placement type)) (align_of type) (laws.align_power (placement type)) (align_power type formed) (align_within type formed)

-- without @align AlignOfMember is AlignOf
given_none : (align : Option ℕ) (a : ℕ) → NoneGiven align → given_or align a ≡ a
given_none none a u = refl
given_none (some k) a u = absurd u

mutual
  unfolding align_of Unaligned placement placed.align_of

  -- and is AlignOf where there is no @align
  pub align_same : (type : WgslType) → Unaligned type → placed.align_of (placement type) ≡ align_of type
  align_same (plain p) u = refl
  align_same (array element count) u = align_same element u
  align_same (runtime_array element) u = align_same element u
  align_same (struct members) u =
      rw (last_same members (offset_of_member members))
      (largest_same (placed.align_of_member (place_at members (offset_of_member members))) (align_of_member members)
      (λ i. align_member_same members u (offset_of_member members) i) (last_member members))

  -- and so it is for members
  align_member_same : (members : Members) → AllUnaligned members → (offset : ℕ → ℕ) (i : ℕ) → placed.align_of_member (place_at members offset) i ≡ align_of_member members i
  align_member_same (last type align size) u offset i = rw (given_none align (align_of type) u.0) (align_same type u.1)
  align_member_same (member type align size rest) u offset zero = rw (given_none align (align_of type) u.0) (align_same type u.1)
  align_member_same (member type align size rest) u offset (suc i) = align_member_same rest u.2 (λ i. offset (suc i)) i

-- ---- sizes and offsets
-- the placement takes SizeOf
pub size_same : (type : WgslType) → placed.size_of (placement type) ≡ size_of type
unfolding size_of placement
size_same (plain p) = refl
size_same (array element count) = refl
size_same (runtime_array element) = refl
size_same (struct members) = refl

-- k of @size(k), or SizeOf where there is none, is at least SizeOf
size_or : (size : Option ℕ) (type : WgslType) → SizeFits size type → size_of type ≤ given_or size (size_of type)
size_or none type fits = omega arith
size_or (some k) type fits = fits.0

-- SizeOfMember is at least SizeOf of the member's type
member_size : (members : Members) → AllWellFormed members → (i : ℕ) → size_of (type_of_member members i) ≤ size_of_member members i
unfolding WellFormed type_of_member size_of
member_size (last type align size) formed i = size_or size type formed.1
member_size (member type align size rest) formed zero = size_or size type formed.1
member_size (member type align size rest) formed (suc i) = member_size rest formed.3 i

-- a member starts after the bytes of the type before it
offset-after : (members : Members) → AllWellFormed members → (i : ℕ)
    → offset_of_member members i + size_of (type_of_member members i) ≤ offset_of_member members (suc i)
unfolding offset_by
offset-after members formed i =
    let next = round_up_next (align_of_member members (suc i)) (offset_of_member members i + size_of_member members i) (power_positive (align_member_power members formed (suc i))) in
    omega (arith, next.0, member_size members formed i)

-- offsets are multiples of AlignOf of the member's type
offset-multiple : (members : Members) → AllWellFormed members → (i : ℕ) → align_of (type_of_member members i) ∣ offset_of_member members i
unfolding offset_by
offset-multiple members formed zero = dvd-zero (align_of (type_of_member members 0))
offset-multiple members formed (suc i) =
    dvd_trans (align_of (type_of_member members (suc i))) (member_multiple members formed (suc i))
    (round_up_multiple (align_of_member members (suc i)) (offset_of_member members i + size_of_member members i) (power_positive (align_member_power members formed (suc i))))

-- strides are multiples of AlignOf of the element
stride_multiple : (element : WgslType) → WellFormed element → align_of element ∣ stride_of element
stride_multiple element formed = round_up_multiple (align_of element) (size_of element) (power_positive (align_power element formed))

-- SizeOf of a struct is a multiple of its AlignOf
size_multiple : (members : Members) → AllWellFormed members → align_of (struct members) ∣ size_of (struct members)
unfolding size_of WellFormed
size_multiple members formed =
    round_up_multiple (align_of (struct members)) (offset_of_member members (last_member members) + size_of_member members (last_member members))
    (power_positive (align_power (struct members) formed))

-- ---- host-shareable
mutual
  unfolding HostShareable placement placed.HostShareable

  -- the placement is host-shareable exactly where the type is
  pub shareable_same : (type : WgslType) → HostShareable type ↔ placed.HostShareable (placement type)
  shareable_same (plain p) = (λ s. s, λ s. s)
  shareable_same (array element count) = shareable_same element
  shareable_same (runtime_array element) = shareable_same element
  shareable_same (struct members) = shareable_all members (offset_of_member members)

  -- and its members where the type's are
  shareable_all : (members : Members) (offset : ℕ → ℕ) → AllHostShareable members ↔ placed.AllHostShareable (place_at members offset)
  shareable_all (last type align size) offset = shareable_same type
  shareable_all (member type align size rest) offset =
      let this = shareable_same type in
      let others = shareable_all rest (λ i. offset (suc i)) in
      (λ s. (this.0 s.0, others.0 s.1), λ s. (this.1 s.0, others.1 s.1))

-- ---- members are apart
-- those of one struct
pub members_apart : (members : Members) → AllWellFormed members → MembersApart (place_at members (offset_of_member members))
members_apart members formed i h =
    let offset = offset_of_member members in
    let l : suc i < member_total members = omega (arith, last_same members offset) in
    rw (offset-same members offset i (omega arith), offset-same members offset (suc i) l, type_same members offset i, size_same (type_of_member members i))
    (offset-after members formed i)

mutual
  unfolding WellFormed placement Apart

  -- and of all structs
  pub apart : (type : WgslType) → WellFormed type → Apart (placement type)
  apart (plain p) formed = tt
  apart (array element count) formed = apart element formed
  apart (runtime_array element) formed = apart element formed
  apart (struct members) formed = (members_apart members formed, apart_all members formed (offset_of_member members))

  -- in all members
  apart_all : (members : Members) → AllWellFormed members → (offset : ℕ → ℕ) → AllApart (place_at members offset)
  apart_all (last type align size) formed offset = apart type formed.2
  apart_all (member type align size rest) formed offset = (apart type formed.2, apart_all rest formed.3 (λ i. offset (suc i)))

-- ---- multiples of RequiredAlignOf
-- of a multiple of both AlignOf and that of the placement, roundUp(16, ..) of either asks for a multiple of 16
sixteen_same : (a b n : ℕ) → Power a → Power b → a ∣ n → b ∣ n → (round_up 16 a ∣ n) ↔ (round_up 16 b ∣ n)
sixteen_same a b n p q d e =
    let x = multiple_both a 16 n p power_sixteen in
    let y = multiple_both b 16 n q power_sixteen in
    rw (round_sixteen a p, round_sixteen b q) (λ m. y.0 (e, (x.1 m).1), λ m. x.0 (d, (y.1 m).1))

-- so it does of AlignOf and that of the placement
rounded_same : (type : WgslType) → WellFormed type → (n : ℕ) → align_of type ∣ n → (round_up 16 (align_of type) ∣ n) ↔ (round_up 16 (placed.align_of (placement type)) ∣ n)
rounded_same type formed n d =
    sixteen_same (align_of type) (placed.align_of (placement type)) n (align_power type formed) (laws.align_power (placement type)) d
    (dvd_trans (placed.align_of (placement type)) (align_divides type formed) d)

-- a multiple of AlignOf is one of RequiredAlignOf of the type exactly where it is one of that of the placement
required_same : (type : WgslType) → WellFormed type → (space : Space) (n : ℕ) → align_of type ∣ n
    → (required_align_of type space ∣ n) ↔ (placed.required_align_of (placement type) space ∣ n)
unfolding required_align_of placed.required_align_of placement
required_same type formed storage n d = (λ m. dvd_trans (placed.align_of (placement type)) (align_divides type formed) d, λ m. d)
required_same (plain p) formed uniform n d = (λ m. dvd_trans (placed.align_of (placement (plain p))) (align_divides (plain p) formed) d, λ m. d)
required_same (array element count) formed uniform n d = rounded_same (array element count) formed n d
required_same (runtime_array element) formed uniform n d = rounded_same (runtime_array element) formed n d
required_same (struct members) formed uniform n d = rounded_same (struct members) formed n d

-- roundUp(16, a) is a multiple of a
rounded_multiple : (type : WgslType) → WellFormed type → align_of type ∣ round_up 16 (align_of type)
rounded_multiple type formed =
    let p = align_power type formed in
    rw (round_sixteen (align_of type) p) ((multiple_both (align_of type) 16 (max (align_of type) 16) p power_sixteen).1 (dvd_refl (max (align_of type) 16))).0

-- RequiredAlignOf is a multiple of AlignOf
required_multiple : (type : WgslType) → WellFormed type → (space : Space) → align_of type ∣ required_align_of type space
unfolding required_align_of
required_multiple type formed storage = dvd_refl (align_of type)
required_multiple (plain p) formed uniform = dvd_refl (align_of (plain p))
required_multiple (array element count) formed uniform = rounded_multiple (array element count) formed
required_multiple (runtime_array element) formed uniform = rounded_multiple (runtime_array element) formed
required_multiple (struct members) formed uniform = rounded_multiple (struct members) formed

-- RequiredAlignOf of the placement divides it
pub required_divides : (type : WgslType) → WellFormed type → (space : Space) → placed.required_align_of (placement type) space ∣ required_align_of type space
required_divides type formed space =
    (required_same type formed space (required_align_of type space) (required_multiple type formed space)).0 (dvd_refl (required_align_of type space))

-- and is the same where there is no @align
pub required_equal : (type : WgslType) → Unaligned type → (space : Space) → placed.required_align_of (placement type) space ≡ required_align_of type space
unfolding required_align_of placed.required_align_of placement
required_equal type u storage = align_same type u
required_equal (plain p) u uniform = align_same (plain p) u
required_equal (array element count) u uniform = ap (round_up 16) (align_same (array element count) u)
required_equal (runtime_array element) u uniform = ap (round_up 16) (align_same (runtime_array element) u)
required_equal (struct members) u uniform = ap (round_up 16) (align_same (struct members) u)

-- ---- the constraints
-- a stride
stride_same : (element : WgslType) → WellFormed element → (space : Space) → StrideFits element space ↔ placed.StrideFits (placement element) (stride_of element) space
stride_same element formed storage = required_same element formed storage (stride_of element) (stride_multiple element formed)
stride_same element formed uniform =
    let r = required_same element formed uniform (stride_of element) (stride_multiple element formed) in
    (λ f. (r.0 f.0, f.1), λ f. (r.1 f.0, f.1))

-- a distance
distance_same : (type : WgslType) (start later : ℕ) → StructDistance type start later ↔ placed.StructDistance (placement type) start later
unfolding placement
distance_same (plain p) start later = (λ d. d, λ d. d)
distance_same (array element count) start later = (λ d. d, λ d. d)
distance_same (runtime_array element) start later = (λ d. d, λ d. d)
distance_same (struct members) start later = (λ d. d, λ d. d)

-- a runtime-sized array
fixed_same : (type : WgslType) → FixedSize type ↔ placed.FixedSize (placement type)
unfolding placement
fixed_same (plain p) = (λ d. d, λ d. d)
fixed_same (array element count) = (λ d. d, λ d. d)
fixed_same (runtime_array element) = (λ d. d, λ d. d)
fixed_same (struct members) = (λ d. d, λ d. d)

module _ (members : Members) (formed : AllWellFormed members) where
  -- where the members stand
  abbrev offset_in : ℕ → ℕ
  offset_in = offset_of_member members

  -- the members of the placement
  abbrev members_in : PlacedMembers
  members_in = place_at members offset_in

  -- a number of a member of the placement is one of a member of the type
  to_type : (i : ℕ) → i < placed.member_total members_in → i < member_total members
  to_type i h = omega (arith, last_same members offset_in)

  -- and back
  to_placed : (i : ℕ) → i < member_total members → i < placed.member_total members_in
  to_placed i h = omega (arith, last_same members offset_in)

  -- RequiredAlignOf at the offset of a member
  offset-required : (space : Space) (i : ℕ) → (required_align_of (type_of_member members i) space ∣ offset_in i)
      ↔ (placed.required_align_of (placement (type_of_member members i)) space ∣ offset_in i)
  offset-required space i = required_same (type_of_member members i) (member_formed members formed i) space (offset_in i) (offset-multiple members formed i)

  -- the offsets
  offsets_same : (space : Space) → OffsetsFit members space ↔ placed.OffsetsFit members_in space
  offsets_same space = (
    λ fits i h. rw (type_same members offset_in i, offset-same members offset_in i (to_type i h)) ((offset-required space i).0 (fits i (to_type i h))),
    λ fits i h. (offset-required space i).1 (rw (type_same members offset_in i, offset-same members offset_in i h) at (fits i (to_placed i h))),
  )

  -- the distances
  distances_same : DistancesFit members ↔ placed.DistancesFit members_in
  distances_same = (
    λ fits i j l h.
        let k = to_type j h in
        rw (type_same members offset_in i, offset-same members offset_in i (omega arith), offset-same members offset_in j k)
        ((distance_same (type_of_member members i) (offset_in i) (offset_in j)).0 (fits i j l k)),
    λ fits i j l h.
        (distance_same (type_of_member members i) (offset_in i) (offset_in j)).1
        (rw (type_same members offset_in i, offset-same members offset_in i (omega arith), offset-same members offset_in j h) at (fits i j l (to_placed j h))),
  )

  -- the runtime-sized members
  fixed_members_same : FixedMembers members ↔ placed.FixedMembers members_in
  fixed_members_same = (
    λ fits i h. rw (type_same members offset_in i) ((fixed_same (type_of_member members i)).0 (fits i (to_type i h))),
    λ fits i h. (fixed_same (type_of_member members i)).1 (rw (type_same members offset_in i) at (fits i (to_placed i h))),
  )

  -- all that a space asks of the members of one struct
  members_same : (space : Space) → MembersFit members space ↔ placed.MembersFit members_in space
  members_same storage = offsets_same storage
  members_same uniform = (
    λ f. ((offsets_same uniform).0 f.0, distances_same.0 f.1, fixed_members_same.0 f.2),
    λ f. ((offsets_same uniform).1 f.0, distances_same.1 f.1, fixed_members_same.1 f.2),
  )

mutual
  unfolding Constraints WellFormed placement placed.Constraints

  -- the constraints hold of the placement exactly where the standard's hold of the type
  pub constraints_same : (type : WgslType) → WellFormed type → (space : Space) → Constraints type space ↔ placed.Constraints (placement type) space
  constraints_same (plain p) formed space = (λ u. tt, λ u. tt)
  constraints_same (array element count) formed space =
      let s = stride_same element formed space in
      let e = constraints_same element formed space in
      (λ f. (s.0 f.0, e.0 f.1), λ f. (s.1 f.0, e.1 f.1))
  constraints_same (runtime_array element) formed space =
      let s = stride_same element formed space in
      let e = constraints_same element formed space in
      (λ f. (s.0 f.0, e.0 f.1), λ f. (s.1 f.0, e.1 f.1))
  constraints_same (struct members) formed space =
      let m = members_same members formed space in
      let a = all_same members formed space (offset_of_member members) in
      let d = dvd_trans (placed.align_of (placement (struct members))) (align_divides (struct members) formed) (size_multiple members formed) in
      (λ f. (d, m.0 f.0, a.0 f.1), λ f. (m.1 f.1, a.1 f.2))

  -- and those of all members
  all_same : (members : Members) → AllWellFormed members → (space : Space) (offset : ℕ → ℕ) → AllConstraints members space ↔ placed.AllConstraints (place_at members offset) space
  all_same (last type align size) formed space offset = constraints_same type formed.2 space
  all_same (member type align size rest) formed space offset =
      let e = constraints_same type formed.2 space in
      let a = all_same rest formed.3 space (λ i. offset (suc i)) in
      (λ f. (e.0 f.0, a.0 f.1), λ f. (e.1 f.0, a.1 f.1))

-- ---- storage
mutual
  unfolding Constraints required_align_of WellFormed

  -- the constraints of storage hold of the standard's own placement
  pub storage_always : (type : WgslType) → WellFormed type → Constraints type storage
  storage_always (plain p) formed = tt
  storage_always (array element count) formed = (stride_multiple element formed, storage_always element formed)
  storage_always (runtime_array element) formed = (stride_multiple element formed, storage_always element formed)
  storage_always (struct members) formed = (λ i h. offset-multiple members formed i, storage_all members formed)

  -- and of all members
  storage_all : (members : Members) → AllWellFormed members → AllConstraints members storage
  storage_all (last type align size) formed = storage_always type formed.2
  storage_all (member type align size rest) formed = (storage_always type formed.2, storage_all rest formed.3)
