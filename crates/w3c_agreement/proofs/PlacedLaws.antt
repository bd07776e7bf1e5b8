-- Laws of placed types and of their constraints: members by their number, alignments are powers of two, and the constraints of a space in
-- the form in which verdicts judge them.
-- Assumes nothing.
use mathlib.Core.Path.{◌≡◌, refl}
use mathlib.Core.Logic.{◌↔◌}
use Prim.Native.Nat.{ℕ, zero, suc, ◌≤◌, ◌<◌, ◌∣◌, max}
use native.Mathlib.Decide.{ℕ_discrete}
use native.Mathlib.Omega.{arith}
use Rattle.ir_records.specs.Record.{Decoded}
use Rattle.proc_alignment.specs.Alignment.{Power, round_up}
use Rattle.proc_alignment.proofs.PowerLaws.{power_positive}
use Rattle.w3c_agreement.specs.Plain.{Plain, align_of_plain}
use Rattle.w3c_agreement.specs.Placed.{Space, storage, uniform, Placed, plain, array, runtime_array, struct, PlacedMembers, last, member, last_member, member_total, type_of_member, offset_of_member, align_of, align_of_member, HostShareable, AllHostShareable, MembersApart, Apart, AllApart, required_align_of, StrideFits, StructDistance, DistancesFit, FixedSize, Constraints, AllConstraints, IsPlaced, IsMember}
use Rattle.w3c_agreement.proofs.PlainLaws.{plain_power, largest_power, power_sixteen, rounded_power, round_sixteen, multiple_both, least_in}

-- ---- members by their number
-- AlignOfMember is AlignOf of the member's type
pub member_align : (members : PlacedMembers) (i : ℕ) → align_of_member members i ≡ align_of (type_of_member members i)
unfolding align_of type_of_member
member_align (last type offset) i = refl
member_align (member type offset rest) zero = refl
member_align (member type offset rest) (suc i) = member_align rest i

-- the record of member i is the member's type
pub member_is : (members : PlacedMembers) (types : ℕ → Decoded) (i t : ℕ) → IsMember members types i t → IsPlaced (type_of_member members i) types t
unfolding IsPlaced type_of_member
member_is (last type offset) types i t is = is
member_is (member type offset rest) types zero t is = is
member_is (member type offset rest) types (suc i) t is = member_is rest types i t is

-- the members of a host-shareable struct are host-shareable
pub member_shareable : (members : PlacedMembers) → AllHostShareable members → (i : ℕ) → HostShareable (type_of_member members i)
unfolding HostShareable type_of_member
member_shareable (last type offset) all i = all
member_shareable (member type offset rest) all zero = all.0
member_shareable (member type offset rest) all (suc i) = member_shareable rest all.1 i

-- a struct is host-shareable where each of its members is
pub shareable_members : (members : PlacedMembers) → ((i : ℕ) → i < member_total members → HostShareable (type_of_member members i)) → AllHostShareable members
unfolding HostShareable type_of_member last_member
shareable_members (last type offset) each = each 0 (omega arith)
shareable_members (member type offset rest) each = (each 0 (omega arith), shareable_members rest (λ i h. each (suc i) (omega arith)))

-- what is apart down the tree is so in each member
pub member_apart : (members : PlacedMembers) → AllApart members → (i : ℕ) → Apart (type_of_member members i)
unfolding Apart type_of_member
member_apart (last type offset) all i = all
member_apart (member type offset rest) all zero = all.0
member_apart (member type offset rest) all (suc i) = member_apart rest all.1 i

-- and back
pub apart_members : (members : PlacedMembers) → ((i : ℕ) → i < member_total members → Apart (type_of_member members i)) → AllApart members
unfolding Apart type_of_member last_member
apart_members (last type offset) each = each 0 (omega arith)
apart_members (member type offset rest) each = (each 0 (omega arith), apart_members rest (λ i h. each (suc i) (omega arith)))

-- the constraints of all members, to those of each
constraints_each : (members : PlacedMembers) (space : Space) → AllConstraints members space → (i : ℕ) → Constraints (type_of_member members i) space
unfolding Constraints type_of_member
constraints_each (last type offset) space all i = all
constraints_each (member type offset rest) space all zero = all.0
constraints_each (member type offset rest) space all (suc i) = constraints_each rest space all.1 i

-- and back
constraints_all : (members : PlacedMembers) (space : Space)
    → ((i : ℕ) → i < member_total members → Constraints (type_of_member members i) space) → AllConstraints members space
unfolding Constraints type_of_member last_member
constraints_all (last type offset) space each = each 0 (omega arith)
constraints_all (member type offset rest) space each = (each 0 (omega arith), constraints_all rest space (λ i h. each (suc i) (omega arith)))

-- offsets of members that are apart grow
pub offsets_grow : (members : PlacedMembers) → MembersApart members → (i j : ℕ) → i ≤ j → j < member_total members → offset_of_member members i ≤ offset_of_member members j
offsets_grow members apart i zero h l = let e : i ≡ 0 = omega arith in rw e (omega arith)
offsets_grow members apart i (suc j) h l = go (λ k. offsets_grow members apart i j k (omega arith)) (ℕ_discrete i (suc j))
  where
    go : (i ≤ j → offset_of_member members i ≤ offset_of_member members j) → Dec (i ≡ suc j) → offset_of_member members i ≤ offset_of_member members (suc j)
    go ih (yes e) = rw e (omega arith)
    go ih (no e) = let k = ih (omega arith) in omega (arith, apart j l)

-- ---- alignments are powers of two
mutual
  unfolding align_of

  -- AlignOf is a power of two
  pub align_power : (type : Placed) → Power (align_of type)
  align_power (plain p) = plain_power p
  align_power (array element count stride) = align_power element
  align_power (runtime_array element stride) = align_power element
  align_power (struct members span) = largest_power (align_of_member members) (λ i. align_member_power members i) (last_member members)

  -- AlignOfMember is a power of two
  align_member_power : (members : PlacedMembers) (i : ℕ) → Power (align_of_member members i)
  align_member_power (last type offset) i = align_power type
  align_member_power (member type offset rest) zero = align_power type
  align_member_power (member type offset rest) (suc i) = align_member_power rest i

-- so it is positive
pub align_positive : (type : Placed) → 1 ≤ align_of type
align_positive type = power_positive (align_power type)

-- ---- RequiredAlignOf
-- AlignOf is at least 1
least_storage : (type : Placed) → align_of type ≡ max (align_of type) 1
least_storage type = omega (arith, align_positive type)

-- and, rounded up to 16, the larger of it and 16
least_uniform : (type : Placed) → round_up 16 (align_of type) ≡ max (align_of type) 16
least_uniform type = round_sixteen (align_of type) (align_power type)

-- of an array it is AlignOf of the element, or the least of the space where that is larger
pub required_array : (element : Placed) (count stride : ℕ) (space : Space) → required_align_of (array element count stride) space ≡ max (align_of element) (least_in space)
unfolding required_align_of align_of
required_array element count stride storage = least_storage element
required_array element count stride uniform = least_uniform element

-- and so of a runtime-sized array
pub required_runtime_array : (element : Placed) (stride : ℕ) (space : Space) → required_align_of (runtime_array element stride) space ≡ max (align_of element) (least_in space)
unfolding required_align_of align_of
required_runtime_array element stride storage = least_storage element
required_runtime_array element stride uniform = least_uniform element

-- and so of a struct
pub required_struct : (members : PlacedMembers) (span : ℕ) (space : Space)
    → required_align_of (struct members span) space ≡ max (align_of (struct members span)) (least_in space)
unfolding required_align_of
required_struct members span storage = least_storage (struct members span)
required_struct members span uniform = least_uniform (struct members span)

-- of a plain type it is AlignOf
pub required_plain : (p : Plain) (space : Space) → required_align_of (plain p) space ≡ align_of_plain p
unfolding required_align_of align_of
required_plain p storage = refl
required_plain p uniform = refl

-- of every type it is AlignOf, where the least of the space is taken into both
pub required_least : (type : Placed) (space : Space) → max (required_align_of type space) (least_in space) ≡ max (align_of type) (least_in space)
unfolding required_align_of
required_least type storage = refl
required_least (plain p) uniform = refl
required_least (array element count stride) uniform = omega (arith, least_uniform (array element count stride))
required_least (runtime_array element stride) uniform = omega (arith, least_uniform (runtime_array element stride))
required_least (struct members span) uniform = omega (arith, least_uniform (struct members span))

-- it is a power of two
pub required_power : (type : Placed) (space : Space) → Power (required_align_of type space)
unfolding required_align_of
required_power type storage = align_power type
required_power (plain p) uniform = align_power (plain p)
required_power (array element count stride) uniform = rounded_power (align_of (array element count stride)) (align_power (array element count stride))
required_power (runtime_array element stride) uniform = rounded_power (align_of (runtime_array element stride)) (align_power (runtime_array element stride))
required_power (struct members span) uniform = rounded_power (align_of (struct members span)) (align_power (struct members span))

-- ---- the constraints in the form in which verdicts judge them
-- the stride of an array fits where it is a multiple of AlignOf of the element, or of the least of the space where that is larger
pub stride_fits : (element : Placed) (stride : ℕ) (space : Space) → StrideFits element stride space ↔ (max (align_of element) (least_in space) ∣ stride)
unfolding required_align_of
stride_fits element stride storage = (λ d. rw (← least_storage element) d, λ d. rw (← least_storage element) at d)
stride_fits element stride uniform =
    rw (← required_least element uniform) (multiple_both (required_align_of element uniform) 16 stride (required_power element uniform) power_sixteen)

-- from the member right before member i there is the distance that is asked
abbrev pub NextDistance : PlacedMembers → ℕ → Type 0
NextDistance members zero = Unit {0}
NextDistance members (suc i) = StructDistance (type_of_member members i) (offset_of_member members i) (offset_of_member members (suc i))

-- a distance that is kept to some member is kept to one that starts later
distance_later : (type : Placed) (start one other : ℕ) → one ≤ other → StructDistance type start one → StructDistance type start other
distance_later (plain p) start one other h d = tt
distance_later (array element count stride) start one other h d = tt
distance_later (runtime_array element stride) start one other h d = tt
distance_later (struct members span) start one other h d = omega arith

-- the distance to any later member is kept where that to the next one is, as offsets of members that are apart grow
next_suffices : (members : PlacedMembers) → MembersApart members → ((i : ℕ) → i < member_total members → NextDistance members i) → DistancesFit members
next_suffices members apart next i j h l =
    distance_later (type_of_member members i) (offset_of_member members i) (offset_of_member members (suc i)) (offset_of_member members j)
    (offsets_grow members apart (suc i) j h l) (next (suc i) (omega arith))

-- and where it is kept to any later member it is kept to the next one
any_suffices : (members : PlacedMembers) → DistancesFit members → (i : ℕ) → i < member_total members → NextDistance members i
any_suffices members any zero h = tt
any_suffices members any (suc i) h = any i (suc i) (omega arith) h

-- what a space asks of member i and of the type it has
abbrev pub MemberFits : PlacedMembers → Space → ℕ → Type 0
MemberFits members storage i =
    Constraints (type_of_member members i) storage × (required_align_of (type_of_member members i) storage ∣ offset_of_member members i)
MemberFits members uniform i =
    Constraints (type_of_member members i) uniform × (required_align_of (type_of_member members i) uniform ∣ offset_of_member members i)
    × NextDistance members i × FixedSize (type_of_member members i)

-- the constraints of a struct are that of its span and those of its members, one by one
pub struct_fits : (members : PlacedMembers) (span : ℕ) (space : Space) → MembersApart members
    → Constraints (struct members span) space
    ↔ (((i : ℕ) → i < member_total members → MemberFits members space i) × (align_of (struct members span) ∣ span))
unfolding Constraints
struct_fits members span storage apart = (
  λ fits. (λ i h. (constraints_each members storage fits.2 i, fits.1 i h), fits.0),
  λ each. (each.1, λ i h. (each.0 i h).1, constraints_all members storage (λ i h. (each.0 i h).0)),
)
struct_fits members span uniform apart = (
  λ fits. (λ i h. (constraints_each members uniform fits.2 i, fits.1.0 i h, any_suffices members fits.1.1 i h, fits.1.2 i h), fits.0),
  λ each. (
    each.1,
    (λ i h. (each.0 i h).1, next_suffices members apart (λ i h. (each.0 i h).2), λ i h. (each.0 i h).3),
    constraints_all members uniform (λ i h. (each.0 i h).0),
  ),
)
