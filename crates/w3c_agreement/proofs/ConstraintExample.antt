-- Arenas to which the theorems of ConstraintAgreement apply: a type whose uniform constraints hold, and one with @align, where the arena's
-- alignments divide the standard's; that @size(k) below SizeOf cannot be allowed; and where the arena's verdicts, by the older uniform rule, and the standard differ.
-- Assumes nothing.
use mathlib.Core.Path.{◌≡◌, refl, ◌∙◌}
use mathlib.Core.Option.{none, some}
use mathlib.Core.List.{List, [], ◌∷◌}
use mathlib.Core.Bool.{false}
use Prim.Native.Nat.{ℕ, ◌∣◌}
use native.Mathlib.Nat.{mod-eq-zero_of_dvd, dvd_of_mod-eq-zero}
use native.Mathlib.Omega.{arith}
use lib.Dec.{T, lit≤}
use Rattle.ir_records.specs.Record.{decoded, member_type, member_offset}
use Rattle.ir_records.specs.Outcome.{Accepted}
use Rattle.valid_flags.specs.Flags.{bit, host_shareable_bit}
use Rattle.valid_type_info.specs.declared.UniformRule.TheVariants.{Older}
use Rattle.valid_type_info.specs.Verdict.{least_for, ok_verdict, is_ok, alignment_in}
use Rattle.valid_arena.specs.Arena.{row, arena}
use Rattle.w3c_agreement.specs.Plain.{f32, float, bool, three, four, scalar, vector}
use Rattle.w3c_agreement.specs.Wgsl.{WgslType, plain, array, struct, Members, last, member, align_of, size_of, offset_of_member, HostShareable, WellFormed, Unaligned}
use Rattle.w3c_agreement.specs.Placed as placed
use Rattle.w3c_agreement.specs.Placed.{PlacedMembers, storage, uniform}
use Rattle.w3c_agreement.specs.Placement.{placement, place_at, IsType}
use Rattle.w3c_agreement.specs.Constraints.{required_align_of, Constraints}
use Rattle.w3c_agreement.proofs.PlacedLaws.{struct_fits, MemberFits}
use Rattle.w3c_agreement.proofs.PlacementLaws.{members_apart, constraints_same}
use Rattle.w3c_agreement.proofs.ConstraintAgreement.{storage-ok, uniform_agreement}
use Rattle.w3c_agreement.proofs.ExampleParts.{check, measure, below_one, below_two, below_three}

-- the members of a struct, as the standard places them
abbrev own : Members → PlacedMembers
own members = place_at members (offset_of_member members)

-- ---- struct { a: struct { p: vec3<f32>, q: f32 }, b: array<vec4<f32>, 2>, c: f32 }: the uniform constraints hold
-- the inner struct
abbrev lamp_members : Members
lamp_members = member (plain (vector three (float f32))) none none (last (plain (scalar (float f32))) none none)

-- the struct
abbrev scene_members : Members
scene_members = member (struct lamp_members) none none (member (array (plain (vector four (float f32))) 2) none none (last (plain (scalar (float f32))) none none))

abbrev scene : WgslType
scene = struct scene_members

-- its records: f32, vec3<f32>, vec4<f32>, the inner struct, array<vec4<f32>, 2>, the struct
abbrev scene_types : List ℕ
scene_types =
    0 ∷ 2 ∷ 4 ∷ 0 ∷ 0 ∷ 0
    ∷ 1 ∷ 3 ∷ 2 ∷ 4 ∷ 0 ∷ 0
    ∷ 1 ∷ 4 ∷ 2 ∷ 4 ∷ 0 ∷ 0
    ∷ 8 ∷ 0 ∷ 2 ∷ 16 ∷ 0 ∷ 0
    ∷ 7 ∷ 2 ∷ 0 ∷ 2 ∷ 16 ∷ 0
    ∷ 8 ∷ 2 ∷ 3 ∷ 64 ∷ 0 ∷ 0 ∷ []

abbrev scene_rows : List ℕ
scene_rows = 1 ∷ 0 ∷ 0 ∷ 0 ∷ 0 ∷ 12 ∷ 0 ∷ 0 ∷ 3 ∷ 0 ∷ 0 ∷ 0 ∷ 4 ∷ 16 ∷ 0 ∷ 0 ∷ 0 ∷ 48 ∷ 0 ∷ 0 ∷ []

-- the arena is accepted
scene_accepted : arena 0 scene_types scene_rows ≡ Accepted
unfolding check
scene_accepted = refl

-- record 3 is the inner struct, record 5 the struct
lamp_is : IsType (struct lamp_members) (decoded scene_types scene_rows) 3
unfolding measure
lamp_is = (
  refl,
  below_two (λ i. member_offset (1 ∷ 0 ∷ 0 ∷ 0 ∷ 0 ∷ 12 ∷ 0 ∷ 0 ∷ []) i ≡ placed.offset_of_member (own lamp_members) i) refl refl,
  below_two (λ i. placed.IsMember (own lamp_members) (decoded scene_types scene_rows) i (member_type (1 ∷ 0 ∷ 0 ∷ 0 ∷ 0 ∷ 12 ∷ 0 ∷ 0 ∷ []) i)) refl refl,
)

scene_is : IsType scene (decoded scene_types scene_rows) 5
unfolding measure
scene_is = (
  refl,
  below_three (λ i. member_offset (3 ∷ 0 ∷ 0 ∷ 0 ∷ 4 ∷ 16 ∷ 0 ∷ 0 ∷ 0 ∷ 48 ∷ 0 ∷ 0 ∷ []) i ≡ placed.offset_of_member (own scene_members) i) refl refl refl,
  below_three (λ i. placed.IsMember (own scene_members) (decoded scene_types scene_rows) i (member_type (3 ∷ 0 ∷ 0 ∷ 0 ∷ 4 ∷ 16 ∷ 0 ∷ 0 ∷ 0 ∷ 48 ∷ 0 ∷ 0 ∷ []) i)) lamp_is (2, refl, refl) refl,
)

-- the struct is host-shareable and well-formed, and has no @align
scene_shareable : HostShareable scene
unfolding HostShareable
scene_shareable = ((tt, tt), (tt, tt))

scene_formed : WellFormed scene
unfolding WellFormed
scene_formed = (tt, tt, (tt, tt, tt, (tt, tt, tt)), (tt, tt, tt, (tt, tt, tt)))

scene_unaligned : Unaligned scene
unfolding Unaligned
scene_unaligned = (tt, (tt, tt, (tt, tt)), (tt, tt, (tt, tt)))

-- the uniform constraints hold of its placement, member by member: of the inner struct, with p at 0 and q at 12
lamp_uniform : placed.Constraints (placement (struct lamp_members)) uniform
unfolding measure WellFormed
lamp_uniform =
    (struct_fits (own lamp_members) 16 uniform (members_apart lamp_members (tt, tt, tt, (tt, tt, tt)))).1
    (below_two (MemberFits (own lamp_members) uniform) (tt, dvd_of_mod-eq-zero 16 refl, tt, tt) (tt, dvd_of_mod-eq-zero 4 refl, tt, tt), dvd_of_mod-eq-zero 16 refl)

-- and of the struct, with a at 0, b at 16 and c at 48: a is a struct of 16 bytes, and b has stride 16. So they hold of the type
scene_uniform : Constraints scene uniform
unfolding measure WellFormed
scene_uniform =
    (constraints_same scene scene_formed uniform).1
    ((struct_fits (own scene_members) 64 uniform (members_apart scene_members scene_formed)).1 (
      below_three (MemberFits (own scene_members) uniform)
          (lamp_uniform, dvd_of_mod-eq-zero 16 refl, tt, tt)
          (((dvd_of_mod-eq-zero 16 refl, dvd_of_mod-eq-zero 16 refl), tt), dvd_of_mod-eq-zero 16 refl, lit≤ tt, tt)
          (tt, dvd_of_mod-eq-zero 4 refl, tt, tt),
      dvd_of_mod-eq-zero 16 refl,
    ))

-- RequiredAlignOf(T, uniform) is 16
scene_required : required_align_of scene uniform ≡ 16
unfolding required_align_of measure
scene_required = refl

-- so by the theorem its uniform verdict is Ok, with alignment 16
scene_verdict : T (is_ok (row (least_for Older) 0 (decoded scene_types scene_rows) 5).uniform) × (alignment_in (row (least_for Older) 0 (decoded scene_types scene_rows) 5).uniform ≡ 16)
scene_verdict =
    let a = uniform_agreement 0 scene_types scene_rows scene_accepted scene scene_formed 5 (omega arith) scene_is scene_shareable in
    let ok = a.ok.0 scene_uniform in
    (ok, a.unaligned scene_unaligned ok ∙ scene_required)

-- ---- struct { @align(32) a: f32 }; struct { x: f32, s: the first }; array<the first, 2>: AlignOf is 32 for each, and the layout's alignment is 4
abbrev wide_members : Members
wide_members = last (plain (scalar (float f32))) (some 32) none

abbrev wide : WgslType
wide = struct wide_members

abbrev outer_members : Members
outer_members = member (plain (scalar (float f32))) none none (last wide none none)

abbrev outer : WgslType
outer = struct outer_members

-- its records: f32, the first struct, the second, the array; and a struct that the standard does not place so: x: f32 at 0, s: the first at 16
abbrev wide_types : List ℕ
wide_types =
    0 ∷ 2 ∷ 4 ∷ 0 ∷ 0 ∷ 0
    ∷ 8 ∷ 0 ∷ 1 ∷ 32 ∷ 0 ∷ 0
    ∷ 8 ∷ 1 ∷ 2 ∷ 64 ∷ 0 ∷ 0
    ∷ 7 ∷ 1 ∷ 0 ∷ 2 ∷ 32 ∷ 0
    ∷ 8 ∷ 3 ∷ 2 ∷ 48 ∷ 0 ∷ 0 ∷ []

abbrev wide_rows : List ℕ
wide_rows = 0 ∷ 0 ∷ 0 ∷ 0 ∷ 0 ∷ 0 ∷ 0 ∷ 0 ∷ 1 ∷ 32 ∷ 0 ∷ 0 ∷ 0 ∷ 0 ∷ 0 ∷ 0 ∷ 1 ∷ 16 ∷ 0 ∷ 0 ∷ []

wide_accepted : arena 0 wide_types wide_rows ≡ Accepted
unfolding check
wide_accepted = refl

wide_is : IsType wide (decoded wide_types wide_rows) 1
unfolding measure
wide_is = (
  refl,
  below_one (λ i. member_offset (0 ∷ 0 ∷ 0 ∷ 0 ∷ []) i ≡ placed.offset_of_member (own wide_members) i) refl,
  below_one (λ i. placed.IsMember (own wide_members) (decoded wide_types wide_rows) i (member_type (0 ∷ 0 ∷ 0 ∷ 0 ∷ []) i)) refl,
)

outer_is : IsType outer (decoded wide_types wide_rows) 2
unfolding measure
outer_is = (
  refl,
  below_two (λ i. member_offset (0 ∷ 0 ∷ 0 ∷ 0 ∷ 1 ∷ 32 ∷ 0 ∷ 0 ∷ []) i ≡ placed.offset_of_member (own outer_members) i) refl refl,
  below_two (λ i. placed.IsMember (own outer_members) (decoded wide_types wide_rows) i (member_type (0 ∷ 0 ∷ 0 ∷ 0 ∷ 1 ∷ 32 ∷ 0 ∷ 0 ∷ []) i)) refl wide_is,
)

array_is : IsType (array wide 2) (decoded wide_types wide_rows) 3
unfolding measure
array_is = (1, refl, wide_is)

-- 32 is a power of two and a multiple of 4
outer_formed : WellFormed outer
unfolding WellFormed measure
outer_formed = (tt, tt, tt, (tt, tt, ((record { exponent = 5; is = refl }, dvd_of_mod-eq-zero 4 refl), tt, tt)))

outer_shareable : HostShareable outer
unfolding HostShareable
outer_shareable = (tt, tt)

-- by the theorem the storage verdict is Ok
outer_verdict : T (is_ok (row (least_for Older) 0 (decoded wide_types wide_rows) 2).storage)
outer_verdict = storage-ok 0 wide_types wide_rows wide_accepted outer outer_formed 2 (omega arith) outer_is Older outer_shareable

-- the standard: AlignOf 32 and SizeOf 64, RequiredAlignOf 32 in both spaces
outer_standard : (align_of outer ≡ 32) × (size_of outer ≡ 64) × (required_align_of outer storage ≡ 32) × (required_align_of outer uniform ≡ 32)
unfolding measure required_align_of
outer_standard = (refl, refl, refl, refl)

-- the row: alignment 4 and size 64, storage Ok with 4, uniform Ok with 16
outer_row : ((row (least_for Older) 0 (decoded wide_types wide_rows) 2).alignment ≡ 4) × ((row (least_for Older) 0 (decoded wide_types wide_rows) 2).size ≡ 64)
    × ((row (least_for Older) 0 (decoded wide_types wide_rows) 2).storage ≡ ok_verdict 4) × ((row (least_for Older) 0 (decoded wide_types wide_rows) 2).uniform ≡ ok_verdict 16)
unfolding check
outer_row = (refl, refl, refl, refl)

-- a record has no @align: with s at 16, where the standard asks for a multiple of 32, both verdicts are Ok
shifted_row : ((row (least_for Older) 0 (decoded wide_types wide_rows) 4).storage ≡ ok_verdict 4) × ((row (least_for Older) 0 (decoded wide_types wide_rows) 4).uniform ≡ ok_verdict 16)
unfolding check
shifted_row = (refl, refl)

shifted_standard : (required_align_of wide storage ∣ 16) → ⊥
unfolding measure required_align_of
shifted_standard d = omega (arith, mod-eq-zero_of_dvd 32 d)

-- ---- struct { @align(4) a: struct { x: f32 } }: for uniform the standard refuses @align(4), as it is no multiple of RequiredAlignOf, which is 16. The
-- placement fits, with a at 0, and so do the constraints; the uniform verdict is Ok
abbrev inner_members : Members
inner_members = last (plain (scalar (float f32))) none none

abbrev low_members : Members
low_members = last (struct inner_members) (some 4) none

abbrev low_types : List ℕ
low_types = 0 ∷ 2 ∷ 4 ∷ 0 ∷ 0 ∷ 0 ∷ 8 ∷ 0 ∷ 1 ∷ 4 ∷ 0 ∷ 0 ∷ 8 ∷ 1 ∷ 1 ∷ 4 ∷ 0 ∷ 0 ∷ []

abbrev low_rows : List ℕ
low_rows = 0 ∷ 0 ∷ 0 ∷ 0 ∷ 1 ∷ 0 ∷ 0 ∷ 0 ∷ []

low_is : IsType (struct low_members) (decoded low_types low_rows) 2
unfolding measure
low_is = (
  refl,
  below_one (λ i. member_offset (1 ∷ 0 ∷ 0 ∷ 0 ∷ []) i ≡ placed.offset_of_member (own low_members) i) refl,
  below_one (λ i. placed.IsMember (own low_members) (decoded low_types low_rows) i (member_type (1 ∷ 0 ∷ 0 ∷ 0 ∷ []) i)) (
    refl,
    below_one (λ i. member_offset (0 ∷ 0 ∷ 0 ∷ 0 ∷ []) i ≡ placed.offset_of_member (own inner_members) i) refl,
    below_one (λ i. placed.IsMember (own inner_members) (decoded low_types low_rows) i (member_type (0 ∷ 0 ∷ 0 ∷ 0 ∷ []) i)) refl,
  ),
)

-- as for storage it is well-formed
low_formed : WellFormed (struct low_members)
unfolding WellFormed measure
low_formed = ((record { exponent = 2; is = refl }, dvd_of_mod-eq-zero 4 refl), tt, (tt, tt, tt))

low_refused : (required_align_of (struct inner_members) uniform ∣ 4) → ⊥
unfolding measure required_align_of
low_refused d = omega (arith, mod-eq-zero_of_dvd 16 d)

low_row : (arena 0 low_types low_rows ≡ Accepted) × ((row (least_for Older) 0 (decoded low_types low_rows) 2).uniform ≡ ok_verdict 16)
unfolding check
low_row = (refl, refl)

-- ---- struct { @size(0) a: f32, b: f32 }: without WellFormed the theorem fails, as b overlaps a and the record loses HOST_SHAREABLE
abbrev overlap_members : Members
overlap_members = member (plain (scalar (float f32))) none (some 0) (last (plain (scalar (float f32))) none none)

-- its records: f32, the struct with both members at offset 0 and span 4
abbrev overlap_types : List ℕ
overlap_types = 0 ∷ 2 ∷ 4 ∷ 0 ∷ 0 ∷ 0 ∷ 8 ∷ 0 ∷ 2 ∷ 4 ∷ 0 ∷ 0 ∷ []

abbrev overlap_rows : List ℕ
overlap_rows = 0 ∷ 0 ∷ 0 ∷ 0 ∷ 0 ∷ 0 ∷ 0 ∷ 0 ∷ []

-- record 1 is the struct
overlap_is : IsType (struct overlap_members) (decoded overlap_types overlap_rows) 1
unfolding measure
overlap_is = (
  refl,
  below_two (λ i. member_offset overlap_rows i ≡ placed.offset_of_member (own overlap_members) i) refl refl,
  below_two (λ i. placed.IsMember (own overlap_members) (decoded overlap_types overlap_rows) i (member_type overlap_rows i)) refl refl,
)

-- it is host-shareable
overlap_shareable : HostShareable (struct overlap_members)
unfolding HostShareable
overlap_shareable = (tt, tt)

-- its record is accepted without HOST_SHAREABLE
overlap_row : (arena 0 overlap_types overlap_rows ≡ Accepted) × (bit (row (least_for Older) 0 (decoded overlap_types overlap_rows) 1).flags host_shareable_bit ≡ false)
unfolding check
overlap_row = (refl, refl)

-- ---- struct { a: f32, @align(2) b: f32 } with @size(6) on a: without WellFormed b stands at 6, no multiple of AlignOf, and the storage verdict is an error
abbrev half_members : Members
half_members = member (plain (scalar (float f32))) none (some 6) (last (plain (scalar (float f32))) (some 2) none)

half_offsets : (offset_of_member half_members 1 ≡ 6) × (size_of (struct half_members) ≡ 12)
unfolding measure
half_offsets = (refl, refl)

half_row : (arena 0 (0 ∷ 2 ∷ 4 ∷ 0 ∷ 0 ∷ 0 ∷ 8 ∷ 0 ∷ 2 ∷ 12 ∷ 0 ∷ 0 ∷ []) (0 ∷ 0 ∷ 0 ∷ 0 ∷ 0 ∷ 6 ∷ 0 ∷ 0 ∷ []) ≡ Accepted)
    × (is_ok (row (least_for Older) 0 (decoded (0 ∷ 2 ∷ 4 ∷ 0 ∷ 0 ∷ 0 ∷ 8 ∷ 0 ∷ 2 ∷ 12 ∷ 0 ∷ 0 ∷ []) (0 ∷ 0 ∷ 0 ∷ 0 ∷ 0 ∷ 6 ∷ 0 ∷ 0 ∷ [])) 1).storage ≡ false)
unfolding check
half_row = (refl, refl)

-- ---- records that no WGSL text gives, and a bool
-- an array of one f32 with stride 0, below SizeOf of the element: HOST_SHAREABLE, and both verdicts Ok
abbrev stride_types : List ℕ
stride_types = 0 ∷ 2 ∷ 4 ∷ 0 ∷ 0 ∷ 0 ∷ 7 ∷ 0 ∷ 0 ∷ 1 ∷ 0 ∷ 0 ∷ []

stride_row : (arena 0 stride_types [] ≡ Accepted) × T (bit (row (least_for Older) 0 (decoded stride_types []) 1).flags host_shareable_bit)
    × ((row (least_for Older) 0 (decoded stride_types []) 1).storage ≡ ok_verdict 4) × ((row (least_for Older) 0 (decoded stride_types []) 1).uniform ≡ ok_verdict 16)
unfolding check
stride_row = (refl, tt, refl, refl)

-- a cooperative matrix of 8 by 8 f32 at offset 4 (capability bit 7): its layout alignment is 32 and its verdicts' 4, so both verdicts of the struct are Ok
abbrev cooperative_types : List ℕ
cooperative_types = 3 ∷ 8 ∷ 8 ∷ 2 ∷ 4 ∷ 0 ∷ 8 ∷ 0 ∷ 1 ∷ 288 ∷ 0 ∷ 0 ∷ []

abbrev cooperative_rows : List ℕ
cooperative_rows = 0 ∷ 4 ∷ 0 ∷ 0 ∷ []

cooperative_row : (arena 128 cooperative_types cooperative_rows ≡ Accepted) × ((row (least_for Older) 128 (decoded cooperative_types cooperative_rows) 0).alignment ≡ 32)
    × ((row (least_for Older) 128 (decoded cooperative_types cooperative_rows) 0).storage ≡ ok_verdict 4)
    × ((row (least_for Older) 128 (decoded cooperative_types cooperative_rows) 1).storage ≡ ok_verdict 4) × ((row (least_for Older) 128 (decoded cooperative_types cooperative_rows) 1).uniform ≡ ok_verdict 16)
unfolding check
cooperative_row = (refl, refl, refl, refl, refl)

-- a bool by itself has both verdicts Ok, with its width 1 for alignment where AlignOf has 4, and no HOST_SHAREABLE
abbrev bool_types : List ℕ
bool_types = 0 ∷ 3 ∷ 1 ∷ 0 ∷ 0 ∷ 0 ∷ []

bool_row : (arena 0 bool_types [] ≡ Accepted) × ((row (least_for Older) 0 (decoded bool_types []) 0).storage ≡ ok_verdict 1) × ((row (least_for Older) 0 (decoded bool_types []) 0).uniform ≡ ok_verdict 1)
    × (bit (row (least_for Older) 0 (decoded bool_types []) 0).flags host_shareable_bit ≡ false) × (required_align_of (plain (scalar bool)) uniform ≡ 4)
unfolding check measure required_align_of
bool_row = (refl, refl, refl, refl, refl)
