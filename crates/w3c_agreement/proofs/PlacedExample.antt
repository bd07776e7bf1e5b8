-- An arena of placements to which the theorems of PlacedAgreement apply: one that is not the standard's own and fits both spaces, and for each
-- rule one that fails; and two placements that show why HOST_SHAREABLE has to be set.
-- Assumes nothing.
use mathlib.Core.Path.{◌≡◌, refl}
use mathlib.Core.Bool.{false}
use mathlib.Core.List.{List, [], ◌∷◌}
use Prim.Native.Nat.{ℕ, zero, suc, ◌∣◌}
use native.Mathlib.Nat.{mod-eq-zero_of_dvd, dvd_of_mod-eq-zero}
use native.Mathlib.Omega.{arith}
use lib.Dec.{T}
use Rattle.ir_records.specs.Record.{Decoded, decoded, member_type, member_offset}
use Rattle.ir_records.specs.Outcome.{Accepted}
use Rattle.valid_flags.specs.Flags.{bit, data_bit, host_shareable_bit}
use Rattle.valid_type_info.specs.declared.Row.{Row}
use Rattle.valid_type_info.specs.declared.UniformRule.TheVariants.{Older}
use Rattle.valid_type_info.specs.Verdict.{least_for, ok_verdict, array_stride, struct_span, member_offset_off, member_offset_after_struct, unsized_member, non_host_shareable, is_ok}
use Rattle.valid_arena.specs.Arena.{row, arena}
use Rattle.w3c_agreement.specs.Plain.{f32, float, three, scalar, vector}
use Rattle.w3c_agreement.specs.Placed.{storage, uniform, Placed, plain, array, runtime_array, struct, PlacedMembers, last, member, type_of_member, offset_of_member, HostShareable, MembersApart, required_align_of, Constraints, IsPlaced, IsMember}
use Rattle.w3c_agreement.proofs.ExampleParts.{check, fit, below_one, below_two, below_three, below_five}
use Rattle.w3c_agreement.proofs.PlacedLaws.{struct_fits, MemberFits}
use Rattle.w3c_agreement.proofs.PlacedAgreement.{storage_placed, uniform_placed}
use Rattle.w3c_agreement.proofs.ReadLaws.{Readable, placed_read, placed_plain}
use Rattle.w3c_agreement.proofs.UniqueLaws.{placed_unique}

-- ---- the types
abbrev pub number : Placed
number = plain (scalar (float f32))

abbrev pub triple : Placed
triple = plain (vector three (float f32))

-- a: f32 at 0, b: vec3<f32> at 4
abbrev pub near_members : PlacedMembers
near_members = member number 0 (last triple 4)

-- a: vec3<f32> at 0, b: f32 at 16
abbrev short_members : PlacedMembers
short_members = member triple 0 (last number 16)

-- struct { x: f32 } of 4 bytes
abbrev pub single : Placed
single = struct (last number 0) 4

-- a: a struct of 4 bytes at 0, b: f32 at 4
abbrev pub close_members : PlacedMembers
close_members = member single 0 (last number 4)

-- a: f32 at 0, b: a struct at 4
abbrev shifted_members : PlacedMembers
shifted_members = member number 0 (last single 4)

-- a: array<vec3<f32>> at 0
abbrev pub tail_members : PlacedMembers
tail_members = last (runtime_array triple 16) 0

-- a: vec3<f32> at 16, b: f32 at 28, c: array<f32, 2> of stride 16 at 48, d: a struct at 80, e: f32 at 96
abbrev pub loose_members : PlacedMembers
loose_members = member triple 16 (member number 28 (member (array number 2 16) 48 (member single 80 (last number 96))))

-- a: f32 at 0, b: f32 at 0
abbrev overlap_members : PlacedMembers
overlap_members = member number 0 (last number 0)

-- the same, in a struct
abbrev nested_members : PlacedMembers
nested_members = last (struct overlap_members 4) 0

-- a: a struct of 4 bytes at 0, b: f32 at 16, c: f32 at 0
abbrev back_members : PlacedMembers
back_members = member single 0 (member number 16 (last number 0))

-- ---- their records
abbrev pub sheet_types : List ℕ
sheet_types =
    0 ∷ 2 ∷ 4 ∷ 0 ∷ 0 ∷ 0
    ∷ 1 ∷ 3 ∷ 2 ∷ 4 ∷ 0 ∷ 0
    ∷ 8 ∷ 0 ∷ 2 ∷ 16 ∷ 0 ∷ 0
    ∷ 7 ∷ 0 ∷ 0 ∷ 2 ∷ 6 ∷ 0
    ∷ 8 ∷ 2 ∷ 2 ∷ 20 ∷ 0 ∷ 0
    ∷ 7 ∷ 0 ∷ 0 ∷ 4 ∷ 4 ∷ 0
    ∷ 8 ∷ 4 ∷ 1 ∷ 4 ∷ 0 ∷ 0
    ∷ 8 ∷ 5 ∷ 2 ∷ 8 ∷ 0 ∷ 0
    ∷ 8 ∷ 7 ∷ 2 ∷ 8 ∷ 0 ∷ 0
    ∷ 7 ∷ 1 ∷ 1 ∷ 0 ∷ 16 ∷ 0
    ∷ 8 ∷ 9 ∷ 1 ∷ 16 ∷ 0 ∷ 0
    ∷ 7 ∷ 0 ∷ 0 ∷ 2 ∷ 16 ∷ 0
    ∷ 8 ∷ 10 ∷ 5 ∷ 112 ∷ 0 ∷ 0
    ∷ 8 ∷ 15 ∷ 2 ∷ 4 ∷ 0 ∷ 0
    ∷ 8 ∷ 17 ∷ 1 ∷ 4 ∷ 0 ∷ 0
    ∷ 8 ∷ 18 ∷ 3 ∷ 20 ∷ 0 ∷ 0 ∷ []

abbrev pub sheet_rows : List ℕ
sheet_rows =
    0 ∷ 0 ∷ 0 ∷ 0 ∷ 1 ∷ 4 ∷ 0 ∷ 0
    ∷ 1 ∷ 0 ∷ 0 ∷ 0 ∷ 0 ∷ 16 ∷ 0 ∷ 0
    ∷ 0 ∷ 0 ∷ 0 ∷ 0
    ∷ 6 ∷ 0 ∷ 0 ∷ 0 ∷ 0 ∷ 4 ∷ 0 ∷ 0
    ∷ 0 ∷ 0 ∷ 0 ∷ 0 ∷ 6 ∷ 4 ∷ 0 ∷ 0
    ∷ 9 ∷ 0 ∷ 0 ∷ 0
    ∷ 1 ∷ 16 ∷ 0 ∷ 0 ∷ 0 ∷ 28 ∷ 0 ∷ 0 ∷ 11 ∷ 48 ∷ 0 ∷ 0 ∷ 6 ∷ 80 ∷ 0 ∷ 0 ∷ 0 ∷ 96 ∷ 0 ∷ 0
    ∷ 0 ∷ 0 ∷ 0 ∷ 0 ∷ 0 ∷ 0 ∷ 0 ∷ 0
    ∷ 13 ∷ 0 ∷ 0 ∷ 0
    ∷ 6 ∷ 0 ∷ 0 ∷ 0 ∷ 0 ∷ 16 ∷ 0 ∷ 0 ∷ 0 ∷ 0 ∷ 0 ∷ 0 ∷ []

abbrev pub sheet : ℕ → Decoded
sheet = decoded sheet_types sheet_rows

-- their rows by the older uniform rule
abbrev pub sheet_row : ℕ → Row
sheet_row = row (least_for Older) 0 sheet

pub sheet_accepted : arena 0 sheet_types sheet_rows ≡ Accepted
unfolding check
sheet_accepted = refl

-- HOST_SHAREABLE is set in the row of type t
abbrev pub Set : ℕ → Type 0
Set t = T (bit (sheet_row t).flags host_shareable_bit)

-- ---- a vec3<f32> at offset 4: no multiple of 16, in storage
near_is : IsPlaced (struct near_members 16) sheet 2
unfolding fit
near_is = (
  refl,
  below_two (λ i. member_offset (sheet 2).members i ≡ offset_of_member near_members i) refl refl,
  below_two (λ i. IsMember near_members sheet i (member_type (sheet 2).members i)) refl refl,
)

near_not_storage : Constraints (struct near_members 16) storage → ⊥
unfolding fit
near_not_storage constraints = omega (arith, mod-eq-zero_of_dvd 16 (constraints.1 1 (omega arith)))

-- the row: an error of the offset (3) at member 1, offset 4, alignment 16
pub near_row : Set 2 × ((sheet_row 2).storage ≡ member_offset_off 2 1 4 16) × ((sheet_row 2).uniform ≡ member_offset_off 2 1 4 16)
unfolding check
near_row = (tt, refl, refl)

-- by the theorem the verdict is not Ok
near_verdict : T (is_ok (sheet_row 2).storage) → ⊥
near_verdict ok = near_not_storage ((storage_placed 0 sheet_types sheet_rows sheet_accepted (struct near_members 16) 2 (omega arith) near_is Older near_row.0).0.1 ok)

-- ---- array<f32, 2> of stride 6: no multiple of 4, in storage
six_is : IsPlaced (array number 2 6) sheet 3
unfolding fit
six_is = (0, refl, refl)

six_not_storage : Constraints (array number 2 6) storage → ⊥
unfolding fit
six_not_storage constraints = omega (arith, mod-eq-zero_of_dvd 4 constraints.0)

six_row : Set 3 × ((sheet_row 3).storage ≡ array_stride 3 6 4) × ((sheet_row 3).uniform ≡ array_stride 3 6 16)
unfolding check
six_row = (tt, refl, refl)

six_verdict : T (is_ok (sheet_row 3).storage) → ⊥
six_verdict ok = six_not_storage ((storage_placed 0 sheet_types sheet_rows sheet_accepted (array number 2 6) 3 (omega arith) six_is Older six_row.0).0.1 ok)

-- ---- a span of 20 where AlignOf is 16
short_is : IsPlaced (struct short_members 20) sheet 4
unfolding fit
short_is = (
  refl,
  below_two (λ i. member_offset (sheet 4).members i ≡ offset_of_member short_members i) refl refl,
  below_two (λ i. IsMember short_members sheet i (member_type (sheet 4).members i)) refl refl,
)

short_not_storage : Constraints (struct short_members 20) storage → ⊥
unfolding fit
short_not_storage constraints = omega (arith, mod-eq-zero_of_dvd 16 constraints.0)

short_row : Set 4 × ((sheet_row 4).storage ≡ struct_span 4 20 16) × ((sheet_row 4).uniform ≡ struct_span 4 20 16)
unfolding check
short_row = (tt, refl, refl)

short_verdict : T (is_ok (sheet_row 4).storage) → ⊥
short_verdict ok = short_not_storage ((storage_placed 0 sheet_types sheet_rows sheet_accepted (struct short_members 20) 4 (omega arith) short_is Older short_row.0).0.1 ok)

-- ---- array<f32, 4> of stride 4: in storage, and not in uniform
floats_is : IsPlaced (array number 4 4) sheet 5
unfolding fit
floats_is = (0, refl, refl)

floats_storage : Constraints (array number 4 4) storage
unfolding fit
floats_storage = (dvd_of_mod-eq-zero 4 refl, tt)

floats_not_uniform : Constraints (array number 4 4) uniform → ⊥
unfolding fit
floats_not_uniform constraints = omega (arith, mod-eq-zero_of_dvd 16 constraints.0.1)

floats_row : Set 5 × ((sheet_row 5).storage ≡ ok_verdict 4) × ((sheet_row 5).uniform ≡ array_stride 5 4 16)
unfolding check
floats_row = (tt, refl, refl)

floats_verdicts : T (is_ok (sheet_row 5).storage) × (T (is_ok (sheet_row 5).uniform) → ⊥)
floats_verdicts = (
  (storage_placed 0 sheet_types sheet_rows sheet_accepted (array number 4 4) 5 (omega arith) floats_is Older floats_row.0).0.0 floats_storage,
  λ ok. floats_not_uniform ((uniform_placed 0 sheet_types sheet_rows sheet_accepted (array number 4 4) 5 (omega arith) floats_is floats_row.0).0.1 ok),
)

-- ---- a struct of 4 bytes, and 4 bytes after its start the next member: in storage, and not in uniform
single_is : IsPlaced single sheet 6
unfolding fit
single_is = (
  refl,
  below_one (λ i. member_offset (sheet 6).members i ≡ 0) refl,
  below_one (λ i. IsMember (last number 0) sheet i (member_type (sheet 6).members i)) refl,
)

pub close_is : IsPlaced (struct close_members 8) sheet 7
unfolding fit
close_is = (
  refl,
  below_two (λ i. member_offset (sheet 7).members i ≡ offset_of_member close_members i) refl refl,
  below_two (λ i. IsMember close_members sheet i (member_type (sheet 7).members i)) single_is refl,
)

close_not_uniform : Constraints (struct close_members 8) uniform → ⊥
unfolding fit
close_not_uniform constraints = let d = constraints.1.1 0 1 (omega arith) (omega arith) in omega arith

pub close_row : Set 7 × ((sheet_row 7).storage ≡ ok_verdict 4) × ((sheet_row 7).uniform ≡ member_offset_after_struct 7 1 4 16)
unfolding check
close_row = (tt, refl, refl)

close_verdict : T (is_ok (sheet_row 7).uniform) → ⊥
close_verdict ok = close_not_uniform ((uniform_placed 0 sheet_types sheet_rows sheet_accepted (struct close_members 8) 7 (omega arith) close_is close_row.0).0.1 ok)

-- ---- a struct at offset 4: in storage, and not in uniform, where RequiredAlignOf is 16
shifted_is : IsPlaced (struct shifted_members 8) sheet 8
unfolding fit
shifted_is = (
  refl,
  below_two (λ i. member_offset (sheet 8).members i ≡ offset_of_member shifted_members i) refl refl,
  below_two (λ i. IsMember shifted_members sheet i (member_type (sheet 8).members i)) refl single_is,
)

shifted_not_uniform : Constraints (struct shifted_members 8) uniform → ⊥
unfolding fit
shifted_not_uniform constraints = omega (arith, mod-eq-zero_of_dvd 16 (constraints.1.0 1 (omega arith)))

shifted_row : Set 8 × ((sheet_row 8).storage ≡ ok_verdict 4) × ((sheet_row 8).uniform ≡ member_offset_off 8 1 4 16)
unfolding check
shifted_row = (tt, refl, refl)

shifted_verdict : T (is_ok (sheet_row 8).uniform) → ⊥
shifted_verdict ok = shifted_not_uniform ((uniform_placed 0 sheet_types sheet_rows sheet_accepted (struct shifted_members 8) 8 (omega arith) shifted_is shifted_row.0).0.1 ok)

-- ---- a runtime-sized member: in storage, and not in uniform
pub tail_is : IsPlaced (struct tail_members 16) sheet 10
unfolding fit
tail_is = (
  refl,
  below_one (λ i. member_offset (sheet 10).members i ≡ 0) refl,
  below_one (λ i. IsMember tail_members sheet i (member_type (sheet 10).members i)) (1, refl, refl),
)

tail_not_uniform : Constraints (struct tail_members 16) uniform → ⊥
unfolding fit
tail_not_uniform constraints = constraints.1.2 0 (omega arith)

-- the array by itself has a uniform verdict Ok
pub tail_row : Set 10 × ((sheet_row 10).storage ≡ ok_verdict 16) × ((sheet_row 10).uniform ≡ unsized_member 10 0) × ((sheet_row 9).uniform ≡ ok_verdict 16)
unfolding check
tail_row = (tt, refl, refl, refl)

tail_verdict : T (is_ok (sheet_row 10).uniform) → ⊥
tail_verdict ok = tail_not_uniform ((uniform_placed 0 sheet_types sheet_rows sheet_accepted (struct tail_members 16) 10 (omega arith) tail_is tail_row.0).0.1 ok)

-- ---- a placement that no struct without attributes has, its first member not at 0: in both spaces
pub loose_is : IsPlaced (struct loose_members 112) sheet 12
unfolding fit
loose_is = (
  refl,
  below_five (λ i. member_offset (sheet 12).members i ≡ offset_of_member loose_members i) refl refl refl refl refl,
  below_five (λ i. IsMember loose_members sheet i (member_type (sheet 12).members i)) refl refl (0, refl, refl) single_is refl,
)

-- its members are apart
loose_apart : MembersApart loose_members
unfolding fit
loose_apart zero h = omega arith
loose_apart (suc zero) h = omega arith
loose_apart (suc (suc zero)) h = omega arith
loose_apart (suc (suc (suc zero))) h = omega arith
loose_apart (suc (suc (suc (suc i)))) h = absurd (omega arith)

single_uniform : Constraints single uniform
unfolding fit
single_uniform =
    (struct_fits (last number 0) 4 uniform (λ i h. absurd (omega arith))).1
    (below_one (MemberFits (last number 0) uniform) (tt, dvd_of_mod-eq-zero 4 refl, tt, tt), dvd_of_mod-eq-zero 4 refl)

loose_uniform : Constraints (struct loose_members 112) uniform
unfolding fit
loose_uniform =
    (struct_fits loose_members 112 uniform loose_apart).1 (
      below_five (MemberFits loose_members uniform)
          (tt, dvd_of_mod-eq-zero 16 refl, tt, tt)
          (tt, dvd_of_mod-eq-zero 4 refl, tt, tt)
          (((dvd_of_mod-eq-zero 4 refl, dvd_of_mod-eq-zero 16 refl), tt), dvd_of_mod-eq-zero 16 refl, tt, tt)
          (single_uniform, dvd_of_mod-eq-zero 16 refl, tt, tt)
          (tt, dvd_of_mod-eq-zero 4 refl, omega arith, tt),
      dvd_of_mod-eq-zero 16 refl,
    )

pub loose_row : Set 12 × ((sheet_row 12).storage ≡ ok_verdict 16) × ((sheet_row 12).uniform ≡ ok_verdict 16)
unfolding check
loose_row = (tt, refl, refl)

-- by the theorem the verdict is Ok
loose_verdict : T (is_ok (sheet_row 12).uniform)
loose_verdict = (uniform_placed 0 sheet_types sheet_rows sheet_accepted (struct loose_members 112) 12 (omega arith) loose_is loose_row.0).0.0 loose_uniform

-- the records that it reaches are WGSL's, so it is read as a placed type; and as this one
loose_data : T (bit (sheet_row 12).flags data_bit)
unfolding check
loose_data = tt

loose_read : Readable sheet 12
loose_read = placed_read Older 0 sheet_types sheet_rows sheet_accepted 12 (omega arith) (λ k r. placed_plain sheet r (struct loose_members 112) loose_is) loose_data

loose_only : loose_read.0 ≡ struct loose_members 112
loose_only = placed_unique loose_read.0 (struct loose_members 112) sheet 12 loose_read.1 loose_is

-- ---- without HOST_SHAREABLE in the row the theorems fail
-- storage: two members at 0 in a struct in a struct. The storage constraints hold, and the verdict is an error of the member's type (6)
nested_is : IsPlaced (struct nested_members 4) sheet 14
unfolding fit
nested_is = (
  refl,
  below_one (λ i. member_offset (sheet 14).members i ≡ 0) refl,
  below_one (λ i. IsMember nested_members sheet i (member_type (sheet 14).members i)) (
    refl,
    below_two (λ i. member_offset (sheet 13).members i ≡ offset_of_member overlap_members i) refl refl,
    below_two (λ i. IsMember overlap_members sheet i (member_type (sheet 13).members i)) refl refl,
  ),
)

nested_storage : Constraints (struct nested_members 4) storage
unfolding fit
nested_storage = (
  dvd_of_mod-eq-zero 4 refl,
  below_one (λ i. required_align_of (type_of_member nested_members i) storage ∣ offset_of_member nested_members i) (dvd_of_mod-eq-zero 4 refl),
  (
    dvd_of_mod-eq-zero 4 refl,
    below_two (λ i. required_align_of (type_of_member overlap_members i) storage ∣ offset_of_member overlap_members i) (dvd_of_mod-eq-zero 4 refl) (dvd_of_mod-eq-zero 4 refl),
    (tt, tt),
  ),
)

nested_shareable : HostShareable (struct nested_members 4)
unfolding HostShareable
nested_shareable = (tt, tt)

nested_row : (bit (sheet_row 14).flags host_shareable_bit ≡ false) × ((sheet_row 14).storage ≡ non_host_shareable 13)
unfolding check
nested_row = (refl, refl)

-- uniform: the distance rule looks at the next member only. From a to c there are 0 bytes where 16 are asked, and the verdict is Ok
back_is : IsPlaced (struct back_members 20) sheet 15
unfolding fit
back_is = (
  refl,
  below_three (λ i. member_offset (sheet 15).members i ≡ offset_of_member back_members i) refl refl refl,
  below_three (λ i. IsMember back_members sheet i (member_type (sheet 15).members i)) single_is refl refl,
)

back_not_uniform : Constraints (struct back_members 20) uniform → ⊥
unfolding fit
back_not_uniform constraints = let d = constraints.1.1 0 2 (omega arith) (omega arith) in omega arith

back_row : (bit (sheet_row 15).flags host_shareable_bit ≡ false) × ((sheet_row 15).uniform ≡ ok_verdict 16)
unfolding check
back_row = (refl, refl)
