-- Placements of PlacedExample as types: two that the standard has, with the types that have them, one that it has not, though its verdict is Ok; and sizes
-- below SizeOf, where the storage verdict is no Ok or a stride is below the element's size.
-- Assumes nothing.
use mathlib.Core.Path.{◌≡◌, refl, subst}
use mathlib.Core.Option.{none, some}
use mathlib.Core.List.{[], ◌∷◌}
use native.Mathlib.Omega.{arith}
use lib.Dec.{T}
use Rattle.ir_records.specs.Record.{decoded}
use Rattle.ir_records.specs.Outcome.{Accepted}
use Rattle.ir_records.specs.declared.TypeInner.{TypeInner}
use Rattle.valid_type_flags.specs.TypeFlags.{is_struct}
use Rattle.valid_flags.specs.Flags.{bit, host_shareable_bit}
use Rattle.valid_type_info.specs.declared.UniformRule.TheVariants.{Older}
use Rattle.valid_type_info.specs.Verdict.{least_for, ok_verdict}
use Rattle.valid_arena.specs.Arena.{row, arena}
use Rattle.w3c_agreement.specs.Plain.{float, f32, three, scalar, vector}
use Rattle.w3c_agreement.specs.Wgsl.{WgslType, plain, array, runtime_array, struct, last, member, size_of, WellFormed}
use Rattle.w3c_agreement.specs.Placed as placed
use Rattle.w3c_agreement.specs.Placement.{IsType}
use Rattle.w3c_agreement.specs.Written.{Standard, bare, written}
use Rattle.w3c_agreement.proofs.WrittenAgreement.{storage_means}
use Rattle.w3c_agreement.proofs.ExampleParts.{check, measure}
use Rattle.w3c_agreement.proofs.PlacedExample.{number, near_members, close_members, tail_members, sheet_types, sheet_rows, sheet, sheet_row, sheet_accepted, close_is, close_row, tail_is, tail_row, loose_row}

-- ---- a: struct { x: f32 } of 4 bytes at 0, b: f32 at 4, of span 8
-- it is one of the standard's
close_standard : Standard (placed.struct close_members 8)
unfolding Standard measure
close_standard = (refl, tt, (tt, (refl, tt, tt), tt))

-- struct { @size(4) a: struct { @size(4) x: f32 }, @size(4) b: f32 }
close_written : written (placed.struct close_members 8)
    ≡ struct (member (struct (last (plain (scalar (float f32))) none (some 4))) none (some 4) (last (plain (scalar (float f32))) none (some 4)))
unfolding written measure
close_written = refl

-- by the theorem record 7 is a WGSL type, as its storage verdict is Ok
close_type : (w : WgslType) × WellFormed w × IsType w sheet 7
unfolding check
close_type = (storage_means Older 0 sheet_types sheet_rows sheet_accepted (placed.struct close_members 8) 7 (omega arith) close_is close_row.0 close_standard).0 tt

-- ---- a: array<vec3<f32>> at 0, of span 16: a runtime-sized last member has no @size
tail_standard : Standard (placed.struct tail_members 16)
unfolding Standard measure
tail_standard = (refl, refl, (refl, tt))

tail_written : written (placed.struct tail_members 16) ≡ struct (last (runtime_array (plain (vector three (float f32)))) none none)
unfolding written measure
tail_written = refl

tail_type : (w : WgslType) × WellFormed w × IsType w sheet 10
unfolding check
tail_type = (storage_means Older 0 sheet_types sheet_rows sheet_accepted (placed.struct tail_members 16) 10 (omega arith) tail_is tail_row.0 tail_standard).0 tt

-- ---- a struct whose first member stands at 16: the storage verdict is Ok, and no WGSL type is placed so
loose_ok : (sheet_row 12).storage ≡ ok_verdict 16
loose_ok = loose_row.1

-- the first member of a WGSL struct stands at 0
loose_no_type : (w : WgslType) → IsType w sheet 12 → ⊥
unfolding measure
loose_no_type (plain p) is = subst (λ (x : TypeInner). T (is_struct x)) is tt
loose_no_type (array element count) is = subst (λ (x : TypeInner). T (is_struct x)) is.1 tt
loose_no_type (runtime_array element) is = subst (λ (x : TypeInner). T (is_struct x)) is.1 tt
loose_no_type (struct (last type align size)) is = let e = is.1 0 (omega arith) in omega arith
loose_no_type (struct (member type align size rest)) is = let e = is.1 0 (omega arith) in omega arith

-- ---- sizes
-- a: f32 at 0, b: vec3<f32> at 4, of span 16: below SizeOf, which is 32; the storage verdict is no Ok
near_size : ((sheet_row 2).size ≡ 16) × (size_of (bare (placed.struct near_members 16)) ≡ 32)
unfolding check measure bare
near_size = (refl, refl)

-- array<f32, 2> of stride 0: below SizeOf, which is 8, with HOST_SHAREABLE and a storage verdict that is Ok
flat_size : (arena 0 (0 ∷ 2 ∷ 4 ∷ 0 ∷ 0 ∷ 0 ∷ 7 ∷ 0 ∷ 0 ∷ 2 ∷ 0 ∷ 0 ∷ []) [] ≡ Accepted)
    × T (bit (row (least_for Older) 0 (decoded (0 ∷ 2 ∷ 4 ∷ 0 ∷ 0 ∷ 0 ∷ 7 ∷ 0 ∷ 0 ∷ 2 ∷ 0 ∷ 0 ∷ []) []) 1).flags host_shareable_bit)
    × ((row (least_for Older) 0 (decoded (0 ∷ 2 ∷ 4 ∷ 0 ∷ 0 ∷ 0 ∷ 7 ∷ 0 ∷ 0 ∷ 2 ∷ 0 ∷ 0 ∷ []) []) 1).storage ≡ ok_verdict 4)
    × ((row (least_for Older) 0 (decoded (0 ∷ 2 ∷ 4 ∷ 0 ∷ 0 ∷ 0 ∷ 7 ∷ 0 ∷ 0 ∷ 2 ∷ 0 ∷ 0 ∷ []) []) 1).size ≡ 0) × (size_of (bare (placed.array number 2 0)) ≡ 8)
unfolding check measure bare
flat_size = (refl, tt, refl, refl, refl)
