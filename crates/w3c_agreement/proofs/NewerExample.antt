-- Placements of the sheet by the newer uniform rule: a struct of 4 bytes with the next member 4 bytes after its start, which the older refuses, fits; a struct with a
-- runtime-sized member does not.
-- Assumes nothing.
use mathlib.Core.Path.{◌≡◌, refl}
use native.Mathlib.Nat.{dvd_of_mod-eq-zero}
use native.Mathlib.Omega.{arith}
use Prim.Native.Nat.{ℕ, ◌∣◌}
use lib.Dec.{T}
use Rattle.valid_flags.specs.Flags.{bit, host_shareable_bit}
use Rattle.valid_type_info.specs.declared.Row.{Row}
use Rattle.valid_type_info.specs.declared.UniformRule.TheVariants.{Newer}
use Rattle.valid_type_info.specs.Verdict.{least_for, ok_verdict, unsized_member, is_ok}
use Rattle.valid_arena.specs.Arena.{row}
use Rattle.w3c_agreement.specs.Placed.{storage, struct, last, type_of_member, offset_of_member, FixedSize, required_align_of}
use Rattle.w3c_agreement.specs.StandardLayout.{NoneRuntime, StandardLayout}
use Rattle.w3c_agreement.proofs.ExampleParts.{check, fit, below_one, below_two}
use Rattle.w3c_agreement.proofs.PlacedExample.{number, close_members, tail_members, sheet_types, sheet_rows, sheet, sheet_accepted, close_is, tail_is}
use Rattle.w3c_agreement.proofs.NewerAgreement.{uniform_newer_placed}

-- the rows by the newer rule
abbrev newer_row : ℕ → Row
newer_row = row (least_for Newer) 0 sheet

-- ---- a: a struct of 4 bytes at 0, b: f32 at 4
close_row : T (bit (newer_row 7).flags host_shareable_bit) × ((newer_row 7).uniform ≡ ok_verdict 4) × ((newer_row 7).storage ≡ ok_verdict 4)
unfolding check
close_row = (tt, refl, refl)

close_standard : StandardLayout (struct close_members 8)
unfolding fit NoneRuntime
close_standard = (
  (
    dvd_of_mod-eq-zero 4 refl,
    below_two (λ i. required_align_of (type_of_member close_members i) storage ∣ offset_of_member close_members i) (dvd_of_mod-eq-zero 4 refl) (dvd_of_mod-eq-zero 4 refl),
    (
      (
        dvd_of_mod-eq-zero 4 refl,
        below_one (λ i. required_align_of (type_of_member (last number 0) i) storage ∣ offset_of_member (last number 0) i) (dvd_of_mod-eq-zero 4 refl),
        tt,
      ),
      tt,
    ),
  ),
  (
    below_two (λ i. FixedSize (type_of_member close_members i)) tt tt,
    ((below_one (λ i. FixedSize (type_of_member (last number 0) i)) tt, tt), tt),
  ),
)

-- by the theorem the verdict is Ok
close_verdict : T (is_ok (newer_row 7).uniform)
close_verdict = (uniform_newer_placed 0 sheet_types sheet_rows sheet_accepted (struct close_members 8) 7 (omega arith) close_is close_row.0).0.0 close_standard

-- ---- a: array<vec3<f32>> at 0; the array by itself is judged as in storage
tail_row : T (bit (newer_row 10).flags host_shareable_bit) × ((newer_row 10).uniform ≡ unsized_member 10 0) × ((newer_row 10).storage ≡ ok_verdict 16) × ((newer_row 9).uniform ≡ ok_verdict 16)
unfolding check
tail_row = (tt, refl, refl, refl)

tail_not_standard : StandardLayout (struct tail_members 16) → ⊥
unfolding fit NoneRuntime
tail_not_standard p = p.1.0 0 (omega arith)

tail_verdict : T (is_ok (newer_row 10).uniform) → ⊥
tail_verdict ok = tail_not_standard ((uniform_newer_placed 0 sheet_types sheet_rows sheet_accepted (struct tail_members 16) 10 (omega arith) tail_is tail_row.0).0.1 ok)
