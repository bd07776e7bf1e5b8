-- What a storage verdict means: where record t is a placed type with HOST_SHAREABLE, whose strides are StrideOf and whose first members stand at 0, its
-- storage verdict is Ok exactly where the record is WGSL's: the standard's own placement of some well-formed type.
-- Assumes nothing.
use mathlib.Core.Path.{◌≡◌}
use mathlib.Core.Logic.{◌↔◌}
use mathlib.Core.List.{List}
use Prim.Native.Nat.{ℕ, ◌<◌}
use lib.Dec.{T}
use Rattle.ir_records.specs.Record.{decoded, type_count}
use Rattle.ir_records.specs.Outcome.{Accepted}
use Rattle.valid_flags.specs.Flags.{bit, host_shareable_bit}
use Rattle.valid_type_info.specs.declared.UniformRule.{UniformRule}
use Rattle.valid_type_info.specs.Verdict.{least_for, is_ok}
use Rattle.valid_arena.specs.Arena.{row, arena}
use Rattle.w3c_agreement.specs.Wgsl.{WgslType, WellFormed}
use Rattle.w3c_agreement.specs.Placed.{Placed, IsPlaced}
use Rattle.w3c_agreement.specs.Placement.{IsType}
use Rattle.w3c_agreement.specs.Written.{Standard, written}
use Rattle.w3c_agreement.proofs.PlacedAgreement.{arena_parts, reaches, host_shareable_placed, storage_placed}
use Rattle.w3c_agreement.proofs.WrittenLaws.{placement_written, formed_written}
use Rattle.w3c_agreement.proofs.ConstraintAgreement.{host_shareable_agreement, storage-ok}

-- in an accepted arena, by either uniform rule
pub storage_means : (rule : UniformRule) (c : ℕ) (ts ms : List ℕ) → arena c ts ms ≡ Accepted → (type : Placed) (t : ℕ) → t < type_count ts → IsPlaced type (decoded ts ms) t
    → T (bit (row (least_for rule) c (decoded ts ms) t).flags host_shareable_bit) → Standard type
    → T (is_ok (row (least_for rule) c (decoded ts ms) t).storage) ↔ ((w : WgslType) × WellFormed w × IsType w (decoded ts ms) t)
storage_means rule c ts ms accepted type t h is set standard = (
  λ ok.
      let p = arena_parts c ts ms accepted in
      let s = (host_shareable_placed c ts ms accepted type t h is rule).1 set in
      let fits = (storage_placed c ts ms accepted type t h is rule set).0.1 ok in
      let reach = reaches c (decoded ts ms) (type_count ts) p.0 p.1 type s.0 t h is in
      (written type, formed_written type fits s.1 reach standard, rw (placement_written type fits s.1 reach standard) is),
  λ w. storage-ok c ts ms accepted w.0 w.1 t h w.2 rule ((host_shareable_agreement c ts ms accepted w.0 w.1 t h w.2 rule).1 set),
)
