-- An accepted arena agrees with the W3C WGSL specification: where record t is a WGSL type as the standard places it, HOST_SHAREABLE is set exactly
-- where the type is host-shareable, and the verdict of an address space is Ok exactly where the constraints of that space hold. Its alignment
-- divides RequiredAlignOf, and is RequiredAlignOf where no member has @align. All from PlacedAgreement, which holds of every placement.
-- Assumes nothing.
use mathlib.Core.Path.{◌≡◌, ◌∙◌}
use mathlib.Core.Logic.{◌↔◌}
use mathlib.Core.List.{List}
use Prim.Native.Nat.{ℕ, ◌<◌, ◌∣◌}
use lib.Dec.{T}
use Rattle.ir_records.specs.Record.{decoded, type_count}
use Rattle.ir_records.specs.Outcome.{Accepted}
use Rattle.valid_flags.specs.Flags.{bit, host_shareable_bit}
use Rattle.valid_type_info.specs.declared.Verdict.{Verdict}
use Rattle.valid_type_info.specs.declared.UniformRule.{UniformRule}
use Rattle.valid_type_info.specs.declared.UniformRule.TheVariants.{Older}
use Rattle.valid_type_info.specs.Verdict.{least_for, is_ok, alignment_in}
use Rattle.valid_arena.specs.Arena.{row, arena}
use Rattle.w3c_agreement.specs.Wgsl.{WgslType, HostShareable, WellFormed, Unaligned}
use Rattle.w3c_agreement.specs.Placed as placed
use Rattle.w3c_agreement.specs.Placed.{Space, storage, uniform}
use Rattle.w3c_agreement.specs.Placement.{placement, IsType}
use Rattle.w3c_agreement.specs.Constraints.{required_align_of, Constraints}
use Rattle.w3c_agreement.proofs.PlacementLaws.{apart, shareable_same, constraints_same, required_divides, required_equal, storage_always}
use Rattle.w3c_agreement.proofs.PlacedAgreement.{host_shareable_placed, storage_placed, uniform_placed}

-- the verdict of a space is Ok exactly where the constraints hold, and its alignment is then as the standard has it
pub record Agreement (type : WgslType) (space : Space) (v : Verdict) : Type 0 where
  pub ok : Constraints type space ↔ T (is_ok v)
  pub align : T (is_ok v) → alignment_in v ∣ required_align_of type space
  pub unaligned : Unaligned type → T (is_ok v) → alignment_in v ≡ required_align_of type space

-- from what holds of the placement
from_placed : (type : WgslType) → WellFormed type → (space : Space) (v : Verdict)
    → (placed.Constraints (placement type) space ↔ T (is_ok v)) × (T (is_ok v) → alignment_in v ≡ placed.required_align_of (placement type) space) → Agreement type space v
from_placed type formed space v judged =
    let same = constraints_same type formed space in
    record {
      ok = (λ c. judged.0.0 (same.0 c), λ t. same.1 (judged.0.1 t));
      align = λ t. rw (judged.1 t) (required_divides type formed space);
      unaligned = λ none t. judged.1 t ∙ required_equal type none space;
    }

-- in an accepted arena record t is a WGSL type
module _ (c : ℕ) (ts ms : List ℕ) (accepted : arena c ts ms ≡ Accepted) (type : WgslType) (formed : WellFormed type) (t : ℕ) (h : t < type_count ts)
    (is : IsType type (decoded ts ms) t) where
  -- ---- by either uniform rule
  module _ (rule : UniformRule) where
    -- HOST_SHAREABLE is set exactly where the type is host-shareable
    pub host_shareable_agreement : HostShareable type ↔ T (bit (row (least_for rule) c (decoded ts ms) t).flags host_shareable_bit)
    host_shareable_agreement =
        let m = host_shareable_placed c ts ms accepted (placement type) t h is rule in
        let s = shareable_same type in
        (λ p. m.0 (s.0 p, apart type formed), λ u. s.1 (m.1 u).0)

    module _ (shareable : HostShareable type) where
      -- the storage verdict
      pub storage_agreement : Agreement type storage (row (least_for rule) c (decoded ts ms) t).storage
      storage_agreement =
          from_placed type formed storage (row (least_for rule) c (decoded ts ms) t).storage
          (storage_placed c ts ms accepted (placement type) t h is rule (host_shareable_agreement.0 shareable))

      -- it is Ok
      pub storage-ok : T (is_ok (row (least_for rule) c (decoded ts ms) t).storage)
      storage-ok = storage_agreement.ok.0 (storage_always type formed)

  -- ---- by the older: the uniform verdict
  pub uniform_agreement : HostShareable type → Agreement type uniform (row (least_for Older) c (decoded ts ms) t).uniform
  uniform_agreement shareable =
      from_placed type formed uniform (row (least_for Older) c (decoded ts ms) t).uniform
      (uniform_placed c ts ms accepted (placement type) t h is ((host_shareable_agreement Older).0 shareable))
