-- The standard's own placement of a WGSL type: arrays with StrideOf, members at OffsetOfMember, structs with SizeOf for their span.
-- Assumes nothing.
use Rattle.std.specs.Prelude.{ℕ, suc}
use Rattle.ir_records.specs.Record.{Decoded}
use Rattle.w3c_agreement.specs.Wgsl.{WgslType, plain, array, runtime_array, struct, Members, last, member, size_of, stride_of, offset_of_member}
use Rattle.w3c_agreement.specs.Placed as placed
use Rattle.w3c_agreement.specs.Placed.{Placed, PlacedMembers, IsPlaced}

unfoldable mutual
  pub placement : WgslType → Placed
  placement (plain p) = placed.plain p
  placement (array element count) = placed.array (placement element) count (stride_of element)
  placement (runtime_array element) = placed.runtime_array (placement element) (stride_of element)
  placement (struct members) = placed.struct (place_at members (offset_of_member members)) (size_of (struct members))

  -- the members at the offsets that a function gives
  pub place_at : Members → (ℕ → ℕ) → PlacedMembers
  place_at (last type align size) offset = placed.last (placement type) (offset 0)
  place_at (member type align size rest) offset = placed.member (placement type) (offset 0) (place_at rest (λ i. offset (suc i)))

-- record t of an arena is this type, as the standard places it
abbrev pub IsType : WgslType → (types : ℕ → Decoded) → ℕ → Type 0
IsType type types t = IsPlaced (placement type) types t
