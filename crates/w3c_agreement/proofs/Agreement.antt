-- The layouter agrees with the W3C WGSL specification: where it accepts the records of a host-shareable WGSL type as the standard places it,
-- their sizes are SizeOf and their alignments divide AlignOf, and are AlignOf where no member has @align.
-- Assumes nothing.
use mathlib.Core.Path.{◌≡◌, ◌∙◌}
use mathlib.Core.List.{List}
use Prim.Native.Nat.{ℕ, ◌<◌, ◌∣◌}
use Rattle.ir_records.specs.Record.{Decoded, decoded, type_count}
use Rattle.ir_records.specs.Fields.{record_at}
use Rattle.ir_records.specs.Table.{first_refusal}
use Rattle.ir_records.specs.Outcome.{Accepted}
use Rattle.ir_records.proofs.TableLaws.{also_accepted}
use Rattle.proc_layouter.specs.Layouter.{layout_at, layout, layout_outcome}
use Rattle.w3c_agreement.specs.Wgsl.{WgslType, align_of, size_of, HostShareable, WellFormed, Unaligned}
use Rattle.w3c_agreement.specs.Placement.{placement, IsType}
use Rattle.w3c_agreement.proofs.PlacementLaws.{size_same, align_divides, align_same, shareable_same}
use Rattle.w3c_agreement.proofs.PlacedStructLaws.{placed_layout}

-- where the first n types of an arena are accepted and record t, one of them, is a host-shareable WGSL type
module _ (types : ℕ → Decoded) (n : ℕ) (accepted : first_refusal (layout_at types) n ≡ Accepted) (type : WgslType) (shareable : HostShareable type)
    (t : ℕ) (h : t < n) (is : IsType type types t) where
  -- its size is SizeOf
  pub size_agreement : (layout types t).size ≡ size_of type
  size_agreement = (placed_layout types n accepted (placement type) ((shareable_same type).0 shareable) t h is).0 ∙ size_same type

  -- its alignment divides AlignOf, which @align may raise
  pub align_agreement : WellFormed type → (layout types t).alignment ∣ align_of type
  align_agreement formed = rw (placed_layout types n accepted (placement type) ((shareable_same type).0 shareable) t h is).1 (align_divides type formed)

  -- and is AlignOf where no member has @align
  pub unaligned_agreement : Unaligned type → (layout types t).alignment ≡ align_of type
  unaligned_agreement none = (placed_layout types n accepted (placement type) ((shareable_same type).0 shareable) t h is).1 ∙ align_same type none

-- where tables of words are accepted and record t is a host-shareable WGSL type, its layout is SizeOf, and AlignOf where no member has @align
pub tables_agreement : (ts ms : List ℕ) → layout_outcome ts ms ≡ Accepted → (type : WgslType) → HostShareable type → (t : ℕ) → t < type_count ts
    → IsType type (decoded ts ms) t
    → ((layout (decoded ts ms) t).size ≡ size_of type)
    × (WellFormed type → (layout (decoded ts ms) t).alignment ∣ align_of type)
    × (Unaligned type → (layout (decoded ts ms) t).alignment ≡ align_of type)
unfolding layout_outcome
tables_agreement ts ms e type shareable t h is =
    let laid = (also_accepted (first_refusal (record_at ts ms) (type_count ts)) (first_refusal (layout_at (decoded ts ms)) (type_count ts)) e).1 in (
      size_agreement (decoded ts ms) (type_count ts) laid type shareable t h is,
      align_agreement (decoded ts ms) (type_count ts) laid type shareable t h is,
      unaligned_agreement (decoded ts ms) (type_count ts) laid type shareable t h is,
    )
