-- A struct whose members are measured is the standard's struct of them, as the standard places it.
-- Assumes nothing.
use mathlib.Core.Path.{◌≡◌, sym, ap, ◌∙◌}
use mathlib.Core.Bool.{Bool, true}
use mathlib.Core.List.{List, [], ◌∷◌}
use Prim.Native.Nat.{ℕ, suc, ◌+◌, ◌≤◌, ◌<◌, max}
use native.Mathlib.Omega.{arith}
use lib.ListN.{length}
use Rattle.ir_records.specs.Record.{member_offset, Decoded}
use Rattle.ir_records.specs.declared.TypeInner.TheVariants.{Struct}
use Rattle.proc_alignment.specs.Alignment.{round_up, most}
use Rattle.proc_alignment.proofs.PowerLaws.{power_positive}
use Rattle.w3c_agreement.specs.Wgsl as wgsl
use Rattle.w3c_agreement.specs.Wgsl.{max_over, offset_by}
use Rattle.w3c_agreement.specs.Placed as placed
use Rattle.w3c_agreement.specs.Placed.{IsPlaced}
use Rattle.w3c_agreement.specs.Placement.{placement, place_at}
use Rattle.w3c_agreement.proofs.PlacementLaws.{last_same, offset-same, align_power, align_member_power}
use Rattle.wgsl_placement.specs.Placement.{shape}
use Rattle.wgsl_members.specs.Members.{attributes_fit}
use Rattle.wgsl_growth.specs.Written.{Each, Written, align_of}
use Rattle.wgsl_growth.proofs.PlacingLaws.{end_from, align_from, written_power}
use Rattle.wgsl_growth.proofs.RowLaws.{rows_from, row_offset_is}
use Rattle.wgsl_placed.specs.Denoted.{Measured}
use Rattle.wgsl_placed.proofs.TreeLaws.{offset-start, max_last, AllMeasured, tree_of, tree_last, align_in, size_in, tree_offset, tree_end, tree_align, tree_formed, tree_members}

-- AlignOfMember is positive
all_positive : (types : ℕ → Decoded) (ws : List Written) → AllMeasured types ws → Each (λ w. attributes_fit w.attributes w.shape ≡ true) ws
    → Each (λ w. 1 ≤ align_of w) ws
all_positive types [] p fits = tt
all_positive types (w ∷ ws) p fits =
    let m = p.0.2 in
    (power_positive (written_power w fits.0 (rw m.align at (align_power p.0.0 m.formed))), all_positive types ws p.1 fits.1)

module _ (types : ℕ → Decoded) (number : ℕ) (w : Written) (ws : List Written) (p : AllMeasured types (w ∷ ws))
    (fits : Each (λ w. attributes_fit w.attributes w.shape ≡ true) (w ∷ ws)) where
  abbrev tree : wgsl.Members
  tree = tree_of types w ws p

  abbrev span : ℕ
  span = round_up (align_from 1 (w ∷ ws)) (end_from 0 (w ∷ ws))

  positive : (i : ℕ) → 1 ≤ align_in types w ws p i
  positive i = power_positive (align_member_power tree (tree_formed types w ws p fits) i)

  -- AlignOf(S)
  align_is : wgsl.align_of (wgsl.struct tree) ≡ align_from 1 (w ∷ ws)
  unfolding wgsl.align_of
  align_is =
      let least = max_last (align_in types w ws p) (length ws) in
      let one = positive (length ws) in
      let whole : max 1 (max_over (align_in types w ws p) (length ws)) ≡ max_over (align_in types w ws p) (length ws) = omega arith in
      ap (max_over (align_in types w ws p)) (tree_last types w ws p) ∙ sym (tree_align types w ws p 1 ∙ whole)

  -- OffsetOfMember(S, N) + SizeOfMember(S, N)
  end_is : offset_by (align_in types w ws p) (size_in types w ws p) (wgsl.last_member tree) + size_in types w ws p (wgsl.last_member tree) ≡ end_from 0 (w ∷ ws)
  end_is =
      ap (λ (n : ℕ). offset_by (align_in types w ws p) (size_in types w ws p) n + size_in types w ws p n) (tree_last types w ws p)
      ∙ ap (λ (x : ℕ). x + size_in types w ws p (length ws)) (sym (offset-start (align_in types w ws p) (size_in types w ws p) (positive 0) (length ws)))
      ∙ sym (tree_end types w ws p 0)

  -- SizeOf(S)
  size_is : wgsl.size_of (wgsl.struct tree) ≡ span
  unfolding wgsl.size_of
  size_is = ap (λ (a : ℕ). round_up a (offset_by (align_in types w ws p) (size_in types w ws p) (wgsl.last_member tree) + size_in types w ws p (wgsl.last_member tree))) align_is
      ∙ ap (λ (x : ℕ). round_up (align_from 1 (w ∷ ws)) x) end_is

  total_is : placed.member_total (place_at tree (wgsl.offset_of_member tree)) ≡ suc (length ws)
  total_is = ap (λ (n : ℕ). suc n) (last_same tree (wgsl.offset_of_member tree) ∙ tree_last types w ws p)

  offset-is : span ≤ most → (i : ℕ) → i < suc (length ws)
      → member_offset (rows_from 0 (w ∷ ws)) i ≡ placed.offset_of_member (place_at tree (wgsl.offset_of_member tree)) i
  offset-is small i h =
      row_offset_is (w ∷ ws) (all_positive types (w ∷ ws) p fits) small i h ∙ tree_offset types w ws p 0 i h
      ∙ offset-start (align_in types w ws p) (size_in types w ws p) (positive 0) i ∙ sym (offset-same tree (wgsl.offset_of_member tree) i (rw (tree_last types w ws p) h))

  pub struct_measured : (fixed : Bool) → span ≤ most → (types number).inner ≡ Struct (suc (length ws)) span → (types number).members ≡ rows_from 0 (w ∷ ws)
      → Measured types (shape number span (align_from 1 (w ∷ ws)) fixed) (wgsl.struct tree)
  unfolding IsPlaced placement wgsl.WellFormed
  struct_measured fixed small inner rows =
      record {
        is = (
          rw (total_is, size_is) inner,
          λ i h. rw rows (offset-is small i (rw total_is at h)),
          λ i h. rw rows (tree_members types w ws p (wgsl.offset_of_member tree) 0 i (rw total_is at h)),
        );
        formed = tree_formed types w ws p fits;
        size = size_is;
        align = align_is;
        fixed = λ t. tt;
      }
