-- The types of an arena that the layouter accepts measure within 32 bits, and their layouts have that size.
-- Assumes nothing.
use mathlib.Core.Path.{◌≡◌, refl, sym, ap, ◌∙◌}
use mathlib.Core.Bool.{◌&&◌}
use mathlib.Core.List.{List}
use Prim.Native.Nat.{ℕ, ◌*◌, ◌<◌}
use lib.Dec.{leb}
use Rattle.ir_records.specs.Result.{ok}
use Rattle.ir_records.specs.Record.{decoded, type_count, type_inner}
use Rattle.ir_records.specs.Fields.{record_at}
use Rattle.ir_records.specs.Table.{table, result_at, first_refusal}
use Rattle.ir_records.specs.Outcome.{Accepted}
use Rattle.ir_records.specs.declared.TypeInner.{TypeInner}
use Rattle.ir_records.specs.declared.TypeInner.TheVariants.{Plain, Array, RuntimeArray, Struct, Other}
use Rattle.ir_records.proofs.ResultLaws.{required, ok_inj}
use Rattle.ir_records.proofs.TableLaws.{also_accepted, all_ok, value_ok}
use Rattle.ir_records.proofs.RecordLaws.{record_bounds}
use Rattle.proc_type_methods.specs.TypeMethods.{most_size, size_of, try_size}
use Rattle.proc_type_alignment.specs.declared.TypeLayout.{TypeLayout}
use Rattle.proc_layouter.specs.Layouter.{no_layout, layout_step, layout_at, layout, layout_outcome}
use Rattle.proc_type_layout.proofs.AcceptedParts.{layout_parts}
use Rattle.immediates_walk.specs.Serving.{Measured}

-- a size that is accepted is the measure
measured : (inner : TypeInner) (size : ℕ) → try_size inner ≡ ok size → try_size inner ≡ ok (size_of inner)
unfolding try_size
measured (Plain leaf) size e = refl
measured (Array base count stride) size e =
    e ∙ sym (required (leb count most_size && leb (count * stride) most_size) 4 0 0 (ok (count * stride)) size e).1
measured (RuntimeArray base stride) size e = e ∙ sym (required (leb stride most_size) 4 0 0 (ok stride) size e).1
measured (Struct count span) size e = refl
measured (Other o) size e = refl

module _ (ts ms : List ℕ) (accepted : layout_outcome ts ms ≡ Accepted) where
  -- its records and its layouts are accepted
  pub accepted_parts : (first_refusal (record_at ts ms) (type_count ts) ≡ Accepted) × (first_refusal (layout_at (decoded ts ms)) (type_count ts) ≡ Accepted)
  unfolding layout_outcome
  accepted_parts = also_accepted (first_refusal (record_at ts ms) (type_count ts)) (first_refusal (layout_at (decoded ts ms)) (type_count ts)) accepted

  -- each of its types has a measure
  pub layout_measured : (i : ℕ) → i < type_count ts → Measured (type_inner ts i)
  unfolding result_at
  layout_measured i h =
      let made = all_ok (layout_at (decoded ts ms)) (type_count ts) accepted_parts.1 i h in
      let parts = layout_parts (table no_layout (layout_step (decoded ts ms)) i) i (type_inner ts i) (decoded ts ms i).members made.0 made.1 in
      record {
        bounds = record_bounds ts ms i (all_ok (record_at ts ms) (type_count ts) accepted_parts.0 i h).1;
        size = measured (type_inner ts i) made.0.size parts.0;
      }

  -- the size of its layout is that measure
  pub layout_size : (i : ℕ) → i < type_count ts → (layout (decoded ts ms) i).size ≡ size_of (type_inner ts i)
  unfolding result_at
  layout_size i h =
      let made = all_ok (layout_at (decoded ts ms)) (type_count ts) accepted_parts.1 i h in
      let parts = layout_parts (table no_layout (layout_step (decoded ts ms)) i) i (type_inner ts i) (decoded ts ms i).members made.0 made.1 in
      ap (λ (l : TypeLayout). l.size) (value_ok no_layout (layout_step (decoded ts ms)) i made.0 made.1) ∙ ok_inj (sym parts.0 ∙ (layout_measured i h).size)
