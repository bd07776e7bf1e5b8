-- The alignment of every laid-out type is a power of two.
-- Assumes nothing.
use mathlib.Core.Path.{◌≡◌}
use mathlib.Core.List.{List}
use Prim.Native.Nat.{ℕ, ◌<◌}
use native.Mathlib.Nat.{le_refl}
use Rattle.ir_records.specs.Result.{ok}
use Rattle.ir_records.specs.Record.{Decoded, decoded, type_count}
use Rattle.ir_records.specs.Fields.{record_at}
use Rattle.ir_records.specs.Serving.{InnerBounds}
use Rattle.ir_records.specs.Table.{first_refusal}
use Rattle.ir_records.specs.Outcome.{Accepted}
use Rattle.ir_records.proofs.TableLaws.{value_holds, all_ok, also_accepted}
use Rattle.ir_records.proofs.RecordLaws.{record_bounds}
use Rattle.proc_alignment.specs.Alignment.{Power}
use Rattle.proc_type_alignment.specs.declared.TypeLayout.{TypeLayout}
use Rattle.proc_layouter.specs.Layouter.{no_layout, layout_step, layout_at, layout, layout_outcome}
use Rattle.proc_type_alignment.proofs.AlignmentPower.{alignment_power}
use Rattle.proc_type_layout.proofs.AcceptedParts.{layout_parts}

-- where the fields of the first n types are within their bounds and they have layouts, the alignment of each is a power of two
pub layout_power : (types : ℕ → Decoded) (n : ℕ) → ((i : ℕ) → i < n → InnerBounds (types i).inner) → first_refusal (layout_at types) n ≡ Accepted
    → (i : ℕ) → i < n → Power (layout types i).alignment
layout_power types n bounds accepted =
    value_holds no_layout (layout_step types) n (λ (l : TypeLayout). Power l.alignment) step (all_ok (layout_at types) n accepted) n (le_refl n)
  where
    step : (layouts : ℕ → TypeLayout) (i : ℕ) → i < n → ((k : ℕ) → k < i → Power (layouts k).alignment)
        → (l : TypeLayout) → layout_step types layouts i ≡ ok l → Power l.alignment
    step layouts i h earlier l e =
        alignment_power layouts i earlier (types i).inner (types i).members l.alignment (bounds i h)
        (layout_parts layouts i (types i).inner (types i).members l e).1

-- where the tables are accepted, the alignment of each type is a power of two
pub accepted_power : (ts ms : List ℕ) → layout_outcome ts ms ≡ Accepted → (i : ℕ) → i < type_count ts → Power (layout (decoded ts ms) i).alignment
unfolding layout_outcome
accepted_power ts ms e =
    let p = also_accepted (first_refusal (record_at ts ms) (type_count ts)) (first_refusal (layout_at (decoded ts ms)) (type_count ts)) e in
    layout_power (decoded ts ms) (type_count ts) (λ i h. record_bounds ts ms i (all_ok (record_at ts ms) (type_count ts) p.0 i h).1) p.1
