-- The layout and the row of a type depend on the records up to that type alone.
-- Assumes nothing.
use mathlib.Core.Path.{◌≡◌, sym, ◌∙◌, ap}
use Prim.Native.Nat.{ℕ, ◌^◌, ◌<◌}
use native.Mathlib.Nat.{zero-div}
use native.Mathlib.Decide.{dec_lt}
use native.Mathlib.Omega.{arith}
use lib.Dec.{T}
use Rattle.ir_records.specs.Result.{ok, value_or}
use Rattle.ir_records.specs.Record.{Decoded}
use Rattle.ir_records.specs.Table.{table, result_at}
use Rattle.ir_records.specs.declared.TypeInner.{TypeInner}
use Rattle.ir_records.proofs.TableLaws.{table_above}
use Rattle.proc_type_alignment.specs.declared.TypeLayout.{TypeLayout}
use Rattle.proc_type_layout.specs.TypeLayout.{layout_of}
use Rattle.proc_layouter.specs.Layouter.{no_layout, layout_step, layout_at, layout}
use Rattle.proc_layouter.proofs.TableSame.{value_same, tables_agree, values_agree, results_agree}
use Rattle.valid_flags.specs.Flags.{bit, creation_resolved_bit}
use Rattle.valid_type_info.specs.declared.Row.{Row}
use Rattle.valid_type_info.specs.TypeInfo.{empty_row}
use Rattle.valid_types.specs.ValidateType.{judge}
use Rattle.valid_arena.specs.Arena.{judge_step, judged_at, row}
use Rattle.valid_types.proofs.JudgeLaws.{judge_inner}

-- what the records say
abbrev pub inner_in : (ℕ → Decoded) → ℕ → TypeInner
inner_in types k = (types k).inner

-- the rows that type i is judged by: of the types before it, and empty ones from i on
abbrev pub rows_before : (least c : ℕ) (types : ℕ → Decoded) → ℕ → ℕ → Row
rows_before least c types = table empty_row (judge_step least c types)

-- a type whose row has a flag where i is judged is an earlier type
pub flagged_earlier : (least c : ℕ) (types : ℕ → Decoded) (i k flag : ℕ) → T (bit (rows_before least c types i k).flags flag) → k < i
flagged_earlier least c types i k flag t = go (dec_lt k i)
  where
    go : Dec (k < i) → k < i
    go (yes h) = h
    go (no h) = absurd (rw (table_above empty_row (judge_step least c types) i k (omega arith), zero-div (2 ^ flag)) at t)

-- ---- two arenas whose records below n are the same
module _ (types types' : ℕ → Decoded) (n : ℕ) (same : (k : ℕ) → k < n → types k ≡ types' k) where
  -- one layout, from the same layouts before it
  layout_step_same : (g : ℕ → TypeLayout) (i : ℕ) → i < n → layout_step types g i ≡ layout_step types' g i
  layout_step_same g i h = ap (λ (d : Decoded). layout_of g i d.inner d.members) (same i h)

  -- and its value
  layout_value_same : (i : ℕ) → i < n
      → value_or no_layout (layout_step types (table no_layout (layout_step types) i) i) ≡ value_or no_layout (layout_step types' (table no_layout (layout_step types) i) i)
  layout_value_same i h = ap (value_or no_layout) (layout_step_same (table no_layout (layout_step types) i) i h)

  -- the layouts of types below n are the same
  pub layout_depends : (i : ℕ) → i < n → layout types i ≡ layout types' i
  layout_depends i h = values_agree no_layout (layout_step types) (layout_step types') i (λ k l. layout_value_same k (omega arith))

  -- and so is what is laid out, or refused
  pub layout_at_depends : (i : ℕ) → i < n → layout_at types i ≡ layout_at types' i
  unfolding result_at
  layout_at_depends i h =
      layout_step_same (table no_layout (layout_step types) i) i h
      ∙ ap (λ (t : ℕ → TypeLayout). layout_step types' t i)
      (tables_agree no_layout (layout_step types) (layout_step types') i (λ k l. layout_value_same k (omega arith)))

  module _ (least c : ℕ) where
    -- the judgement of type i, with the second arena's record and layout put for the first's
    record_same : (inner : ℕ → TypeInner) (rows : ℕ → Row) (i : ℕ) → i < n
        → judge least c inner rows i (layout types i) (types i).inner (types i).members ≡ judge least c inner rows i (layout types' i) (types' i).inner (types' i).members
    record_same inner rows i h =
        ap (λ (l : TypeLayout). judge least c inner rows i l (types i).inner (types i).members) (layout_depends i h)
        ∙ ap (λ (d : Decoded). judge least c inner rows i (layout types' i) d.inner d.members) (same i h)

    -- what the first arena accepts the second accepts, over the same rows
    forth : (i : ℕ) → i < n → (r : Row) → judge_step least c types (rows_before least c types i) i ≡ ok r → judge_step least c types' (rows_before least c types i) i ≡ ok r
    forth i h r e =
        sym (record_same (inner_in types') (rows_before least c types i) i h)
        ∙ judge_inner c (inner_in types) (inner_in types') (rows_before least c types i)
        (λ k t. let l = flagged_earlier least c types i k creation_resolved_bit t in ap (λ (d : Decoded). d.inner) (same k (omega arith)))
        least i (layout types i) (types i).inner (types i).members r e

    -- and the other way round
    back : (i : ℕ) → i < n → (r : Row) → judge_step least c types' (rows_before least c types i) i ≡ ok r → judge_step least c types (rows_before least c types i) i ≡ ok r
    back i h r e =
        judge_inner c (inner_in types') (inner_in types) (rows_before least c types i)
        (λ k t. let l = flagged_earlier least c types i k creation_resolved_bit t in ap (λ (d : Decoded). d.inner) (sym (same k (omega arith))))
        least i (layout types i) (types i).inner (types i).members r (record_same (inner_in types') (rows_before least c types i) i h ∙ e)

    -- so the rows made are the same
    value_step_same : (i : ℕ) → i < n
        → value_or empty_row (judge_step least c types (rows_before least c types i) i) ≡ value_or empty_row (judge_step least c types' (rows_before least c types i) i)
    value_step_same i h =
        value_same empty_row (judge_step least c types (rows_before least c types i) i) (judge_step least c types' (rows_before least c types i) i) (forth i h) (back i h)

    -- the rows of types below n are the same
    pub row_depends : (i : ℕ) → i < n → row least c types i ≡ row least c types' i
    row_depends i h = values_agree empty_row (judge_step least c types) (judge_step least c types') i (λ k l. value_step_same k (omega arith))

    -- and a type that is accepted in the one is accepted in the other
    pub judged_depends : (i : ℕ) → i < n → (r : Row) → judged_at least c types i ≡ ok r → judged_at least c types' i ≡ ok r
    unfolding result_at
    judged_depends i h r e =
        results_agree empty_row (judge_step least c types) (judge_step least c types') i (λ k l. value_step_same k (omega arith)) r (forth i h r e)
