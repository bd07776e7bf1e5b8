-- 01, 'The layout': size and alignment of each type of an arena, by the layout of one (proc_type_layout: TypeLayout),
-- and what a call that lays out an arena answers and leaves in the lent rows.
-- Assumes nothing.
use Rattle.std.specs.Prelude.{List, ℕ, length}
use Rattle.ir_records.specs.Result.{Result, pick}
use Rattle.ir_records.specs.Record.{Decoded, decoded, type_count}
use Rattle.ir_records.specs.Fields.{tables_fit, record_at}
use Rattle.ir_records.specs.Table.{result_at, value_at, also, first_refusal, flat}
use Rattle.ir_records.specs.Outcome.{Outcome}
use Rattle.ir_records.specs.Outcome.{Refused}
use Rattle.ir_rows.specs.Rows.{layout_row}
use Rattle.proc_type_alignment.specs.declared.TypeLayout.{TypeLayout}
use Rattle.proc_type_layout.specs.TypeLayout.{layout_of}
use Rattle.proc_layouter.specs.LentRows.{lent_after}

-- in the place of a layout that is not made yet
abbrev pub no_layout : TypeLayout
no_layout = record { size = 0; alignment = 0 }

abbrev pub layout_step : (ℕ → Decoded) → (ℕ → TypeLayout) → ℕ → Result TypeLayout
layout_step types layouts i = layout_of layouts i (types i).inner (types i).members

-- of type i of an arena, types in ascending order
abbrev pub layout_at : (ℕ → Decoded) → ℕ → Result TypeLayout
layout_at types = result_at no_layout (layout_step types)

abbrev pub layout : (ℕ → Decoded) → ℕ → TypeLayout
layout types = value_at no_layout (layout_step types)

-- ---- the call: numbers 1, then 2 and 3, then 4 to 7
unfoldable pub layout_outcome : (ts ms : List ℕ) → Outcome
layout_outcome ts ms = also (first_refusal (record_at ts ms) (type_count ts)) (first_refusal (layout_at (decoded ts ms)) (type_count ts))

unfoldable pub layout_answer : (ts ms rows : List ℕ) → Outcome
layout_answer ts ms rows = pick (tables_fit (length ts) (length ms) (length rows)) (layout_outcome ts ms) (Refused 1 0 0 0)

-- the row of a laid-out type, and the rows of n of them
abbrev pub layout_row_at : (ts ms : List ℕ) → ℕ → List ℕ
layout_row_at ts ms i = layout_row (layout (decoded ts ms) i).size (layout (decoded ts ms) i).alignment

unfoldable pub layout_rows : (ts ms : List ℕ) → ℕ → List ℕ
layout_rows ts ms n = flat (layout_row_at ts ms) n

-- the lent rows, by the rule of LentRows
unfoldable pub layout_words : (ts ms rows : List ℕ) → List ℕ
layout_words ts ms rows =
    lent_after (tables_fit (length ts) (length ms) (length rows)) (layout_outcome ts ms) (layout_rows ts ms (type_count ts)) (type_count ts) rows
