-- Serves the contracts of functions inside the library: it adds nothing to what the other files say, and a reader may skip it.
-- Assumes nothing.
use Rattle.std.specs.Prelude.{List, ℕ}
use Rattle.ir_records.specs.Result.{Result, err, ok, and_then}
use Rattle.ir_records.specs.Record.{decoded}
use Rattle.ir_records.specs.Fields.{record_at}
use Rattle.ir_rows.specs.Rows.{layout_row}
use Rattle.ir_rows.specs.Serving.{with_row}
use Rattle.proc_type_alignment.specs.declared.TypeLayout.{TypeLayout}
use Rattle.proc_layouter.specs.Layouter.{layout_at}

-- numbers 2 to 7 of type i in one, in the order of one type
abbrev pub record_then_layout : (ts ms : List ℕ) → ℕ → Result TypeLayout
record_then_layout ts ms i = and_then (record_at ts ms i) (λ _. layout_at (decoded ts ms) i)

-- what the layout of one type, to be written from `at` on, makes of the lent words
abbrev pub words_after : Result TypeLayout → (at : ℕ) → List ℕ → List ℕ
words_after (ok l) at words = with_row words at (layout_row l.size l.alignment)
words_after (err number member detail) at words = words
