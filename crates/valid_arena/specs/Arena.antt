-- 01, 'The refusal' and 'The result row': the arena check, its answer and what it leaves in the lent rows. By 02, E4, these are also what judging
-- answers and leaves, whatever the rows hold: no word of them is read here. By 02, E8, the answer is the same for either uniform rule: it is
-- made of what their rows have in common.
-- Assumes nothing.
use Rattle.std.specs.Prelude.{Bool, ◌&&◌, List, ℕ, ◌*◌, length}
use Rattle.ir_records.specs.Result.{Result, pick}
use Rattle.ir_records.specs.Record.{Decoded, decoded, type_count}
use Rattle.ir_records.specs.Fields.{row_words, tables_fit, capabilities_known}
use Rattle.ir_records.specs.Table.{result_at, value_at, also, first_refusal, flat}
use Rattle.ir_records.specs.Outcome.{Outcome}
use Rattle.ir_records.specs.Outcome.{Refused}
use Rattle.proc_layouter.specs.LentRows.{lent_after}
use Rattle.proc_layouter.specs.Layouter.{layout, layout_outcome}
use Rattle.valid_type_info.specs.declared.Row.{Row}
use Rattle.valid_type_info.specs.declared.UniformRule.{UniformRule}
use Rattle.valid_type_info.specs.Verdict.{least_for}
use Rattle.valid_type_info.specs.TypeInfo.{empty_row, words_of}
use Rattle.valid_types.specs.ValidateType.{judge, judge_common}

-- ---- types in ascending order; `least` is the minimum alignment of uniform verdicts
abbrev pub judge_step : (least c : ℕ) (types : ℕ → Decoded) → (ℕ → Row) → ℕ → Result Row
judge_step least c types rows i = judge least c (λ k. (types k).inner) rows i (layout types i) (types i).inner (types i).members

abbrev pub judged_at : (least c : ℕ) (types : ℕ → Decoded) → ℕ → Result Row
judged_at least c types = result_at empty_row (judge_step least c types)

abbrev pub row : (least c : ℕ) (types : ℕ → Decoded) → ℕ → Row
row least c types = value_at empty_row (judge_step least c types)

-- ---- what rows by either uniform rule have in common: size, alignment, flags, storage verdict and immediates word, or the refusal
abbrev pub common_step : (c : ℕ) (types : ℕ → Decoded) → (ℕ → Row) → ℕ → Result Row
common_step c types rows i = judge_common c (λ k. (types k).inner) rows i (layout types i) (types i).inner (types i).members

abbrev pub common_at : (c : ℕ) (types : ℕ → Decoded) → ℕ → Result Row
common_at c types = result_at empty_row (common_step c types)

abbrev pub common : (c : ℕ) (types : ℕ → Decoded) → ℕ → Row
common c types = value_at empty_row (common_step c types)

-- ---- the answer: 1; then 2 and 3; then 4 to 7 over the arena; then types in order
unfoldable pub judge_outcome : (c : ℕ) (ts ms : List ℕ) → Outcome
judge_outcome c ts ms = first_refusal (common_at c (decoded ts ms)) (type_count ts)

unfoldable pub arena_outcome : (c : ℕ) (ts ms : List ℕ) → Outcome
arena_outcome c ts ms = also (layout_outcome ts ms) (judge_outcome c ts ms)

abbrev pub arena_fits : (c : ℕ) (ts ms rows : List ℕ) → Bool
arena_fits c ts ms rows = capabilities_known c && tables_fit (length ts) (length ms) (length rows)

unfoldable pub arena_answer : (c : ℕ) (ts ms rows : List ℕ) → Outcome
arena_answer c ts ms rows = pick (arena_fits c ts ms rows) (arena_outcome c ts ms) (Refused 1 0 0 0)

-- the answer where the lent rows are as long as needed: an accepted arena is one for which this is Accepted
unfoldable pub arena : (c : ℕ) (ts ms : List ℕ) → Outcome
arena c ts ms =
    pick (capabilities_known c && tables_fit (length ts) (length ms) (type_count ts * row_words)) (arena_outcome c ts ms) (Refused 1 0 0 0)

-- ---- the lent rows: fourteen words for each type by the chosen uniform rule, left by the rule of LentRows (proc_layouter)
abbrev pub row_at : (least c : ℕ) (ts ms : List ℕ) → ℕ → List ℕ
row_at least c ts ms i = words_of (row least c (decoded ts ms) i)

unfoldable pub arena_rows : (rule : UniformRule) (c : ℕ) (ts ms : List ℕ) → ℕ → List ℕ
arena_rows rule c ts ms n = flat (row_at (least_for rule) c ts ms) n

unfoldable pub arena_words : (rule : UniformRule) (c : ℕ) (ts ms rows : List ℕ) → List ℕ
arena_words rule c ts ms rows =
    lent_after (arena_fits c ts ms rows) (arena_outcome c ts ms) (arena_rows rule c ts ms (type_count ts)) (type_count ts) rows
