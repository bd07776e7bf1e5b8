-- Judging what was judged leaves the rows as they are.
-- Assumes nothing.
use mathlib.Core.Path.{◌≡◌, refl, ap}
use mathlib.Core.Bool.{Bool, true, false}
use mathlib.Core.List.{List, ◌++◌}
use Prim.Native.Nat.{ℕ, ◌*◌, ◌≤◌}
use native.Mathlib.Omega.{arith}
use lib.ListN.{length, drop, replicate, length-append, length-drop, length-replicate}
use lib.Seq.{drop_at}
use Rattle.std.proofs.Common.{◌&&◌}
use mathlib.Core.Bool.{and-eq-true_iff}
use Rattle.ir_records.specs.Result.{pick}
use Rattle.ir_records.specs.Record.{type_count, decoded}
use Rattle.ir_records.specs.Fields.{row_words, tables_fit, capabilities_known}
use Rattle.ir_records.specs.Outcome.{Outcome}
use Rattle.ir_records.specs.Outcome.{Accepted, Refused}
use Rattle.ir_records.proofs.TableLaws.{flat_length}
use Rattle.ir_records.proofs.RecordLaws.{tables_fitting}
use Rattle.proc_layouter.specs.LentRows.{rows_after}
use Rattle.valid_type_info.specs.declared.UniformRule.{UniformRule}
use Rattle.valid_type_info.specs.Verdict.{least_for}
use Rattle.place_report.specs.Report.{report_fits, report_rows}
use Rattle.valid_arena.specs.Arena.{row, row_at, arena_outcome, arena_fits, arena_rows, arena_words}
use Rattle.valid_arena.proofs.JudgeRows.{row_length}

-- words whose first k are made anew
module _ (made words : List ℕ) (k : ℕ) (long : length made ≡ k) (room : k ≤ length words) where
  as_long : length (made ++ drop k words) ≡ length words
  as_long = omega (arith, length-append made (drop k words), length-drop k words, long, room)

  made_again : made ++ drop k (made ++ drop k words) ≡ made ++ drop k words
  made_again = ap (λ (l : List ℕ). made ++ l) (drop_at made (drop k words) k long)

record Again (o : Outcome) (made words : List ℕ) (n : ℕ) : Type 0 where
  long : length (rows_after o made n words) ≡ length words
  same : rows_after o made n (rows_after o made n words) ≡ rows_after o made n words

rows_again : (o : Outcome) (made words : List ℕ) (n : ℕ) → length made ≡ n * row_words → n * row_words ≤ length words → Again o made words n
rows_again Accepted made words n long room =
    record { long = as_long made words (n * row_words) long room; same = made_again made words (n * row_words) long room }
rows_again (Refused number ty member detail) made words n long room =
    let zeros : List ℕ = replicate (n * row_words) 0 in
    let e = length-replicate {A = ℕ} (n * row_words) 0 in
    record { long = as_long zeros words (n * row_words) e room; same = made_again zeros words (n * row_words) e room }

fitting_rows : (c t m r : ℕ) → capabilities_known c && tables_fit t m r ≡ true → tables_fit t m r ≡ true
fitting_rows c t m r h = ((and-eq-true_iff (capabilities_known c) (tables_fit t m r)).0 h).1

-- where the tables fit, so many words as before; where they do not, the same words
pub words_again : (rule : UniformRule) (c : ℕ) (ts ms words : List ℕ)
    → arena_words rule c ts ms (arena_words rule c ts ms words) ≡ arena_words rule c ts ms words
unfolding arena_words arena_rows
words_again rule c ts ms words = go (arena_fits c ts ms words) refl
  where
    o : Outcome
    o = arena_outcome c ts ms

    n : ℕ
    n = type_count ts

    go : (b : Bool) → arena_fits c ts ms words ≡ b → arena_words rule c ts ms (arena_words rule c ts ms words) ≡ arena_words rule c ts ms words
    go false e = rw (e, e)
    go true e =
        let f = tables_fitting (length ts) (length ms) (length words) (fitting_rows c (length ts) (length ms) (length words) e) in
        let made = arena_rows rule c ts ms n in
        let long = flat_length (row_at (least_for rule) c ts ms) row_words (λ i. row_length (row (least_for rule) c (decoded ts ms) i)) n in
        let a = rows_again o made words n long f.rows in
        rw (e, a.long, e) a.same

pub rows_stay : (rule : UniformRule) (c : ℕ) (ts ms words : List ℕ) (again : Bool)
    → pick again (arena_words rule c ts ms (arena_words rule c ts ms words)) (arena_words rule c ts ms words) ≡ arena_words rule c ts ms words
rows_stay rule c ts ms words true = words_again rule c ts ms words
rows_stay rule c ts ms words false = refl

pub report_stays : (rule : UniformRule) (c : ℕ) (ts ms words report : List ℕ)
    → report_rows rule c ts ms (arena_words rule c ts ms words) report ≡ arena_words rule c ts ms words
unfolding report_rows
report_stays rule c ts ms words report = rows_stay rule c ts ms words (report_fits c ts ms (arena_words rule c ts ms words) report)
