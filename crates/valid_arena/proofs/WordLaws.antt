-- The words that the check leaves where it accepts: the rows of the types, by their definition.
-- Assumes nothing.
use mathlib.Core.Path.{◌≡◌, ◌∙◌}
use mathlib.Core.Bool.{Bool, true, false}
use mathlib.Core.List.{List}
use Prim.Native.Nat.{ℕ, ◌+◌, ◌*◌, ◌<◌}
use native.Mathlib.Omega.{arith}
use lib.ListN.{get_or, drop, get_or-append}
use Rattle.ir_records.specs.Result.{pick}
use Rattle.ir_records.specs.Record.{type_count, decoded}
use Rattle.ir_records.specs.Fields.{row_words}
use Rattle.ir_records.specs.Table.{flat}
use Rattle.ir_records.specs.Outcome.{Outcome}
use Rattle.ir_records.specs.Outcome.{Accepted, Refused}
use Rattle.ir_records.proofs.TableLaws.{flat_length, flat_word}
use Rattle.ir_rows.specs.Rows.{row_word}
use Rattle.proc_layouter.specs.LentRows.{rows_after}
use Rattle.valid_type_info.specs.TypeInfo.{words_of, rows_in}
use Rattle.valid_type_info.specs.declared.UniformRule.{UniformRule}
use Rattle.valid_type_info.specs.Verdict.{least_for}
use Rattle.valid_arena.specs.Arena.{row, row_at, arena_rows, arena_outcome, arena_fits, arena_answer, arena_words}
use Rattle.valid_arena.proofs.JudgeRows.{row_length}

module _ (rule : UniformRule) (c : ℕ) (ts ms rows : List ℕ) (accepted : arena_answer c ts ms rows ≡ Accepted) (k j : ℕ) (h : k < type_count ts) (l : j < row_words) where
  -- word j of the row of type k
  pub word_left : row_word (arena_words rule c ts ms rows) k j ≡ get_or (row_at (least_for rule) c ts ms k) j 0
  unfolding arena_answer arena_words arena_rows
  word_left = go (arena_fits c ts ms rows) (arena_outcome c ts ms) accepted
    where
      go : (b : Bool) (o : Outcome) → pick b o (Refused 1 0 0 0) ≡ Accepted
          → row_word (pick b (rows_after o (flat (row_at (least_for rule) c ts ms) (type_count ts)) (type_count ts) rows) rows) k j ≡ get_or (row_at (least_for rule) c ts ms k) j 0
      go true Accepted q =
          let all = flat_length (row_at (least_for rule) c ts ms) row_words (λ i. row_length (row (least_for rule) c (decoded ts ms) i)) (type_count ts) in
          get_or-append (flat (row_at (least_for rule) c ts ms) (type_count ts)) (drop (type_count ts * row_words) rows) 0 (k * row_words + j) (omega (arith, all))
          ∙ flat_word (row_at (least_for rule) c ts ms) row_words (λ i. row_length (row (least_for rule) c (decoded ts ms) i)) (type_count ts) k j h l
      go true (Refused number ty member detail) q = let z : ◌≡◌ {A = ℕ} 0 1 = cc in absurd (omega arith)
      go false o q = let z : ◌≡◌ {A = ℕ} 0 1 = cc in absurd (omega arith)

-- the row of type k, read from the words
pub row_left : (rule : UniformRule) (c : ℕ) (ts ms rows : List ℕ) → arena_answer c ts ms rows ≡ Accepted → (k : ℕ) → k < type_count ts
    → rows_in (arena_words rule c ts ms rows) k ≡ row (least_for rule) c (decoded ts ms) k
unfolding rows_in words_of
row_left rule c ts ms rows accepted k h =
    let word : (j : ℕ) → j < row_words → row_word (arena_words rule c ts ms rows) k j ≡ get_or (row_at (least_for rule) c ts ms k) j 0 =
    λ j l. word_left rule c ts ms rows accepted k j h l in
    λ x. record {
      size = word 0 (omega arith) x;
      alignment = word 1 (omega arith) x;
      flags = word 2 (omega arith) x;
      uniform = record { code = word 3 (omega arith) x; ty = word 4 (omega arith) x; index = word 5 (omega arith) x; value = word 6 (omega arith) x; bound = word 7 (omega arith) x };
      storage = record { code = word 8 (omega arith) x; ty = word 9 (omega arith) x; index = word 10 (omega arith) x; value = word 11 (omega arith) x; bound = word 12 (omega arith) x };
      immediates = word 13 (omega arith) x;
    }
