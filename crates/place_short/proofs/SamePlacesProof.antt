-- 02, E10: three words for each type answer and refuse as rows do.
-- Assumes nothing.
use mathlib.Core.Path.{◌≡◌, refl, sym, ap, ◌∙◌}
use mathlib.Core.Bool.{Bool, true, false, ◌&&◌}
use mathlib.Core.List.{List}
use Prim.Native.Nat.{ℕ, zero, suc, ◌+◌, ◌*◌, ◌%◌, ◌≤◌, ◌<◌}
use native.Mathlib.Nat.{le_refl}
use native.Mathlib.Omega.{arith}
use lib.Dec.{eqb, leb}
use lib.ListN.{length, get_or, drop, replicate, get_or-append, length-replicate}
use borrow.Author.Tests.{le-leb, lt-leb}
use Rattle.ir_records.specs.Result.{pick}
use Rattle.ir_records.specs.Record.{type_count, type_words, member_words, decoded}
use Rattle.ir_records.specs.Fields.{most_types, most_members, row_words, tables_fit, capabilities_known}
use Rattle.ir_records.specs.Table.{flat}
use Rattle.ir_records.specs.Outcome.{Outcome}
use Rattle.ir_records.specs.Outcome.{Accepted, Refused}
use Rattle.ir_records.proofs.ResultLaws.{true_T, T_true, and_right}
use Rattle.ir_records.proofs.RecordLaws.{tables_fitting}
use Rattle.ir_records.proofs.TableLaws.{flat_length, flat_word}
use Rattle.ir_rows.specs.Rows.{row_word, cleared}
use Rattle.proc_layouter.specs.LentRows.{rows_after}
use Rattle.valid_type_info.specs.declared.Row.{Row}
use Rattle.valid_type_info.specs.declared.UniformRule.{UniformRule}
use Rattle.valid_type_info.specs.TypeInfo.{words_of}
use Rattle.valid_type_info.specs.Verdict.{least_for}
use Rattle.valid_arena.specs.Arena.{row, row_at, arena_rows, arena_outcome, arena_fits, arena_answer, arena_words}
use Rattle.valid_arena.proofs.CommonLaws.{row_common}
use Rattle.valid_arena.proofs.JudgeRows.{row_length}
use Rattle.place_lookup.specs.Place.{start_answer, lookup_answer}
use Rattle.place_short_layout.specs.ShortRows.{short_width, short_word}
use Rattle.place_short.specs.Short.{three_at, lengths_fit, short_fits, short_answer, short_lookup, scratch_after, short_words}
use Rattle.place_short.specs.SamePlaces.{SamePlaces}
use Rattle.place_short.proofs.ShortLaws.{three_wide}

-- with three words for each type and a row for each, number 1 is the same
same_fits : (c : ℕ) (ts ms scratch rows : List ℕ) → type_count ts * short_width ≤ length scratch → type_count ts * row_words ≤ length rows
    → short_fits c ts ms scratch ≡ arena_fits c ts ms rows
unfolding lengths_fit tables_fit
same_fits c ts ms scratch rows h l =
    rw (le-leb (type_count ts * short_width) (length scratch) h, le-leb (type_count ts * row_words) (length rows) l, le-leb (type_count ts * row_words) (type_count ts * row_words) (le_refl _))
    (and_true (capabilities_known c && (eqb (length ts % type_words) 0 && leb (length ts) (most_types * type_words) && eqb (length ms % member_words) 0 && leb (length ms) (most_members * member_words) && true)))
  where
    and_true : (b : Bool) → (b && true) ≡ b
    and_true true = refl
    and_true false = refl

-- a test whose last part fails fails
last_fails : (c : ℕ) (ts ms scratch : List ℕ) → length scratch < type_count ts * short_width → short_fits c ts ms scratch ≡ false
unfolding lengths_fit
last_fails c ts ms scratch h =
    rw (lt-leb (type_count ts * short_width) (length scratch) h) (and_false (capabilities_known c && tables_fit (length ts) (length ms) (type_count ts * row_words)))
  where
    and_false : (b : Bool) → (b && false) ≡ false
    and_false true = refl
    and_false false = refl

pub same_answer : (c : ℕ) (ts ms scratch rows : List ℕ) → type_count ts * short_width ≤ length scratch → type_count ts * row_words ≤ length rows
    → short_answer c ts ms scratch ≡ arena_answer c ts ms rows
unfolding short_answer arena_answer
same_answer c ts ms scratch rows h l = ap (λ (b : Bool). pick b (arena_outcome c ts ms) (Refused 1 0 0 0)) (same_fits c ts ms scratch rows h l)

-- ---- the words of type t
module _ (rule : UniformRule) (c : ℕ) (ts ms : List ℕ) (t j : ℕ) (h : t < type_count ts) (l : j < short_width) where
  -- word j of its three and of its row
  same_word : (k : ℕ) → k < short_width → get_or (three_at c ts ms t) k 0 ≡ get_or (row_at (least_for rule) c ts ms t) k 0
  unfolding words_of
  same_word zero g = ap (λ (r : Row). r.size) (sym (row_common (least_for rule) c (decoded ts ms) t))
  same_word (suc zero) g = ap (λ (r : Row). r.alignment) (sym (row_common (least_for rule) c (decoded ts ms) t))
  same_word (suc (suc zero)) g = ap (λ (r : Row). r.flags) (sym (row_common (least_for rule) c (decoded ts ms) t))
  same_word (suc (suc (suc k))) g = absurd (omega arith)

  module _ (scratch rows : List ℕ) where
    zeros_first : (n width : ℕ) (words : List ℕ) → t * width + j < n → get_or (cleared words n) (t * width + j) 0 ≡ 0
    zeros_first n width words g =
        get_or-append (replicate n 0) (drop n words) 0 (t * width + j) (rw (length-replicate {A = ℕ} n 0) g) ∙ zero_there n (t * width + j)
      where
        zero_there : (m k : ℕ) → ◌≡◌ {A = ℕ} (get_or (replicate m 0) k 0) 0
        zero_there zero k = refl
        zero_there (suc m) zero = refl
        zero_there (suc m) (suc k) = zero_there m k

    same_after : (o : Outcome) → short_word (scratch_after o c ts ms (type_count ts) scratch) t j ≡ row_word (rows_after o (flat (row_at (least_for rule) c ts ms) (type_count ts)) (type_count ts) rows) t j
    same_after Accepted =
        let three = flat_length (three_at c ts ms) short_width (three_wide c ts ms) (type_count ts) in
        let all = flat_length (row_at (least_for rule) c ts ms) row_words (λ i. row_length (row (least_for rule) c (decoded ts ms) i)) (type_count ts) in
        get_or-append (flat (three_at c ts ms) (type_count ts)) (drop (type_count ts * short_width) scratch) 0 (t * short_width + j) (omega (arith, three))
        ∙ flat_word (three_at c ts ms) short_width (three_wide c ts ms) (type_count ts) t j h l
        ∙ same_word j l
        ∙ sym (flat_word (row_at (least_for rule) c ts ms) row_words (λ i. row_length (row (least_for rule) c (decoded ts ms) i)) (type_count ts) t j h (omega arith))
        ∙ sym (get_or-append (flat (row_at (least_for rule) c ts ms) (type_count ts)) (drop (type_count ts * row_words) rows) 0 (t * row_words + j) (omega (arith, all)))
    same_after (Refused number ty member detail) =
        zeros_first (type_count ts * short_width) short_width scratch (omega arith) ∙ sym (zeros_first (type_count ts * row_words) row_words rows (omega arith))

-- rows that fit are a row for each type
rows_enough : (c : ℕ) (ts ms rows : List ℕ) → arena_fits c ts ms rows ≡ true → type_count ts * row_words ≤ length rows
rows_enough c ts ms rows e = (tables_fitting (length ts) (length ms) (length rows) (T_true _ (and_right (capabilities_known c) (tables_fit (length ts) (length ms) (length rows)) (true_T e)))).rows

pub same_places : SamePlaces
unfolding short_answer short_lookup lookup_answer short_words arena_words arena_rows
same_places =
    record {
      answer = λ c ts ms scratch rows start steps h l. ap (start_answer ts ms start steps) (same_answer c ts ms scratch rows h l);
      shorter = λ c ts ms scratch start steps h.
          let short = last_fails c ts ms scratch h in
          (ap (start_answer ts ms start steps) (refused_short c ts ms scratch short), rw short refl);
      words = λ rule c ts ms scratch rows t j h l long fits.
          let same = same_fits c ts ms scratch rows long (rows_enough c ts ms rows fits) ∙ fits in
          rw (fits, same) (same_after rule c ts ms t j h l scratch rows (arena_outcome c ts ms));
    }
  where
    refused_short : (c : ℕ) (ts ms scratch : List ℕ) → short_fits c ts ms scratch ≡ false → short_answer c ts ms scratch ≡ Refused 1 0 0 0
    refused_short c ts ms scratch e = ap (λ (b : Bool). pick b (arena_outcome c ts ms) (Refused 1 0 0 0)) e
