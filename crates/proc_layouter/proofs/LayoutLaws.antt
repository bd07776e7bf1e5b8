-- Laws of layouts: the loop over types, the call.
-- Assumes nothing.
use mathlib.Core.Path.{◌≡◌, refl, sym, ap, fun_ext, ◌∙◌}
use mathlib.Core.Bool.{Bool, true, false}
use mathlib.Core.List.{List}
use Prim.Native.Nat.{ℕ, zero, suc, ◌+◌, ◌*◌, ◌≤◌, ◌<◌}
use native.Mathlib.Omega.{arith}
use native.Mathlib.Decide.{dec_le}
use lib.ListN.{length, get_or, take, drop, get_or-eq_default}
use Rattle.ir_records.specs.Result.{Result, ok, require, and_then}
use Rattle.ir_records.specs.Record.{decoded, member_count, type_count, type_word, type_inner, struct_members}
use Rattle.ir_records.specs.Fields.{row_words, fields_ok, base_within, sources_located, record_at}
use Rattle.ir_records.specs.Table.{table, result_at, outcome_at, also, first_refusal, flat}
use Rattle.ir_records.specs.Outcome.{Outcome}
use Rattle.ir_records.specs.Outcome.{Accepted, Refused}
use Rattle.ir_records.proofs.RefusalLaws.{IsRefused}
use Rattle.ir_records.proofs.ResultLaws.{and_then_ok}
use Rattle.ir_records.proofs.TableLaws.{table_value, table_above, value_ok, flat_length, flat_word, all_ok, accepted_all, also_accepted, outcome_accepted}
use Rattle.ir_rows.specs.Rows.{row_word, cleared}
use Rattle.ir_rows.specs.Serving.{with_row}
use Rattle.ir_rows.proofs.RowLaws.{flat_more, drop_part}
use Rattle.proc_type_alignment.specs.declared.TypeLayout.{TypeLayout}
use Rattle.proc_type_alignment.specs.Serving.{layouts_in}
use Rattle.proc_type_layout.specs.Serving.{record_layout}
use Rattle.proc_layouter.specs.LentRows.{rows_after}
use Rattle.proc_layouter.specs.Layouter.{no_layout, layout_step, layout_at, layout, layout_outcome, layout_row_at}
use Rattle.proc_layouter.specs.Serving.{record_then_layout, words_after}

-- the tests of numbers 2 and 3 and then the rest, apart or in one
all_required : (located two three : Bool) (rest : Result TypeLayout)
    → and_then (require located 2 0 0 (require two 2 0 0 (require three 3 0 0 (ok (tt {0}))))) (λ _. rest)
    ≡ require located 2 0 0 (require two 2 0 0 (require three 3 0 0 rest))
all_required true true true rest = refl
all_required true true false rest = refl
all_required true false three rest = refl
all_required false two three rest = refl

module _ (ts ms : List ℕ) where
  -- word j of the row of type k, among the rows of the first i types
  row_of : (i k j : ℕ) → k < i → j < row_words → row_word (flat (layout_row_at ts ms) i) k j ≡ get_or (layout_row_at ts ms k) j 0
  row_of i k j h l = flat_word (layout_row_at ts ms) row_words (λ m. refl) i k j h l

  row_past : (i k j : ℕ) → i ≤ k → row_word (flat (layout_row_at ts ms) i) k j ≡ 0
  row_past i k j h = get_or-eq_default (flat (layout_row_at ts ms) i) 0 (rw (flat_length (layout_row_at ts ms) row_words (λ m. refl) i) (omega arith))

  -- the layouts read from the rows of the first i types are those that the definition has
  pub layouts-in : (rows : List ℕ) (i : ℕ) → rows ≡ flat (layout_row_at ts ms) i → layouts_in rows ≡ table no_layout (layout_step (decoded ts ms)) i
  layouts-in rows i e = fun_ext (λ k. rw e (at k (dec_le (suc k) i)))
    where
      at : (k : ℕ) → Dec (suc k ≤ i) → layouts_in (flat (layout_row_at ts ms) i) k ≡ table no_layout (layout_step (decoded ts ms)) i k
      at k (yes h) =
          rw (table_value no_layout (layout_step (decoded ts ms)) i k h)
          (λ x. record { size = row_of i k 0 h (omega arith) x; alignment = row_of i k 1 h (omega arith) x })
      at k (no h) =
          rw (table_above no_layout (layout_step (decoded ts ms)) i k (omega arith))
          (λ x. record { size = row_past i k 0 (omega arith) x; alignment = row_past i k 1 (omega arith) x })

  -- numbers 2 to 7 of record i, from the layouts that the definition has: 2 and 3, then 4 to 7
  pub record_laid : (i : ℕ) → record_layout ts ms (table no_layout (layout_step (decoded ts ms)) i) i ≡ record_then_layout ts ms i
  unfolding record_layout record_at result_at type_inner
  record_laid i =
      sym
      (all_required
      (sources_located (struct_members ts ms i))
      (fields_ok (member_count ms) (type_word ts i 0) (type_word ts i 1) (type_word ts i 2) (type_word ts i 3) (type_word ts i 4) (type_word ts i 5))
      (base_within (type_count ts) (type_word ts i 0) (type_word ts i 1))
      (layout_at (decoded ts ms) i))

  module _ (rows : List ℕ) (i : ℕ) (r : Result TypeLayout) (so_far : take (i * row_words) rows ≡ flat (layout_row_at ts ms) i)
      (one : r ≡ record_layout ts ms (layouts_in (take (i * row_words) rows)) i) where
    -- what the code answers for type i is what the definition has
    pub laid-at : r ≡ record_then_layout ts ms i
    laid-at = one ∙ ap (λ (f : ℕ → TypeLayout). record_layout ts ms f i) (layouts-in (take (i * row_words) rows) i so_far) ∙ record_laid i

    module _ (l : TypeLayout) (e : r ≡ ok l) (rows' : List ℕ) (w : rows' ≡ words_after r (i * row_words) rows)
        (room : i * row_words + row_words ≤ length rows) where
      is_layout : layout (decoded ts ms) i ≡ l
      is_layout =
          value_ok no_layout (layout_step (decoded ts ms)) i l
          (and_then_ok (record_at ts ms i) (λ _. layout_at (decoded ts ms) i) l (sym laid-at ∙ e)).2

      written : rows' ≡ with_row rows (i * row_words) (layout_row_at ts ms i)
      written = w ∙ rw (e, is_layout) refl

      pub row_written : take ((i + 1) * row_words) rows' ≡ flat (layout_row_at ts ms) (i + 1)
      row_written = rw written (flat_more row_words rows (layout_row_at ts ms) i so_far refl room)

      pub rest_kept : (n : ℕ) → i < n → drop (n * row_words) rows' ≡ drop (n * row_words) rows
      rest_kept n h = rw written (drop_part row_words rows (layout_row_at ts ms i) (i * row_words) refl room (n * row_words) (omega arith))

-- ---- the call: numbers 2 to 7 type by type, against 2 and 3 of all types and then 4 to 7
module _ (ts ms : List ℕ) where
  -- where the first n types pass 2 to 7, each passes 2 and 3, and 4 to 7
  apart : (n : ℕ) → first_refusal (record_then_layout ts ms) n ≡ Accepted → (i : ℕ) → i < n
      → (u : Unit {0}) × (record_at ts ms i ≡ ok u) × ((l : TypeLayout) × (layout_at (decoded ts ms) i ≡ ok l))
  apart n e i h =
      let a = all_ok (record_then_layout ts ms) n e i h in
      let p = and_then_ok (record_at ts ms i) (λ _. layout_at (decoded ts ms) i) a.0 a.1 in
      (p.0, p.1, (a.0, p.2))

  pub all_accepted : first_refusal (record_then_layout ts ms) (type_count ts) ≡ Accepted → layout_outcome ts ms ≡ Accepted
  unfolding layout_outcome
  all_accepted e =
      let n = type_count ts in
      rw (
        accepted_all (record_at ts ms) n (λ i h. let p = apart n e i h in (p.0, p.1)),
        accepted_all (layout_at (decoded ts ms)) n (λ i h. (apart n e i h).2),
      ) refl

  -- where the first n records pass 2 and 3, the first refusal is that of 4 to 7
  layouts_alone : (n : ℕ) → first_refusal (record_at ts ms) n ≡ Accepted → first_refusal (record_then_layout ts ms) n ≡ first_refusal (layout_at (decoded ts ms)) n
  layouts_alone zero e = refl
  layouts_alone (suc n) e =
      let p = also_accepted (first_refusal (record_at ts ms) n) (outcome_at n (record_at ts ms n)) e in
      let r = outcome_accepted n (record_at ts ms n) p.1 in
      rw (layouts_alone n p.0, r.1) refl

  -- the first refusal type by type serves for 4 to 7, behind that of 2 and 3
  pub also_layouts : also (first_refusal (record_at ts ms) (type_count ts)) (first_refusal (record_then_layout ts ms) (type_count ts)) ≡ layout_outcome ts ms
  unfolding layout_outcome
  also_layouts = go (first_refusal (record_at ts ms) (type_count ts)) refl
    where
      go : (o : Outcome) → first_refusal (record_at ts ms) (type_count ts) ≡ o
          → also o (first_refusal (record_then_layout ts ms) (type_count ts)) ≡ also o (first_refusal (layout_at (decoded ts ms)) (type_count ts))
      go Accepted e = layouts_alone (type_count ts) e
      go (Refused number ty member detail) e = refl

-- a refusal leaves the same zeros, whichever it is
pub refused_zeros : (o : Outcome) → IsRefused o → (rows : List ℕ) (n : ℕ) (words : List ℕ) → rows_after o rows n words ≡ cleared words (n * row_words)
refused_zeros Accepted e rows n words = absurd e
refused_zeros (Refused number ty member detail) e rows n words = refl
