-- Laws of the loop that lays out and judges type by type: what stands in the rows of the types before, and in the row of the next.
-- Assumes nothing.
use mathlib.Core.Path.{◌≡◌, refl, sym, ap, subst, fun_ext, ◌∙◌}
use mathlib.Core.List.{List}
use Prim.Native.Nat.{ℕ, suc, ◌+◌, ◌*◌, ◌≤◌, ◌<◌}
use native.Mathlib.Omega.{arith}
use native.Mathlib.Decide.{dec_le}
use lib.ListN.{length, get_or, take, drop, get_or-eq_default}
use Rattle.ir_records.specs.Result.{Result, err, ok, and_then}
use Rattle.ir_records.specs.Record.{decoded, type_inner, struct_members}
use Rattle.ir_records.specs.Fields.{row_words, record_at}
use Rattle.ir_records.specs.Table.{table, result_at, outcome_at, first_refusal, flat}
use Rattle.ir_records.specs.Outcome.{Accepted}
use Rattle.ir_records.proofs.ResultLaws.{and_then_ok}
use Rattle.ir_records.proofs.RecordLaws.{record_bounds}
use Rattle.ir_records.proofs.TableLaws.{table_value, table_above, value_ok, flat_length, flat_word, all_ok, accepted_all}
use Rattle.ir_rows.specs.Rows.{row_word}
use Rattle.ir_rows.specs.Serving.{with_row}
use Rattle.ir_rows.proofs.RowLaws.{flat_more, drop_part}
use Rattle.proc_type_alignment.specs.declared.TypeLayout.{TypeLayout}
use Rattle.proc_type_alignment.specs.Serving.{layouts_in}
use Rattle.proc_type_layout.specs.Serving.{record_layout}
use Rattle.proc_layouter.specs.Layouter.{no_layout, layout_step, layout_at, layout}
use Rattle.proc_layouter.specs.Serving.{record_then_layout}
use Rattle.proc_layouter.proofs.LayoutLaws.{record_laid}
use Rattle.valid_type_info.specs.declared.Row.{Row}
use Rattle.valid_type_info.specs.TypeInfo.{words_of, rows_in, empty_row}
use Rattle.std.specs.Prelude as std
use Rattle.ir_records.specs.Refusal.{judged}
use Rattle.ir_records.specs.declared.TypeRefusal.{TypeRefusal}
use Rattle.valid_types.specs.ValidateType.{judge}
use Rattle.valid_types.specs.Serving.{Settled}
use Rattle.valid_types.specs.Serving.{record_row}
use Rattle.valid_types.proofs.TypeRowLaws.{and_then_same}
use Rattle.valid_arena.specs.Arena.{judge_step, judged_at, row, row_at}
use Rattle.valid_arena.specs.Serving.{laid_then_judged}
use Rattle.valid_arena.proofs.CommonLaws.{refused_common}
use Rattle.valid_arena.proofs.AcceptedLaws.{AcceptedTypes, row_size, row_alignment}

-- a row is as long as a row is
pub row_length : (r : Row) → length (words_of r) ≡ row_words
unfolding words_of
row_length r = refl

-- what an answer says of the judgement that it settles, and of the words
module _ (r : std.Result (Unit {0}) TypeRefusal) (at : ℕ) (before after : List ℕ) where
  pub settled_made : (o : Result Row) → Settled r at before after o → judged r ≡ ok tt → (made : Row) × (o ≡ ok made) × (after ≡ with_row before at (words_of made))
  settled_made (ok made) s e = (made, refl, s.1)
  settled_made (err n m d) s e = let f = s.0 in let z : ◌≡◌ {A = ℕ} 0 1 = cc in absurd (omega arith)

  pub settled_outcome : (i : ℕ) (o : Result Row) → Settled r at before after o → outcome_at i (judged r) ≡ outcome_at i o
  settled_outcome i (ok made) s = rw s.0 refl
  settled_outcome i (err n m d) s = rw s.0 refl

  -- the words from m on, behind the row, stay
  pub settled_rest : (m : ℕ) → at + row_words ≤ m → at + row_words ≤ length before → (o : Result Row) → Settled r at before after o → drop m after ≡ drop m before
  settled_rest m h room (ok made) s = rw s.1 (drop_part row_words before (words_of made) at (row_length made) room m h)
  settled_rest m h room (err n x d) s = rw s.1 refl

module _ (least c : ℕ) (ts ms : List ℕ) where
  whole : (i : ℕ) → length (row_at least c ts ms i) ≡ row_words
  whole i = row_length (row least c (decoded ts ms) i)

  -- word j of the row of type k, among the rows of the first i types
  row_of : (i k j : ℕ) → k < i → j < row_words → row_word (flat (row_at least c ts ms) i) k j ≡ get_or (row_at least c ts ms k) j 0
  row_of i k j h l = flat_word (row_at least c ts ms) row_words whole i k j h l

  row_past : (i k j : ℕ) → i ≤ k → row_word (flat (row_at least c ts ms) i) k j ≡ 0
  row_past i k j h = get_or-eq_default (flat (row_at least c ts ms) i) 0 (rw (flat_length (row_at least c ts ms) row_words whole i) (omega arith))

  -- the rows read from the words of the first i types are those that the definition has
  pub rows-in : (rows : List ℕ) (i : ℕ) → rows ≡ flat (row_at least c ts ms) i → rows_in rows ≡ table empty_row (judge_step least c (decoded ts ms)) i
  unfolding rows_in words_of
  rows-in rows i e = fun_ext (λ k. rw e (at k (dec_le (suc k) i)))
    where
      at : (k : ℕ) → Dec (suc k ≤ i) → rows_in (flat (row_at least c ts ms) i) k ≡ table empty_row (judge_step least c (decoded ts ms)) i k
      at k (yes h) =
          let w : (j : ℕ) → j < row_words → row_word (flat (row_at least c ts ms) i) k j ≡ get_or (row_at least c ts ms k) j 0 = λ j l. row_of i k j h l in
          rw (table_value empty_row (judge_step least c (decoded ts ms)) i k h)
          (λ x. record {
            size = w 0 (omega arith) x;
            alignment = w 1 (omega arith) x;
            flags = w 2 (omega arith) x;
            uniform = record { code = w 3 (omega arith) x; ty = w 4 (omega arith) x; index = w 5 (omega arith) x; value = w 6 (omega arith) x; bound = w 7 (omega arith) x };
            storage = record { code = w 8 (omega arith) x; ty = w 9 (omega arith) x; index = w 10 (omega arith) x; value = w 11 (omega arith) x; bound = w 12 (omega arith) x };
            immediates = w 13 (omega arith) x;
          })
      at k (no h) =
          let w : (j : ℕ) → row_word (flat (row_at least c ts ms) i) k j ≡ 0 = λ j. row_past i k j (omega arith) in
          rw (table_above empty_row (judge_step least c (decoded ts ms)) i k (omega arith))
          (λ x. record {
            size = w 0 x;
            alignment = w 1 x;
            flags = w 2 x;
            uniform = record { code = w 3 x; ty = w 4 x; index = w 5 x; value = w 6 x; bound = w 7 x };
            storage = record { code = w 8 x; ty = w 9 x; index = w 10 x; value = w 11 x; bound = w 12 x };
            immediates = w 13 x;
          })

  -- ---- where the first n types pass 2 to 7 and are accepted
  module _ (n : ℕ) (passed : first_refusal (laid_then_judged least c ts ms) n ≡ Accepted) where
    -- each of them passes 2 and 3, and 4 to 7, and has a row
    parts : (i : ℕ) → i < n
        → (record_at ts ms i ≡ ok tt) × ((l : TypeLayout) × (layout_at (decoded ts ms) i ≡ ok l)) × ((r : Row) × (judged_at least c (decoded ts ms) i ≡ ok r))
    parts i h =
        let a = all_ok (laid_then_judged least c ts ms) n passed i h in
        let p = and_then_ok (record_then_layout ts ms i) (λ _. judged_at least c (decoded ts ms) i) a.0 a.1 in
        let q = and_then_ok (record_at ts ms i) (λ _. layout_at (decoded ts ms) i) p.0 p.1 in
        (q.1, (p.0, q.2), (a.0, p.2))

    pub passed_layouts : first_refusal (layout_at (decoded ts ms)) n ≡ Accepted
    passed_layouts = accepted_all (layout_at (decoded ts ms)) n (λ i h. (parts i h).1)

    pub passed_rows : first_refusal (judged_at least c (decoded ts ms)) n ≡ Accepted
    passed_rows = accepted_all (judged_at least c (decoded ts ms)) n (λ i h. (parts i h).2)

    pub passed_records : first_refusal (record_at ts ms) n ≡ Accepted
    passed_records = accepted_all (record_at ts ms) n (λ i h. (tt, (parts i h).0))

    -- and so they have by any other minimum alignment
    by_any : (any : ℕ) → first_refusal (judged_at any c (decoded ts ms)) n ≡ Accepted
    by_any any = refused_common any c (decoded ts ms) n ∙ sym (refused_common least c (decoded ts ms) n) ∙ passed_rows

    accepted : AcceptedTypes c (decoded ts ms) n
    accepted = record { bounds = λ i h. record_bounds ts ms i (parts i h).0; layouts = passed_layouts; rows = by_any }

    -- the first two words of their rows are their layouts
    layouts-in : (rows : List ℕ) → rows ≡ flat (row_at least c ts ms) n → layouts_in rows ≡ table no_layout (layout_step (decoded ts ms)) n
    unfolding words_of
    layouts-in rows e = fun_ext (λ k. rw e (at k (dec_le (suc k) n)))
      where
        at : (k : ℕ) → Dec (suc k ≤ n) → layouts_in (flat (row_at least c ts ms) n) k ≡ table no_layout (layout_step (decoded ts ms)) n k
        at k (yes h) =
            let size : row_word (flat (row_at least c ts ms) n) k 0 ≡ (layout (decoded ts ms) k).size = row_of n k 0 h (omega arith) ∙ row_size least c (decoded ts ms) n accepted k h in
            let alignment : row_word (flat (row_at least c ts ms) n) k 1 ≡ (layout (decoded ts ms) k).alignment = row_of n k 1 h (omega arith) ∙ row_alignment least c (decoded ts ms) n accepted k h in
            rw (table_value no_layout (layout_step (decoded ts ms)) n k h) (λ x. record { size = size x; alignment = alignment x })
        at k (no h) =
            rw (table_above no_layout (layout_step (decoded ts ms)) n k (omega arith))
            (λ x. record { size = row_past n k 0 (omega arith) x; alignment = row_past n k 1 (omega arith) x })

    -- ---- type n, from these rows
    module _ (rows rows' : List ℕ) (r : std.Result (Unit {0}) TypeRefusal) (so_far : take (n * row_words) rows ≡ flat (row_at least c ts ms) n)
        (one : Settled r (n * row_words) rows rows' (record_row least c ts ms (take (n * row_words) rows) n)) where
      -- numbers 2 to 7 and then the row, from the words, are what the definition has
      as_defined : record_row least c ts ms (take (n * row_words) rows) n ≡ laid_then_judged least c ts ms n
      unfolding record_row result_at
      as_defined =
          let words = take (n * row_words) rows in
          let types = decoded ts ms in
          let by : (ℕ → Row) → TypeLayout → Result Row = λ before l. judge least c (type_inner ts) before n l (type_inner ts n) (struct_members ts ms n) in
          ap (λ (o : Result TypeLayout). and_then o (by (rows_in words)))
          (ap (λ (f : ℕ → TypeLayout). record_layout ts ms f n) (layouts-in words so_far) ∙ record_laid ts ms n)
          ∙ and_then_same (record_then_layout ts ms n) (by (rows_in words)) (λ _. judged_at least c types n)
          (λ l e.
          let at = (and_then_ok (record_at ts ms n) (λ _. layout_at types n) l e).2 in
          ap (by (rows_in words)) (sym (value_ok no_layout (layout_step types) n l at))
          ∙ ap (λ (before : ℕ → Row). by before (layout types n)) (rows-in words n so_far))

      settled : Settled r (n * row_words) rows rows' (laid_then_judged least c ts ms n)
      settled = subst (λ (o : Result Row). Settled r (n * row_words) rows rows' o) as_defined one

      pub outcome-at : outcome_at n (judged r) ≡ outcome_at n (laid_then_judged least c ts ms n)
      outcome-at = settled_outcome r (n * row_words) rows rows' n (laid_then_judged least c ts ms n) settled

      module _ (room : n * row_words + row_words ≤ length rows) where
        pub rest_kept : (m : ℕ) → n < m → drop (m * row_words) rows' ≡ drop (m * row_words) rows
        rest_kept m h = settled_rest r (n * row_words) rows rows' (m * row_words) (omega arith) room (laid_then_judged least c ts ms n) settled

        pub row_written : judged r ≡ ok tt → take ((n + 1) * row_words) rows' ≡ flat (row_at least c ts ms) (n + 1)
        row_written e =
            let made = settled_made r (n * row_words) rows rows' (laid_then_judged least c ts ms n) settled e in
            let one = (and_then_ok (record_then_layout ts ms n) (λ _. judged_at least c (decoded ts ms) n) made.0 made.1).2 in
            let is_row = value_ok empty_row (judge_step least c (decoded ts ms)) n made.0 one in
            let written = made.2 ∙ ap (λ (x : Row). with_row rows (n * row_words) (words_of x)) (sym is_row) in
            rw written (flat_more row_words rows (row_at least c ts ms) n so_far (whole n) room)
