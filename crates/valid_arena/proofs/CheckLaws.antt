-- Laws of the arena check: what a laid_out arena has, and how laying out and judging make up the whole.
-- Assumes nothing.
use mathlib.Core.Path.{◌≡◌, refl, sym, ◌∙◌}
use mathlib.Core.Bool.{Bool, true, false}
use mathlib.Core.List.{List, ◌++◌}
use Prim.Native.Nat.{ℕ, zero, suc, ◌*◌}
use native.Mathlib.Omega.{arith}
use lib.ListN.{length, take, drop, replicate, length-append, length-drop, length-replicate}
use lib.Seq.{take_at, drop_at}
use Rattle.ir_records.specs.Result.{pick}
use Rattle.ir_records.specs.Record.{type_count, decoded}
use Rattle.ir_records.specs.Fields.{row_words, tables_fit, capabilities_known, record_at}
use Rattle.ir_records.specs.Table.{outcome_at, also, first_refusal}
use Rattle.ir_records.specs.Outcome.{Outcome}
use Rattle.ir_records.specs.Outcome.{Accepted, Refused}
use Rattle.ir_records.proofs.TableLaws.{also_accepted, outcome_accepted, flat_length}
use Rattle.ir_records.proofs.RecordLaws.{Fitting, tables_fitting}
use Rattle.ir_rows.specs.Rows.{cleared}
use Rattle.proc_layouter.specs.LentRows.{rows_after}
use Rattle.proc_layouter.specs.Layouter.{layout_at, layout_row_at, layout_rows, layout_outcome, layout_answer, layout_words}
use Rattle.valid_type_info.specs.declared.UniformRule.{UniformRule}
use Rattle.valid_type_info.specs.Verdict.{least_for}
use Rattle.valid_arena.specs.Arena.{judged_at, common_at, row, row_at, judge_outcome, arena_outcome, arena_fits, arena_answer, arena_rows, arena_words}
use Rattle.valid_arena.specs.Serving.{laid_then_judged, after_both}
use Rattle.valid_arena.proofs.CommonLaws.{refused_common}
use Rattle.valid_arena.proofs.JudgeRows.{row_length, passed_records, passed_layouts, passed_rows}

-- the rows of n laid_out types are n rows long
layout_length : (ts ms : List ℕ) (n : ℕ) → length (layout_rows ts ms n) ≡ n * row_words
unfolding layout_rows
layout_length ts ms n = flat_length (layout_row_at ts ms) row_words (λ i. refl) n

-- what an arena whose layouts are accepted has
pub record LaidOut (ts ms rows : List ℕ) : Type 0 where
  pub fits : tables_fit (length ts) (length ms) (length rows) ≡ true
  pub outcome : layout_outcome ts ms ≡ Accepted
  pub words : layout_words ts ms rows ≡ layout_rows ts ms (type_count ts) ++ drop (type_count ts * row_words) rows

pub laid_out : (ts ms rows : List ℕ) → layout_answer ts ms rows ≡ Accepted → LaidOut ts ms rows
unfolding layout_answer layout_words
laid_out ts ms rows e = go (tables_fit (length ts) (length ms) (length rows)) refl e
  where
    go : (b : Bool) → tables_fit (length ts) (length ms) (length rows) ≡ b → pick b (layout_outcome ts ms) (Refused 1 0 0 0) ≡ Accepted → LaidOut ts ms rows
    go true p q = record { fits = p; outcome = q; words = rw (p, q) refl }
    go false p q = let z : ◌≡◌ {A = ℕ} 0 1 = cc in absurd (omega arith)

module _ (ts ms rows : List ℕ) (l : LaidOut ts ms rows) where
  pub fitting : Fitting (length ts) (length ms) (length rows)
  fitting = tables_fitting (length ts) (length ms) (length rows) l.fits

  pub laid_rest : drop (type_count ts * row_words) (layout_words ts ms rows) ≡ drop (type_count ts * row_words) rows
  laid_rest =
      rw l.words (drop_at (layout_rows ts ms (type_count ts)) (drop (type_count ts * row_words) rows) (type_count ts * row_words) (layout_length ts ms (type_count ts)))

  -- judging sees the words past the rows as they were before laying out
  same_rest : (o : Outcome) (made : List ℕ) → rows_after o made (type_count ts) (layout_words ts ms rows) ≡ rows_after o made (type_count ts) rows
  same_rest Accepted made = rw laid_rest refl
  same_rest (Refused n t m d) made = rw laid_rest refl

-- a refusal of the layouts, where the tables fit
pub layout_refused : (ts ms rows : List ℕ) → tables_fit (length ts) (length ms) (length rows) ≡ true → {number ty member detail : ℕ}
    → layout_answer ts ms rows ≡ Refused number ty member detail
    → (layout_outcome ts ms ≡ Refused number ty member detail) × (layout_words ts ms rows ≡ cleared rows (type_count ts * row_words))
unfolding layout_answer layout_words
layout_refused ts ms rows fits e = let q = rw fits at e in (q, rw (fits, q) refl)

-- ---- judging type by type, against 2 to 7 of all types and then the rows
module _ (least c : ℕ) (ts ms : List ℕ) where
  pub all_passed : first_refusal (laid_then_judged least c ts ms) (type_count ts) ≡ Accepted → arena_outcome c ts ms ≡ Accepted
  unfolding arena_outcome layout_outcome judge_outcome
  all_passed e = rw (passed_records least c ts ms (type_count ts) e, passed_layouts least c ts ms (type_count ts) e) (sym (refused_common least c (decoded ts ms) (type_count ts)) ∙ passed_rows least c ts ms (type_count ts) e)

  -- where the first n types pass 2 to 7, the first refusal is that of the rows
  rows_alone : (n : ℕ) → first_refusal (record_at ts ms) n ≡ Accepted → first_refusal (layout_at (decoded ts ms)) n ≡ Accepted
      → first_refusal (laid_then_judged least c ts ms) n ≡ first_refusal (judged_at least c (decoded ts ms)) n
  rows_alone zero e f = refl
  rows_alone (suc n) e f =
      let p = also_accepted (first_refusal (record_at ts ms) n) (outcome_at n (record_at ts ms n)) e in
      let q = also_accepted (first_refusal (layout_at (decoded ts ms)) n) (outcome_at n (layout_at (decoded ts ms) n)) f in
      let r = outcome_accepted n (record_at ts ms n) p.1 in
      let s = outcome_accepted n (layout_at (decoded ts ms) n) q.1 in
      rw (rows_alone n p.0 q.0, r.1, s.1) refl

  -- the first refusal type by type serves for the rows, behind that of 2 to 7
  pub also_judged : also (layout_outcome ts ms) (first_refusal (laid_then_judged least c ts ms) (type_count ts)) ≡ arena_outcome c ts ms
  unfolding arena_outcome layout_outcome judge_outcome
  also_judged = go (layout_outcome ts ms) refl
    where
      go : (o : Outcome) → layout_outcome ts ms ≡ o
          → also o (first_refusal (laid_then_judged least c ts ms) (type_count ts)) ≡ also o (first_refusal (common_at c (decoded ts ms)) (type_count ts))
      go Accepted e =
          let p = also_accepted (first_refusal (record_at ts ms) (type_count ts)) (first_refusal (layout_at (decoded ts ms)) (type_count ts)) e in
          rows_alone (type_count ts) p.0 p.1 ∙ refused_common least c (decoded ts ms) (type_count ts)
      go (Refused number ty member detail) e = refl

-- a refusal of the layouts is the check's
module _ (rule : UniformRule) (c : ℕ) (ts ms rows : List ℕ) (known : capabilities_known c ≡ true) (number ty member detail : ℕ)
    (e : layout_answer ts ms rows ≡ Refused number ty member detail) where
  pub refused_same : (arena_answer c ts ms rows ≡ Refused number ty member detail) × (arena_words rule c ts ms rows ≡ layout_words ts ms rows)
  unfolding layout_answer layout_words arena_answer arena_outcome arena_words
  refused_same = go (tables_fit (length ts) (length ms) (length rows)) refl e
    where
      go : (b : Bool) → tables_fit (length ts) (length ms) (length rows) ≡ b → pick b (layout_outcome ts ms) (Refused 1 0 0 0) ≡ Refused number ty member detail
          → (arena_answer c ts ms rows ≡ Refused number ty member detail) × (arena_words rule c ts ms rows ≡ layout_words ts ms rows)
      go true p q = (rw (known, p, q) refl, rw (known, p, q) refl)
      go false p q = (rw (known, p) q, rw (known, p) refl)

-- ---- what judging answers and leaves depends on the tables, the capability word and the rows' length alone
-- the words of n types, whatever they held before
rows_alike : (o : Outcome) (made : List ℕ) (n : ℕ) → length made ≡ n * row_words → (rows rows' : List ℕ)
    → take (n * row_words) (rows_after o made n rows) ≡ take (n * row_words) (rows_after o made n rows')
rows_alike Accepted made n e rows rows' =
    take_at made (drop (n * row_words) rows) (n * row_words) e ∙ sym (take_at made (drop (n * row_words) rows') (n * row_words) e)
rows_alike (Refused number ty member detail) made n e rows rows' =
    let zeros : List ℕ = replicate (n * row_words) 0 in
    let long = length-replicate {A = ℕ} (n * row_words) 0 in
    take_at zeros (drop (n * row_words) rows) (n * row_words) long ∙ sym (take_at zeros (drop (n * row_words) rows') (n * row_words) long)

-- two lent stretches of one length: the same answer, and the same words for the types unless it is number 1 by the lengths or the capability
-- word, which touches nothing
pub alike : (rule : UniformRule) (c : ℕ) (ts ms rows rows' : List ℕ) → length rows ≡ length rows'
    → (arena_answer c ts ms rows ≡ arena_answer c ts ms rows')
    × (arena_fits c ts ms rows ≡ true
    → take (type_count ts * row_words) (arena_words rule c ts ms rows) ≡ take (type_count ts * row_words) (arena_words rule c ts ms rows'))
unfolding arena_answer arena_words arena_rows
alike rule c ts ms rows rows' e = (
  rw e refl,
  λ fits.
      let fits' : arena_fits c ts ms rows' ≡ true = rw e at fits in
      rw (fits, fits')
      (rows_alike (arena_outcome c ts ms) (arena_rows rule c ts ms (type_count ts)) (type_count ts)
      (flat_length (row_at (least_for rule) c ts ms) row_words (λ i. row_length (row (least_for rule) c (decoded ts ms) i)) (type_count ts)) rows rows'),
)

-- a capability bit that is not known is number 1, before anything is touched
pub unknown_untouched : (rule : UniformRule) (c : ℕ) (ts ms rows : List ℕ) → capabilities_known c ≡ false
    → (arena_answer c ts ms rows ≡ Refused 1 0 0 0) × (arena_words rule c ts ms rows ≡ rows)
unfolding arena_answer arena_words
unknown_untouched rule c ts ms rows unknown = (rw unknown refl, rw unknown refl)

-- ---- the pair: laying out, then judging what it left
-- laying out leaves as many words as there were
layout_length_kept : (ts ms rows : List ℕ) (l : LaidOut ts ms rows) → length (layout_words ts ms rows) ≡ length rows
layout_length_kept ts ms rows l =
    let f = fitting ts ms rows l in
    rw (l.words, length-append, layout_length ts ms (type_count ts), length-drop) (omega (arith, f.rows))

-- where laying out accepts: judging then answers as for the rows before, and leaves the same words
module _ (rule : UniformRule) (c : ℕ) (known : capabilities_known c ≡ true) (ts ms rows : List ℕ) (l : LaidOut ts ms rows) where
  pub pair_answer : arena_answer c ts ms (layout_words ts ms rows) ≡ arena_answer c ts ms rows
  pair_answer = (alike rule c ts ms (layout_words ts ms rows) rows (layout_length_kept ts ms rows l)).0

  pub pair-words : arena_words rule c ts ms (layout_words ts ms rows) ≡ arena_words rule c ts ms rows
  unfolding arena_words
  pair-words =
      rw (layout_length_kept ts ms rows l, known, l.fits) (same_rest ts ms rows l (arena_outcome c ts ms) (arena_rows rule c ts ms (type_count ts)))

-- with a capability word in order, laying out and then judging, where that was accepted, answers and leaves what the single check does
pub pair : (rule : UniformRule) (c : ℕ) → capabilities_known c ≡ true → (ts ms rows : List ℕ)
    → (also (layout_answer ts ms rows) (arena_answer c ts ms (layout_words ts ms rows)) ≡ arena_answer c ts ms rows)
    × (after_both (layout_answer ts ms rows) (arena_words rule c ts ms (layout_words ts ms rows)) (layout_words ts ms rows) ≡ arena_words rule c ts ms rows)
pair rule c known ts ms rows = go (layout_answer ts ms rows) refl
  where
    go : (o : Outcome) → layout_answer ts ms rows ≡ o
        → (also o (arena_answer c ts ms (layout_words ts ms rows)) ≡ arena_answer c ts ms rows)
        × (after_both o (arena_words rule c ts ms (layout_words ts ms rows)) (layout_words ts ms rows) ≡ arena_words rule c ts ms rows)
    go Accepted e = let l = laid_out ts ms rows e in (pair_answer rule c known ts ms rows l, pair-words rule c known ts ms rows l)
    go (Refused number ty member detail) e =
        let same = refused_same rule c ts ms rows known number ty member detail e in
        (sym same.0, sym same.1)
