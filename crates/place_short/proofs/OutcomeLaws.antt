-- Judging type by type, against 2 and 3 of all records, then 4 to 7 of all types, and then what is judged of each.
-- Assumes nothing.
use mathlib.Core.Path.{◌≡◌, refl, sym, ◌∙◌}
use mathlib.Core.Bool.{Bool, true, false, ◌&&◌}
use mathlib.Core.List.{List}
use Prim.Native.Nat.{ℕ, zero, suc, ◌*◌, ◌/◌, ◌≤◌}
use native.Mathlib.Omega.{arith}
use lib.Dec.{leb, leb→le}
use lib.ListN.{length}
use Rattle.ir_records.specs.Result.{pick}
use Rattle.ir_records.specs.Record.{type_words, type_count, decoded}
use Rattle.ir_records.specs.Fields.{row_words, tables_fit, capabilities_known, record_at}
use Rattle.ir_records.specs.Table.{outcome_at, also, first_refusal}
use Rattle.ir_records.specs.Outcome.{Outcome}
use Rattle.ir_records.specs.Outcome.{Accepted, Refused}
use Rattle.ir_records.proofs.ResultLaws.{and_then_ok, true_T, T_true, and_left, and_right}
use Rattle.ir_records.proofs.TableLaws.{also_accepted, outcome_accepted, all_ok, accepted_all}
use Rattle.proc_layouter.specs.Layouter.{layout_at, layout_outcome}
use Rattle.valid_arena.specs.Arena.{common_at, judge_outcome, arena_outcome, arena}
use Rattle.place_short_layout.specs.ShortRows.{short_width}
use Rattle.place_short.specs.Short.{lengths_fit, short_fits, short_answer}
use Rattle.place_short.specs.Serving.{three_result}
use Rattle.place_short.proofs.ShortLaws.{layout_then_row, three_refusal}

pub not_accepted : {number ty member detail : ℕ} → Refused number ty member detail ≡ Accepted → ⊥
not_accepted e = let z : ◌≡◌ {A = ℕ} 0 1 = cc in omega arith

module _ (c : ℕ) (ts ms : List ℕ) where
  abbrev laid : ℕ → Outcome
  laid = first_refusal (layout_at (decoded ts ms))

  abbrev judged : ℕ → Outcome
  judged = first_refusal (common_at c (decoded ts ms))

  abbrev both : ℕ → Outcome
  both = first_refusal (layout_then_row c ts ms)

  -- where the first n types pass 4 to 7, the first refusal is that of what is judged
  judged_alone : (n : ℕ) → laid n ≡ Accepted → both n ≡ judged n
  judged_alone zero e = refl
  judged_alone (suc n) e =
      let p = also_accepted (laid n) (outcome_at n (layout_at (decoded ts ms) n)) e in
      let l = outcome_accepted n (layout_at (decoded ts ms) n) p.1 in
      rw (judged_alone n p.0, l.1) refl

  also_both : (n : ℕ) → also (laid n) (both n) ≡ also (laid n) (judged n)
  also_both n = go (laid n) refl
    where
      go : (o : Outcome) → laid n ≡ o → also o (both n) ≡ also o (judged n)
      go Accepted e = judged_alone n e
      go (Refused number ty member detail) e = refl

  laid_too : (n : ℕ) → both n ≡ Accepted → laid n ≡ Accepted
  laid_too n e =
      accepted_all (layout_at (decoded ts ms)) n
      (λ i h.
      let a = all_ok (layout_then_row c ts ms) n e i h in
      let l = and_then_ok (layout_at (decoded ts ms) i) (λ _. common_at c (decoded ts ms) i) a.0 a.1 in
      (l.0, l.1))

  -- the records are in order: the outcome of the arena
  module _ (records : first_refusal (record_at ts ms) (type_count ts) ≡ Accepted) where
    pub arena_also : also (laid (type_count ts)) (first_refusal (three_result c ts ms) (type_count ts)) ≡ arena_outcome c ts ms
    unfolding arena_outcome layout_outcome judge_outcome
    arena_also = rw (records, three_refusal c ts ms (type_count ts)) (also_both (type_count ts))

    pub arena_passed : first_refusal (three_result c ts ms) (type_count ts) ≡ Accepted → arena_outcome c ts ms ≡ Accepted
    arena_passed e = sym arena_also ∙ rw (laid_too (type_count ts) (sym (three_refusal c ts ms (type_count ts)) ∙ e), e) refl

  -- a record that is not in order
  pub arena_records : {number ty member detail : ℕ} → first_refusal (record_at ts ms) (type_count ts) ≡ Refused number ty member detail
      → arena_outcome c ts ms ≡ Refused number ty member detail
  unfolding arena_outcome layout_outcome
  arena_records e = rw e refl

-- ---- number 1: what lengths that fit have
pub record Fits (c t m r : ℕ) : Type 0 where
  pub known : capabilities_known c ≡ true
  pub tables : tables_fit t m (t / type_words * row_words) ≡ true
  pub room : t / type_words * short_width ≤ r

pub fits_parts : (c t m r : ℕ) → lengths_fit c t m r ≡ true → Fits c t m r
unfolding lengths_fit
fits_parts c t m r e =
    let known = capabilities_known c in
    let tables = tables_fit t m (t / type_words * row_words) in
    let room = leb (t / type_words * short_width) r in
    let both = and_left (known && tables) room (true_T e) in
    record {
      known = T_true known (and_left known tables both);
      tables = T_true tables (and_right known tables both);
      room = leb→le (t / type_words * short_width) r (and_right (known && tables) room (true_T e));
    }

-- an arena that is accepted with three words for each type is accepted
pub short_accepted : (c : ℕ) (ts ms scratch : List ℕ) → short_answer c ts ms scratch ≡ Accepted → arena c ts ms ≡ Accepted
unfolding short_answer arena
short_accepted c ts ms scratch e = go (short_fits c ts ms scratch) refl e
  where
    go : (b : Bool) → short_fits c ts ms scratch ≡ b → pick b (arena_outcome c ts ms) (Refused 1 0 0 0) ≡ Accepted → arena c ts ms ≡ Accepted
    go true p q = let f = fits_parts c (length ts) (length ms) (length scratch) p in rw (f.known, f.tables) q
    go false p q = let z : ◌≡◌ {A = ℕ} 0 1 = cc in absurd (omega arith)
