-- Laws of the call: the report of accepted types is the one of the definitions.
-- Assumes nothing.
use mathlib.Core.Path.{◌≡◌, refl, sym, ap, ◌∙◌}
use mathlib.Core.Bool.{Bool, true, false, not, ◌&&◌, and-eq-true_iff}
use mathlib.Core.List.{List}
use Prim.Native.Nat.{ℕ, zero, suc, ◌*◌, ◌/◌, ◌≤◌, ◌<◌}
use native.Mathlib.Omega.{arith}
use lib.Dec.{leb, leb→le}
use lib.ListN.{length, drop}
use lib.Seq.{take_at}
use Rattle.ir_records.specs.Result.{Result, pick, ok, require}
use Rattle.ir_records.specs.Record.{decoded, type_count, type_inner, type_words}
use Rattle.ir_records.specs.Fields.{row_words, most_types, capabilities_known, tables_fit}
use Rattle.ir_records.specs.Table.{first_refusal, flat}
use Rattle.ir_records.specs.Outcome.{Outcome}
use Rattle.ir_records.specs.Outcome.{Accepted, Refused}
use Rattle.ir_records.proofs.RecordLaws.{tables_fitting}
use Rattle.ir_records.proofs.TableLaws.{flat_length}
use Rattle.valid_flags.specs.Flags.{bit, host_shareable_bit}
use Rattle.valid_type_flags.specs.TypeFlags.{is_struct}
use Rattle.ir_rows.specs.Rows.{row_word, cleared}
use Rattle.valid_type_info.specs.declared.UniformRule.{UniformRule}
use Rattle.valid_type_info.specs.Verdict.{least_for}
use Rattle.valid_arena.specs.Arena.{row, row_at, arena_outcome, arena_answer, arena_rows, arena_words}
use Rattle.valid_arena.proofs.CommonLaws.{row_common_flags}
use Rattle.valid_arena.proofs.JudgeRows.{row_length}
use Rattle.place_lookup.proofs.LookupLaws.{answer_accepted}
use Rattle.place_carried.specs.Carried.{carried, wasted, narrow}
use Rattle.place_carried.proofs.CountLaws.{sum_alike}
use Rattle.place_report.specs.declared.Totals.{Totals}
use Rattle.std.specs.Prelude.{Some, None}
use Rattle.place_report.specs.Answer as answer
use Rattle.place_report.specs.Report.{report_width}
use Rattle.place_report.specs.Serving.{is_narrow}
use Rattle.place_report.specs.Serving.{RowsOf, narrow_struct, is_reported, counts_for, counts_pair, totals_for, answer_by, words_by, fill_answer, fill_words}
use Rattle.place_report.specs.Report.{reported, narrow_at, report_outcome, carried_at, wasted_at, report_at, lengths_fit, answer_of, report_answer, report_rows, report_after, report_words}
use Rattle.place_report.proofs.PassLaws.{flags_word}
use Rattle.place_report.proofs.FillLaws.{flat_alike}

first_alike : (f g : ℕ → Result (Unit {0})) (n : ℕ) → ((k : ℕ) → k < n → f k ≡ g k) → first_refusal f n ≡ first_refusal g n
first_alike f g zero h = refl
first_alike f g (suc n) h = rw (first_alike f g n (λ k l. h k (omega arith)), h n (omega arith)) refl

-- one test for 27, read from what is kept and from the definitions
same_narrow : (structured shareable thin : Bool) (bytes : ℕ)
    → (structured && is_narrow (pick shareable (pick thin None (Some bytes)) (Some 0))) ≡ (structured && shareable && thin)
same_narrow false shareable thin bytes = refl
same_narrow true false thin bytes = refl
same_narrow true true false bytes = refl
same_narrow true true true bytes = refl

-- what number 1 leaves
pub record Lengths (c : ℕ) (ts ms rows report : List ℕ) : Type 0 where
  pub known : capabilities_known c ≡ true
  pub fit : tables_fit (length ts) (length ms) (length rows) ≡ true
  pub long : type_count ts * report_width ≤ length report
  pub few : type_count ts ≤ most_types

pub lengths : (c : ℕ) (ts ms rows report : List ℕ) → lengths_fit c (length ts) (length ms) (length rows) (length report) ≡ true → Lengths c ts ms rows report
unfolding lengths_fit
lengths c ts ms rows report e =
    let p = (and-eq-true_iff (capabilities_known c && tables_fit (length ts) (length ms) (length rows)) (leb (length ts / type_words * report_width) (length report))).0 e in
    let q = (and-eq-true_iff (capabilities_known c) (tables_fit (length ts) (length ms) (length rows))).0 p.0 in
    record {
      known = q.0;
      fit = q.1;
      long = leb→le (type_count ts * report_width) (length report) (rw p.1 tt);
      few = (tables_fitting (length ts) (length ms) (length rows) q.1).types;
    }

module _ (rule : UniformRule) (c : ℕ) (ts ms rows report : List ℕ) (fits : lengths_fit c (length ts) (length ms) (length rows) (length report) ≡ true) where
  l : Lengths c ts ms rows report
  l = lengths c ts ms rows report fits

  -- the arena's answer
  outcome_is : arena_answer c ts ms rows ≡ arena_outcome c ts ms
  unfolding arena_answer
  outcome_is = rw (l.known, l.fit) refl

  -- the arena's refusal
  pub refused_same : {number ty member detail : ℕ} → arena_answer c ts ms rows ≡ Refused number ty member detail
      → (answer.Refused number ty member detail ≡ report_answer c ts ms rows report)
      × (arena_words rule c ts ms rows ≡ report_rows rule c ts ms rows report)
      × (cleared report (type_count ts * report_width) ≡ report_words c ts ms rows report)
  unfolding report_answer report_rows report_words report_outcome
  refused_same e = let o = sym outcome_is ∙ e in (rw (fits, o) refl, rw fits refl, rw (fits, o) refl)

  module _ (e : arena_answer c ts ms rows ≡ Accepted) where
    outcome : arena_outcome c ts ms ≡ Accepted
    outcome = sym outcome_is ∙ e

    -- the rows of the accepted types
    pub rows_made : RowsOf ts ms (arena_words rule c ts ms rows)
    unfolding arena_words arena_rows
    rows_made =
        record {
          capabilities = c;
          rule = rule;
          accepted = answer_accepted c ts ms rows e;
          words =
              rw (l.known, l.fit, outcome)
              (take_at (flat (row_at (least_for rule) c ts ms) (type_count ts)) (drop (type_count ts * row_words) rows) (type_count ts * row_words)
              (flat_length (row_at (least_for rule) c ts ms) row_words (λ i. row_length (row (least_for rule) c (decoded ts ms) i)) (type_count ts)));
        }

    abbrev made : List ℕ
    made = arena_words rule c ts ms rows

    same_reported : (k : ℕ) → k < type_count ts → is_reported ts made k ≡ reported c (decoded ts ms) k
    unfolding rows_made
    same_reported k h = ap (λ (f : ℕ). is_struct (type_inner ts k) && bit f host_shareable_bit) (flags_word ts ms made rows_made k h ∙ row_common_flags (least_for rule) c (decoded ts ms) k)

    same_27 : (k : ℕ) → k < type_count ts → narrow_struct ts ms made k ≡ narrow_at c (decoded ts ms) k
    same_27 k h =
        ap (λ (b : Bool). require (not b) 27 0 0 (ok tt))
        (same_narrow (is_struct (type_inner ts k)) (bit (row_word made k 2) host_shareable_bit) (narrow (decoded ts ms) k) (carried (decoded ts ms) k)
        ∙ ap (λ (b : Bool). b && narrow (decoded ts ms) k) (same_reported k h))

    same-outcome : first_refusal (narrow_struct ts ms made) (type_count ts) ≡ report_outcome c ts ms
    unfolding report_outcome
    same-outcome = rw outcome (first_alike (narrow_struct ts ms made) (narrow_at c (decoded ts ms)) (type_count ts) same_27)

    counts_at : (k : ℕ) → k < type_count ts
        → ◌≡◌ {A = Totals} (counts_for ts ms made k) (record { carried = carried_at c (decoded ts ms) k; wasted = wasted_at c (decoded ts ms) k })
    counts_at k h = go (is_reported ts made k) (same_reported k h)
      where
        go : (b : Bool) → b ≡ reported c (decoded ts ms) k
            → ◌≡◌ {A = Totals} (pick b (record { carried = carried (decoded ts ms) k; wasted = wasted (decoded ts ms) k }) (record { carried = 0; wasted = 0 }))
            (record { carried = carried_at c (decoded ts ms) k; wasted = wasted_at c (decoded ts ms) k })
        go true q = rw (← q) refl
        go false q = rw (← q) refl

    -- the same totals and words
    same_totals : totals_for ts ms made (type_count ts) ≡ answer_of c ts ms Accepted
    same_totals =
        let a = sum_alike (λ k. (counts_for ts ms made k).carried) (carried_at c (decoded ts ms)) (type_count ts) (λ k h. ap (λ (x : Totals). x.carried) (counts_at k h)) in
        let b = sum_alike (λ k. (counts_for ts ms made k).wasted) (wasted_at c (decoded ts ms)) (type_count ts) (λ k h. ap (λ (x : Totals). x.wasted) (counts_at k h)) in
        rw (a, b) refl

    same_flat : flat (λ k. counts_pair (counts_for ts ms made k)) (type_count ts) ≡ flat (report_at c (decoded ts ms)) (type_count ts)
    same_flat = flat_alike (λ k. counts_pair (counts_for ts ms made k)) (report_at c (decoded ts ms)) (type_count ts) (λ k h. ap counts_pair (counts_at k h))

    by_answer : (o : Outcome) → answer_by o (answer_of c ts ms Accepted) ≡ answer_of c ts ms o
    by_answer Accepted = refl
    by_answer (Refused number ty member detail) = refl

    by_words : (o : Outcome) → words_by o (flat (report_at c (decoded ts ms)) (type_count ts)) (type_count ts) report ≡ report_after c ts ms o report
    by_words Accepted = refl
    by_words (Refused number ty member detail) = refl

    pub filled_same : (fill_answer ts ms made (type_count ts) ≡ report_answer c ts ms rows report)
        × (made ≡ report_rows rule c ts ms rows report)
        × (fill_words ts ms made (type_count ts) report ≡ report_words c ts ms rows report)
    unfolding fill_answer fill_words report_answer report_rows report_words
    filled_same = (
      rw (same-outcome, same_totals, fits) (by_answer (report_outcome c ts ms)),
      rw fits refl,
      rw (same-outcome, same_flat, fits) (by_words (report_outcome c ts ms)),
    )

-- number 1
pub short_same : (rule : UniformRule) (c : ℕ) (ts ms rows report : List ℕ) → lengths_fit c (length ts) (length ms) (length rows) (length report) ≡ false
    → (answer.Refused 1 0 0 0 ≡ report_answer c ts ms rows report) × (rows ≡ report_rows rule c ts ms rows report) × (report ≡ report_words c ts ms rows report)
unfolding report_answer report_rows report_words
short_same rule c ts ms rows report e = (rw e refl, rw e refl, rw e refl)
