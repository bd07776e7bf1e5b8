-- Laws of the first pass: where it stands after i types.
-- Assumes nothing.
use mathlib.Core.Path.{◌≡◌, refl, sym, ◌∙◌}
use mathlib.Core.Bool.{true, false, ◌&&◌}
use mathlib.Core.List.{List}
use Prim.Native.Nat.{ℕ, ◌+◌, ◌*◌, ◌^◌, ◌≤◌, ◌<◌}
use native.Mathlib.Numerals.{add-one}
use native.Mathlib.Omega.{arith}
use native.Mathlib.Decide.{ℕ_discrete}
use lib.ListN.{length, take, drop}
use Rattle.ir_records.specs.Record.{type_count, type_inner}
use Rattle.ir_records.specs.Table.{first_refusal, flat}
use Rattle.ir_records.specs.Outcome.{Accepted, Refused}
use Rattle.ir_records.proofs.TableLaws.{one_more, stays}
use Rattle.valid_type_flags.specs.TypeFlags.{is_struct}
use Rattle.ir_rows.specs.Rows.{row_word, with_part, cleared}
use Rattle.ir_rows.proofs.RowLaws.{flat_more, drop_part, part-length, drop_later}
use Rattle.std.specs.Prelude.{Option}
use Rattle.place_report.specs.Report.{report_width}
use Rattle.place_report.specs.Serving.{entry_words, is_narrow, leaf_bytes_at, SmallBytes, Small}
use Rattle.place_report.specs.Serving.{RowsOf, entry_for, entry_pair, narrow_struct, first_pass_words}
use Rattle.place_report.proofs.PassLaws.{pair_length, all_small, leaf_bytes_kept, small_at}

-- after i types: no struct is narrow, what each carries stands in its words, and the words behind are as lent
pub record FirstPass (ts ms rows lent : List ℕ) (n : ℕ) (report : List ℕ) (i : ℕ) : Type 0 where
  pub within : i ≤ n
  pub none : first_refusal (narrow_struct ts ms rows) i ≡ Accepted
  pub made : take (i * report_width) report ≡ flat (entry_pair ts ms rows) i
  pub rest : drop (i * report_width) report ≡ drop (i * report_width) lent
  pub long : length report ≡ length lent
  pub small : (k : ℕ) → k < i → SmallBytes (entry_for ts ms rows k)

module _ (ts ms rows lent : List ℕ) (n : ℕ) where
  module _ (report : List ℕ) (i : ℕ) (w : FirstPass ts ms rows lent n report i) where
    pub first_pass_small : Small (take (i * report_width) report)
    first_pass_small = all_small ts ms rows report i w.made w.small

    module _ (r : RowsOf ts ms rows) (all : n ≡ type_count ts) (room : n * report_width ≤ length lent) (l : i < n) (own : Option ℕ)
        (is : own ≡ leaf_bytes_at ts ms rows (take (i * report_width) report) i (row_word rows i 0)) where
      kept : own ≡ entry_for ts ms rows i
      kept = is ∙ leaf_bytes_kept ts ms rows r report i (omega arith) w.made

      -- a narrow struct
      pub first_pass_refused : (is_struct (type_inner ts i) && is_narrow own) ≡ true
          → (Refused 27 i 0 0 ≡ first_refusal (narrow_struct ts ms rows) n) × (cleared report (n * report_width) ≡ first_pass_words (Refused 27 i 0 0) ts ms rows n lent)
      first_pass_refused e =
          let t : (is_struct (type_inner ts i) && is_narrow (entry_for ts ms rows i)) ≡ true = rw kept at e in
          (sym (stays (narrow_struct ts ms rows) i w.none (rw t refl) n l), rw (drop_later report lent (i * report_width) (n * report_width) w.rest (omega arith)) refl)

      -- one type more
      pub first_pass_more : (is_struct (type_inner ts i) && is_narrow own) ≡ false → row_word rows i 0 < 2 ^ 32
          → FirstPass ts ms rows lent n (with_part report_width report (i * report_width) (entry_words own)) (i + 1)
      first_pass_more e fits =
          let t : (is_struct (type_inner ts i) && is_narrow (entry_for ts ms rows i)) ≡ false = rw kept at e in
          let wide = w.long in
          let here : i * report_width + report_width ≤ length report = omega arith in
          let behind = drop_part report_width report (entry_words own) (i * report_width) (pair_length own) here in
          record {
            within = omega arith;
            none = rw add-one (one_more (narrow_struct ts ms rows) i w.none ∙ rw t refl);
            made = rw kept (flat_more report_width report (entry_pair ts ms rows) i w.made (pair_length (entry_for ts ms rows i)) here);
            rest = behind ((i + 1) * report_width) (omega arith) ∙ drop_later report lent (i * report_width) ((i + 1) * report_width) w.rest (omega arith);
            long = part-length report_width report (entry_words own) (i * report_width) (pair_length own) here ∙ w.long;
            small = λ k h. go k h (ℕ_discrete k i);
          }
        where
          go : (k : ℕ) → k < i + 1 → Dec (k ≡ i) → SmallBytes (entry_for ts ms rows k)
          go k h (yes q) = rw q (small_at ts ms rows r i (omega arith) fits)
          go k h (no q) = w.small k (omega arith)
