-- Laws of the second pass: where it stands after i types.
-- Assumes nothing.
use mathlib.Core.Path.{◌≡◌, refl, sym, ap, ◌∙◌}
use mathlib.Core.List.{List}
use Prim.Native.Nat.{ℕ, ◌+◌, ◌*◌, ◌≤◌, ◌<◌}
use native.Mathlib.Nat.{add-zero}
use native.Mathlib.Numerals.{add-one}
use native.Mathlib.Omega.{arith}
use lib.ListN.{length, get_or, take, drop}
use lib.Seq.{get_or-drop}
use Rattle.ir_records.specs.Table.{flat}
use Rattle.ir_rows.specs.Rows.{with_part}
use Rattle.ir_rows.proofs.RowLaws.{flat_more, drop_part, part-length, drop_later}
use Rattle.place_carried.specs.Count.{sum}
use Rattle.place_report.specs.declared.Totals.{Totals}
use Rattle.place_report.specs.Report.{report_width}
use Rattle.place_report.specs.Serving.{pair_of}
use Rattle.place_report.specs.Serving.{counts_of, counts_in, counts_pair}

pub record SecondPass (ts rows lent : List ℕ) (n : ℕ) (report : List ℕ) (carried wasted i : ℕ) : Type 0 where
  pub within : i ≤ n
  pub carries : carried ≡ sum (λ k. (counts_in ts rows lent k).carried) i
  pub wastes : wasted ≡ sum (λ k. (counts_in ts rows lent k).wasted) i
  pub few : carried + wasted ≤ i * 4294967295
  pub made : take (i * report_width) report ≡ flat (λ k. counts_pair (counts_in ts rows lent k)) i
  pub rest : drop (i * report_width) report ≡ drop (i * report_width) lent
  pub long : length report ≡ length lent

module _ (ts rows lent : List ℕ) (n : ℕ) where
  pub second_pass_start : SecondPass ts rows lent n lent 0 0 0
  unfolding sum
  second_pass_start = record { within = omega arith; carries = refl; wastes = refl; few = omega arith; made = refl; rest = refl; long = refl }

  module _ (report : List ℕ) (carried wasted i : ℕ) (s : SecondPass ts rows lent n report carried wasted i) where
    -- the word of type i is as lent
    pub own_bytes : get_or report (i * report_width) 0 ≡ get_or lent (i * report_width) 0
    own_bytes =
        ap (λ (m : ℕ). get_or report m 0) (sym (add-zero (i * report_width)))
        ∙ sym (get_or-drop (i * report_width) report 0 0)
        ∙ ap (λ (xs : List ℕ). get_or xs 0 0) s.rest
        ∙ get_or-drop (i * report_width) lent 0 0
        ∙ ap (λ (m : ℕ). get_or lent m 0) (add-zero (i * report_width))

    module _ (room : n * report_width ≤ length lent) (l : i < n) (c : Totals) (is : c ≡ counts_of ts rows i (get_or report (i * report_width) 0)) (small : c.carried + c.wasted ≤ 4294967295) where
      counts_is : c ≡ counts_in ts rows lent i
      counts_is = is ∙ ap (counts_of ts rows i) own_bytes

      pub second_pass_more : SecondPass ts rows lent n (with_part report_width report (i * report_width) (pair_of c.carried c.wasted)) (carried + c.carried) (wasted + c.wasted) (i + 1)
      unfolding sum
      second_pass_more =
          let here : i * report_width + report_width ≤ length report = omega (arith, s.long) in
          let behind = drop_part report_width report (counts_pair c) (i * report_width) refl here in
          record {
            within = omega arith;
            carries = rw (add-one, ← s.carries, ← counts_is) refl;
            wastes = rw (add-one, ← s.wastes, ← counts_is) refl;
            few = omega (arith, s.few);
            made = rw counts_is (flat_more report_width report (λ k. counts_pair (counts_in ts rows lent k)) i s.made refl here);
            rest = behind ((i + 1) * report_width) (omega arith) ∙ drop_later report lent (i * report_width) ((i + 1) * report_width) s.rest (omega arith);
            long = part-length report_width report (counts_pair c) (i * report_width) refl here ∙ s.long;
          }
