-- `place_report::fill` meets its contract: the two passes, one after the other. Assumes nothing.
use mathlib.Core.Path.{◌≡◌, refl, sym, ◌∙◌, ap, subst}
use mathlib.Core.List.{List}
use Prim.Native.Nat.{ℕ}
use native.Mathlib.Omega.{arith}
use Rattle.std.proofs.Common.{rules, Err}
use Rattle.ir_records.specs.Record.{type_count}
use Rattle.ir_records.specs.Refusal.{outcome_of}
use Rattle.place_report.specs.Answer.{report_answer_of}
use Rattle.ir_records.specs.Outcome.{Outcome}
use Rattle.place_report.specs.Serving.{first_pass_words, AllCarry, totals_in, second_pass_words, fill_answer, fill_words}
use Rattle.place_report.proofs.FillLaws.{all_carry, totals_same, words_same}
use Rattle.place_report.proofs.fill.Goals as goal

pub counts_all-requires : goal.counts_all-requires
counts_all-requires c =
    let s = c in let a = s.args in let w = c.leaf_bytes_all in
    let ts = a.types.now in let ms = a.members.now in let rows = a.rows.now in let lent = a.report.now in
    let none = sym w.ensures.value ∙ (ap outcome_of c.in_ok-leaf_bytes_all.was) in
    let words = w.ensures.report_after ∙ ap (λ (o : Outcome). first_pass_words o ts ms rows (type_count ts) lent) (ap outcome_of c.in_ok-leaf_bytes_all.was) in
    record { few = s.requires.few; room = omega (arith, s.requires.room, w.auto.report); all_carry = subst (λ (x : List ℕ). AllCarry ts rows x (type_count ts)) (sym words) (all_carry ts ms rows lent (type_count ts) s.requires.rows_of refl none) }

pub returns : goal.returns
unfolding fill_answer fill_words
returns c =
    let s = c in let a = s.args in let w = c.leaf_bytes_all in let t = c.counts_all in
    let ts = a.types.now in let ms = a.members.now in let rows = a.rows.now in let lent = a.report.now in
    let none = sym w.ensures.value ∙ (ap outcome_of c.in_ok-leaf_bytes_all.was) in
    let words = w.ensures.report_after ∙ ap (λ (o : Outcome). first_pass_words o ts ms rows (type_count ts) lent) (ap outcome_of c.in_ok-leaf_bytes_all.was) in record { value = rw none (totals_same ts ms rows lent (type_count ts) s.requires.rows_of refl none t.result (t.ensures.value ∙ ap (λ (x : List ℕ). totals_in ts rows x (type_count ts)) words)); report_after = rw none (t.ensures.report_after ∙ ap (λ (x : List ℕ). second_pass_words ts rows x (type_count ts)) words ∙ words_same ts ms rows lent (type_count ts) s.requires.rows_of refl none) }

pub returns-in_err-leaf_bytes_all : goal.returns-in_err-leaf_bytes_all
unfolding fill_answer fill_words
returns-in_err-leaf_bytes_all c =
    let s = c in let a = s.args in let w = c.leaf_bytes_all in
    let ts = a.types.now in let ms = a.members.now in let rows = a.rows.now in let lent = a.report.now in
    let told = sym w.ensures.value ∙ (ap outcome_of c.in_err-leaf_bytes_all.was) in
    let same : c.from_residual.result ≡ Err c.in_err-leaf_bytes_all.field-0.0 = search rules in
    record { value = ap report_answer_of same ∙ rw told refl; report_after = rw told (w.ensures.report_after ∙ ap (λ (o : Outcome). first_pass_words o ts ms rows (type_count ts) lent) (ap outcome_of c.in_err-leaf_bytes_all.was)) }
