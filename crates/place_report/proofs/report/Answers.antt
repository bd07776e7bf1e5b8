-- `place_report::report` meets its contract: number 1 first, then the check, then the report of accepted types. Assumes nothing.
use Rattle.std.proofs.Common.{rules}
use borrow.Rule.Slice.PartMut.{put_mid}
use Rattle.ir_rows.specs.Rows.{cleared}
use mathlib.Core.Path.{◌≡◌, sym, ◌∙◌, ap, subst}
use mathlib.Core.List.{List}
use Prim.Native.Nat.{ℕ, ◌*◌, ◌≤◌}
use lib.ListN.{length}
use lib.Seq.{length-take-le}
use Rattle.std.specs.Prelude.{Err}
use Rattle.ir_records.specs.Refusal.{outcome_of}
use Rattle.place_report.specs.Answer.{report_answer_of}
use Rattle.ir_records.specs.Record.{type_count}
use Rattle.place_report.specs.Serving.{RowsOf, fill_answer, fill_words}
use Rattle.place_report.proofs.ReportLaws.{lengths, rows_made, refused_same, filled_same, short_same}
use Rattle.place_report.proofs.report.Goals as goal

pub returns-in_err-lengths_fit : goal.returns-in_err-lengths_fit
returns-in_err-lengths_fit c =
    let a = c.args in
    let same : c.from_residual.result ≡ Err c.in_err-lengths_fit.field-0.0 = search rules in
    let told = c.in_err-lengths_fit.ensures in
    let g = short_same a.rule a.capabilities a.types.now a.members.now a.rows.now a.report.now told.1 in
    record { value = ap report_answer_of same ∙ ap (λ r. report_answer_of (Err r)) told.0 ∙ g.0; rows_after = g.1; report_after = g.2 }

pub fill-requires-2 : goal.fill-requires-2
fill-requires-2 c =
    let a = c.args in let ts = a.types.now in let ms = a.members.now in let rows = a.rows.now in let lent = a.report.now in
    let fits = c.in_ok-lengths_fit.ensures in
    let l = lengths a.capabilities ts ms rows lent fits in
    let k = c.check in
    let e = sym k.ensures.value ∙ ap outcome_of c.in_default.is in
    record { few = l.few; room = l.long; rows_of = subst (λ (x : List ℕ). RowsOf ts ms x) (sym k.ensures.rows_after) (rows_made a.rule a.capabilities ts ms rows lent fits e) }

pub slice_bounds-fill-end : goal.slice_bounds-fill-end
slice_bounds-fill-end c =
    let a = c.args in
    let l = lengths a.capabilities a.types.now a.members.now a.rows.now a.report.now (c.in_ok-lengths_fit.ensures) in
    rw c.type_count-words.ensures l.long

pub slice_bounds-fill-end-in-Err : goal.slice_bounds-fill-end-in-Err
slice_bounds-fill-end-in-Err c =
    let a = c.args in
    let l = lengths a.capabilities a.types.now a.members.now a.rows.now a.report.now (c.in_ok-lengths_fit.ensures) in
    rw c.type_count-words.ensures (sym (length-take-le (type_count a.types.now * 2) a.report.now l.long))

pub returns : goal.returns
returns c =
    let a = c.args in let ts = a.types.now in let ms = a.members.now in let rows = a.rows.now in let lent = a.report.now in
    let fits = c.in_ok-lengths_fit.ensures in
    let k = c.check in let f = c.fill-2.ensures in
    let g = filled_same a.rule a.capabilities ts ms rows lent fits (sym k.ensures.value ∙ ap outcome_of c.in_default.is) in
    let made = k.ensures.rows_after in record { value = f.value ∙ ap (λ (x : List ℕ). fill_answer ts ms x (type_count ts)) made ∙ g.0; rows_after = made ∙ g.1; report_after = f.report_after ∙ ap (λ (x : List ℕ). fill_words ts ms x (type_count ts) lent) made ∙ g.2 }

pub returns-in-Err : goal.returns-in-Err
returns-in-Err c =
    let a = c.args in let ts = a.types.now in let ms = a.members.now in let rows = a.rows.now in let lent = a.report.now in
    let fits = c.in_ok-lengths_fit.ensures in
    let k = c.check in
    let n = c.type_count-words.result in
    let long : n * 2 ≤ length lent = rw c.type_count-words.ensures (lengths a.capabilities ts ms rows lent fits).long in
    let all : put_mid 0 (n * 2) lent c.fill.new.self ≡ cleared lent (n * 2) = search rules in
    let zeroed = all ∙ ap (λ (k : ℕ). cleared lent (k * 2)) c.type_count-words.ensures in
    let g = refused_same a.rule a.capabilities ts ms rows lent fits (sym k.ensures.value ∙ ap outcome_of c.in-Err.is) in
    record { value = g.0; rows_after = k.ensures.rows_after ∙ g.1; report_after = zeroed ∙ g.2 }
