-- `sheet_answers::Asked::put_judged` meets its contract: what is judged is counted, and then written. Assumes nothing.
use mathlib.Core.Path.{◌≡◌, refl, ◌∙◌}
use Rattle.std.proofs.Common.{rules}
use Rattle.std.specs.Prelude.{Err}
use Rattle.sheet_answers.proofs.JudgedLaws.{no_rows_is, no_report_is, slots_long}
use Rattle.sheet_answers.proofs.Asked.put_judged.Goals as goal

pub returns-in_err-judge-clause-judged : goal.returns-in_err-judge-clause-judged
returns-in_err-judge-clause-judged g c =
    let r = c.in_err-judge.field-0.0 in
    let same : c.from_residual.result ≡ Err r = search rules in
    rw same (rw (c.new-counts.ensures.rows ∙ no_rows_is) at c.in_err-judge.ensures.value)

pub returns-clause-judged : goal.returns-clause-judged
returns-clause-judged g c = rw (c.new-counts.ensures.rows ∙ no_rows_is) at c.in_ok-judge.ensures.value

pub returns-clause-written : goal.returns-clause-written
returns-clause-written g c =
    let e = c.in_ok-judge.ensures in
    let s = c.sheet.ensures in (
      _,
      (
        c.sheet.result,
        record {
          text = s.text;
          names = s.names;
          types = s.types;
          members = s.members;
          rows = s.rows ∙ rw (c.new-counts.ensures.rows ∙ no_rows_is) at e.rows;
          report = s.report ∙ rw (← s.rows, c.new-counts.ensures.report ∙ no_report_is) at e.report;
          slots = λ i h. rw (s.slots, s.rows) (e.slots i h (slots_long c.new-counts.result.slots c.new-counts.ensures.slots i h));
        },
        refl,
      ),
      c.put_all.ensures,
    )
