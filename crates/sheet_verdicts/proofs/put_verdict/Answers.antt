-- `sheet_verdicts::put_verdict` meets its contract, by what its code names. Assumes nothing.
use mathlib.Core.Path.{sym, ◌∙◌, subst}
use Rattle.sheet_output.specs.Written.{Writes}
use Rattle.sheet_verdicts.specs.Text.{first_word, verdict_at, judged_text}
use Rattle.sheet_verdicts.proofs.VerdictLaws.{wrong_named, none_named}
use Rattle.sheet_verdicts.proofs.put_verdict.Goals as goal

pub returns-in-Ok : goal.returns-in-Ok
returns-in-Ok g c =
    let a = c.args in
    let v = verdict_at a.t.sheet.rows.now a.t.i (first_word a.space) in
    let e = c.verdict_of-verdict.ensures in
    let named = wrong_named c.in-Ok.wrong v.code (rw e at c.in-Ok.ensures) in
    subst (λ o. Writes g.W.Write.contents a.out.now (judged_text a.out.now.markup a.t.sheet a.t.i v o) c.put_wrong.new.out) (sym named) (rw e at c.put_wrong.ensures)

pub returns-else-is_shareable : goal.returns-else-is_shareable
returns-else-is_shareable g c =
    let a = c.args in
    let v = verdict_at a.t.sheet.rows.now a.t.i (first_word a.space) in
    let none = none_named v.code (rw c.verdict_of-verdict.ensures at c.in_default.ensures.1) in
    let not = sym c.is_shareable.ensures ∙ c.if-is_shareable.false in
    subst (λ o. Writes g.W.Write.contents a.out.now (judged_text a.out.now.markup a.t.sheet a.t.i v o) c.put_text.new.self) (sym none) (rw not c.put_text.ensures)
