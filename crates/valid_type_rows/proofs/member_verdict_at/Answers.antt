use mathlib.Core.Path.{refl, sym, ◌∙◌}
use borrow.Author.Tests.{ne_eqb}
use Rattle.valid_type_info.specs.Verdict.{member_verdict}
use Rattle.valid_type_rows.proofs.member_verdict_at.Goals as goal

pub returns-then-not-is_ok : goal.returns-then-not-is_ok
unfolding member_verdict
returns-then-not-is_ok c = rw (sym c.is_ok.ensures ∙ c.if-not-is_ok.true) refl

pub returns-then-own_word-ne0 : goal.returns-then-own_word-ne0
unfolding member_verdict
returns-then-own_word-ne0 c =
    let differs = rw c.own_word.ensures at c.if-own_word-ne0.true in
    rw (sym c.is_ok.ensures ∙ c.if-not-is_ok.false, ne_eqb _ 0 differs) c.verdict_at.ensures

pub returns : goal.returns
unfolding member_verdict
returns c =
    let same = rw c.own_word.ensures at c.if-own_word-ne0.false in
    rw (sym c.is_ok.ensures ∙ c.if-not-is_ok.false, same) (rw c.own_word-alignment.ensures at c.offset_verdict.ensures)
