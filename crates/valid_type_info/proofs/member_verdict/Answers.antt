use mathlib.Core.Path.{sym, ◌∙◌}
use Rattle.valid_type_info.specs.Verdict.{member_verdict}
use Rattle.valid_type_info.proofs.member_verdict.Goals as goal

pub returns-then-not-is_ok : goal.returns-then-not-is_ok
unfolding member_verdict
returns-then-not-is_ok c = rw (sym c.is_ok.ensures ∙ c.if-not-is_ok.true)

pub returns-then-not-is_ok-2 : goal.returns-then-not-is_ok-2
unfolding member_verdict
returns-then-not-is_ok-2 c = rw (sym c.is_ok.ensures ∙ c.if-not-is_ok.false, sym c.is_ok-2.ensures ∙ c.if-not-is_ok-2.true)

pub returns : goal.returns
unfolding member_verdict
returns c = rw (sym c.is_ok.ensures ∙ c.if-not-is_ok.false, sym c.is_ok-2.ensures ∙ c.if-not-is_ok-2.false) c.offset_verdict.ensures
