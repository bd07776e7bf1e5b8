use mathlib.Core.Path.{sym, ◌∙◌}
use Rattle.valid_type_info.specs.Verdict.{share_verdict}
use Rattle.valid_type_info.proofs.share_verdict.Goals as goal

pub returns-then-shareable : goal.returns-then-shareable
unfolding share_verdict
returns-then-shareable c = rw c.if-shareable.true

pub returns-then-not-is_ok : goal.returns-then-not-is_ok
unfolding share_verdict
returns-then-not-is_ok c = rw (c.if-shareable.false, sym c.is_ok.ensures ∙ c.if-not-is_ok.true)

pub returns : goal.returns
unfolding share_verdict
returns c = rw (c.if-shareable.false, sym c.is_ok.ensures ∙ c.if-not-is_ok.false)
