use mathlib.Core.Path.{sym, ◌∙◌}
use Rattle.valid_type_info.specs.Verdict.{span_verdict}
use Rattle.valid_type_info.proofs.span_verdict.Goals as goal

pub returns-then-is_aligned : goal.returns-then-is_aligned
unfolding span_verdict
returns-then-is_aligned c = rw (sym c.is_aligned.ensures ∙ c.if-is_aligned.true)

pub returns : goal.returns
unfolding span_verdict
returns c = rw (sym c.is_aligned.ensures ∙ c.if-is_aligned.false)
