use mathlib.Core.Path.{sym, ◌∙◌}
use Rattle.valid_type_info.specs.Verdict.{unsized_verdict}
use Rattle.valid_type_info.proofs.unsized_verdict.Goals as goal

pub returns-then-sized : goal.returns-then-sized
unfolding unsized_verdict
returns-then-sized c = rw c.if-sized.true

pub returns-then-not-is_ok : goal.returns-then-not-is_ok
unfolding unsized_verdict
returns-then-not-is_ok c = rw (c.if-sized.false, sym c.is_ok.ensures ∙ c.if-not-is_ok.true)

pub returns : goal.returns
unfolding unsized_verdict
returns c = rw (c.if-sized.false, sym c.is_ok.ensures ∙ c.if-not-is_ok.false)
