use mathlib.Core.Path.{refl, sym, ◌∙◌}
use Rattle.valid_type_info.specs.Verdict.{array_verdict}
use Rattle.valid_type_info.proofs.array_verdict.Goals as goal

pub returns-then-not-is_ok : goal.returns-then-not-is_ok
unfolding array_verdict
returns-then-not-is_ok c = rw (sym c.is_ok.ensures ∙ c.if-not-is_ok.true)

pub returns-then-is_aligned : goal.returns-then-is_aligned
unfolding array_verdict
returns-then-is_aligned c = let a = rw c.max.ensures at c.max-a.ensures in rw (sym c.is_ok.ensures ∙ c.if-not-is_ok.false, ← a, sym c.is_aligned.ensures ∙ c.if-is_aligned.true, c.ok_verdict.ensures) refl

pub returns-else-is_aligned : goal.returns-else-is_aligned
unfolding array_verdict
returns-else-is_aligned c = let a = rw c.max.ensures at c.max-a.ensures in rw (sym c.is_ok.ensures ∙ c.if-not-is_ok.false, ← a, sym c.is_aligned.ensures ∙ c.if-is_aligned.false) refl
