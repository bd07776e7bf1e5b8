use mathlib.Core.Path.{refl, sym, ◌∙◌}
use Rattle.valid_type_info.proofs.offset_verdict.Goals as goal

pub returns-then-is_aligned : goal.returns-then-is_aligned
returns-then-is_aligned c = rw (sym c.is_aligned.ensures ∙ c.if-is_aligned.true, c.ok_verdict.ensures, c.max.ensures) refl

pub returns : goal.returns
returns c = rw (sym c.is_aligned.ensures ∙ c.if-is_aligned.false) refl
