use mathlib.Core.Path.{◌∙◌}
use Rattle.wgsl_tokens.proofs.TokenLaws.{tokens_end}
use Rattle.wgsl_tokens.proofs.next_token.Goals as goal

pub returns-then-s-start : goal.returns-then-s-start
returns-then-s-start c = c.in_ok-start.ensures.1 ∙ tokens_end c.args.s.now c.in_ok-start.start c.if-s-start.true
