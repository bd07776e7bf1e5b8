use mathlib.Core.Path.{sym, ◌∙◌}
use Rattle.wgsl_tokens.proofs.WordLaws.{mark_token, bad_token}
use Rattle.wgsl_tokens.proofs.lexed_at.Goals as goal

pub returns-then-is_mark : goal.returns-then-is_mark
returns-then-is_mark c =
    mark_token c.args.s.now c.args.start c.requires.0 c.requires.1 (sym c.starts_word.ensures ∙ c.if-starts_word.false) (sym c.is_digit.ensures ∙ c.if-is_digit.false) (sym c.is_mark.ensures ∙ c.if-is_mark.true)

pub returns : goal.returns
returns c =
    bad_token c.args.s.now c.args.start c.requires.0 c.requires.1 (sym c.starts_word.ensures ∙ c.if-starts_word.false) (sym c.is_digit.ensures ∙ c.if-is_digit.false) (sym c.is_mark.ensures ∙ c.if-is_mark.false)
