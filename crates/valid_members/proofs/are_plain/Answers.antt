use mathlib.Core.Path.{sym, ◌∙◌}
use Rattle.valid_members.proofs.StateLaws.{fits_clean, fits_failed, denied}
use Rattle.valid_members.proofs.are_plain.Goals as goal

pub returns-then-is_clean : goal.returns-then-is_clean
returns-then-is_clean c = λ t. (fits_clean c.args.u (c.is_clean-2.ensures c.if-is_clean.true), c.is_clean.ensures c.if-not-is_clean.false)

pub returns : goal.returns
returns c = λ t. (fits_failed c.args.u (sym c.is_ok.ensures ∙ denied c.is_ok.result t), c.is_clean.ensures c.if-not-is_clean.false)
