use mathlib.Core.Path.{refl}
use Rattle.valid_type_rows.proofs.verdict_at.Goals as goal

pub returns : goal.returns
returns c = rw (c.own_word-5.ensures, c.own_word-4.ensures, c.own_word-3.ensures, c.own_word-2.ensures, c.own_word.ensures) refl
