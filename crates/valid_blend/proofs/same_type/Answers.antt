use Rattle.valid_blend.specs.Blend.{same_type}
use Rattle.valid_blend.proofs.same_type.Goals as goal

pub returns : goal.returns
unfolding same_type
returns c = rw (← c.type_inner-2.ensures, ← c.type_inner.ensures, ← c.inner_words-w.ensures, ← c.inner_words-v.ensures) c.same_words.ensures
