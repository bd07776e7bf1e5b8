use mathlib.Core.Path.{refl}
use Rattle.ir_records.specs.Record.{type_inner}
use Rattle.ir_records.proofs.type_inner.Goals as goal

pub returns : goal.returns
unfolding type_inner
returns c = rw (c.inner_of.ensures, c.record_words.ensures) refl
