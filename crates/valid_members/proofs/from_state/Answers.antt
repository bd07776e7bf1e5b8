use mathlib.Core.Path.{refl}
use Rattle.valid_members.proofs.from_state.Goals as goal

pub returns : goal.returns
returns c = rw (c.least_at.ensures, c.alignment_of.ensures) refl
