use mathlib.Core.Path.{refl}
use Rattle.valid_members.proofs.carried.Goals as goal

pub returns : goal.returns
returns c = rw (c.previous_of.ensures, c.ok_verdict.ensures) refl
