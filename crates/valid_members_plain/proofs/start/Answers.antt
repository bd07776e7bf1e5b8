use mathlib.Core.Path.{refl}
use Rattle.valid_members_plain.proofs.start.Goals as goal

pub returns : goal.returns
returns c = rw (c.least_for.ensures, c.starting_flags-flags.ensures) refl
