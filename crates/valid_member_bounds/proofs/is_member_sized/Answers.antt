use mathlib.Core.Path.{refl}
use native.Mathlib.Numerals.{add-one}
use Rattle.valid_member_bounds.proofs.is_member_sized.Goals as goal

pub returns : goal.returns
returns c = rw (c.is_sized.ensures, add-one c.args.j) refl
