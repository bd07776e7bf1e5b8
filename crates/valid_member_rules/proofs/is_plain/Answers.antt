use mathlib.Core.Path.{refl}
use Rattle.valid_member_rules.proofs.is_plain.Goals as goal

pub returns : goal.returns
returns c = rw (c.is_creation_resolved.ensures, c.is_host_shareable.ensures, c.is_sized.ensures, c.is_data.ensures) refl
