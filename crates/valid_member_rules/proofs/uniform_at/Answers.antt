use mathlib.Core.Path.{refl}
use Rattle.valid_type_info.specs.TypeInfo.{rows_in}
use Rattle.valid_member_rules.proofs.uniform_at.Goals as goal

pub returns : goal.returns
unfolding rows_in
returns c = rw (c.unsized_verdict.ensures, c.is_sized.ensures, c.word-flags.ensures, c.after_distance-apart.ensures, c.joined_verdict-joined.ensures) refl
