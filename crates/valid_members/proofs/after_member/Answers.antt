use mathlib.Core.Path.{refl}
use Rattle.valid_type_info.specs.TypeInfo.{rows_in}
use Rattle.valid_members.proofs.after_member.Goals as goal

pub returns : goal.returns
unfolding rows_in
returns c =
    rw (c.uniform_at.ensures, c.storage_at.ensures, c.immediates_of.ensures, c.struct_at.ensures, c.word-own.ensures, c.least_for-least.ensures) refl
