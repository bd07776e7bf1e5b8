use mathlib.Core.Path.{◌∙◌}
use lib.Dec.{eqb}
use Rattle.valid_types.specs.ValidateType.{non_data_flags}
use Rattle.place_short_flags.proofs.MembersLaws.{size_told}
use Rattle.place_short_flags.proofs.Judging.non_data_flags.Goals as goal

pub returns-in-BindingArray : goal.returns-in-BindingArray
unfolding non_data_flags
returns-in-BindingArray c =
    let i = c.in-BindingArray in
    let size = c.then_some.ensures ∙ size_told (eqb i.form 0) i.count in
    rw i.is (rw c.flags_at-in-BindingArray.ensures at (c.binding_array_of.ensures i.form i.count size))
