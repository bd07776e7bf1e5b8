-- `spirv_types::struct_type` meets its contract. Assumes nothing.
use Rattle.spirv_types.proofs.TypeLaws.{made_positive}
use Rattle.spirv_types.proofs.struct_type.Goals as goal

pub spanned_type-requires : goal.spanned_type-requires
spanned_type-requires c =
    let a = c.args in
    made_positive a.known.place.input.words.now a.known.tables.types.now a.known.tables.alignments.now a.known.place.at c.member_count-n.result c.in_ok-members.members c.in_ok-members.ensures
