-- `spirv_types::vector_type` meets its contract: the width is that of the part. Assumes nothing.
use Rattle.spirv_types.proofs.TypeLaws.{scalar_part}
use Rattle.spirv_types.proofs.vector_type.Goals as goal

pub leaf_type-requires-clause-width_bound : goal.leaf_type-requires-clause-width_bound
leaf_type-requires-clause-width_bound c =
    let a = c.args in
    scalar_part a.place.input.words.now a.tables.types.now a.place.at a.tables.bounded c.in_ok-parts.parts c.in_ok-parts.ensures
