-- `spirv_types::matrix_type` meets its contract: the width is that of the part. Assumes nothing.
use Rattle.spirv_types.proofs.TypeLaws.{vector_part}
use Rattle.spirv_types.proofs.matrix_type.Goals as goal

pub leaf_type-requires-clause-width_bound : goal.leaf_type-requires-clause-width_bound
leaf_type-requires-clause-width_bound c =
    let a = c.args in
    vector_part a.place.input.words.now a.tables.types.now a.place.at a.tables.bounded c.in_ok-parts.parts c.in_ok-parts.ensures
