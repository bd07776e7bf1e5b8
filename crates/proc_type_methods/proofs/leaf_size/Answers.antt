use Rattle.proc_alignment.proofs.PowerLaws.{cooperative_within}
use Rattle.proc_type_methods.proofs.leaf_size.Goals as goal

pub vector_size-requires : goal.vector_size-requires
vector_size-requires c = let w = rw c.in-Vector.is at c.requires in record { size_bound = w.0; width_bound = w.1 }

pub matrix_size-requires : goal.matrix_size-requires
matrix_size-requires c = let b = rw c.in-Matrix.is at c.requires in record { columns_bound = b.0; width_bound = b.2 }

pub cooperative_size-requires : goal.cooperative_size-requires
cooperative_size-requires c = let b = rw c.in-CooperativeMatrix.is at c.requires in record { columns_bound = cooperative_within c.in-CooperativeMatrix.columns b.0; rows_bound = cooperative_within c.in-CooperativeMatrix.rows b.1; width_bound = b.2 }

pub returns-in-Vector : goal.returns-in-Vector
returns-in-Vector c = rw c.in-Vector.is c.vector_size.ensures

pub returns-in-Matrix : goal.returns-in-Matrix
returns-in-Matrix c = rw c.in-Matrix.is c.matrix_size.ensures

pub returns-in-CooperativeMatrix : goal.returns-in-CooperativeMatrix
returns-in-CooperativeMatrix c = rw c.in-CooperativeMatrix.is c.cooperative_size.ensures
