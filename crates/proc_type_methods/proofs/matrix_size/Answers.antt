use native.Mathlib.Omega.{arith}
use Rattle.proc_alignment.specs.Alignment.{vector_alignment}
use Rattle.proc_alignment.proofs.PowerLaws.{mul_within, vector_within}
use Rattle.proc_type_methods.specs.TypeMethods.{column_step}
use Rattle.proc_type_methods.proofs.matrix_size.Goals as goal

pub overflow_mul-result : goal.overflow_mul-result
overflow_mul-result c =
    let a = c.args in
    rw c.column_step.ensures
    (omega (arith, mul_within (column_step a.rows a.width) a.columns (mul_within (vector_alignment a.rows) a.width (vector_within a.rows) c.requires.width_bound) c.requires.columns_bound))
