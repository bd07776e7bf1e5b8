use native.Mathlib.Omega.{arith}
use Rattle.proc_alignment.proofs.PowerLaws.{mul_within}
use Rattle.proc_type_methods.proofs.vector_size.Goals as goal

pub overflow_mul-result : goal.overflow_mul-result
overflow_mul-result c = let a = c.args in omega (arith, mul_within a.size a.width c.requires.size_bound c.requires.width_bound)
