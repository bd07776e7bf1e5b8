use Prim.Native.Nat.{◌≤◌}
use native.Mathlib.Omega.{arith}
use Rattle.proc_alignment.proofs.PowerLaws.{mul_within, vector_within}
use Rattle.proc_type_methods.proofs.column_step.Goals as goal

pub overflow_mul-result : goal.overflow_mul-result
overflow_mul-result c = let a = c.args in let w : c.vector_alignment.result ≤ 4 = rw c.vector_alignment.ensures (vector_within a.rows) in omega (arith, mul_within c.vector_alignment.result a.width w c.requires)
