use Prim.Native.Nat.{◌*◌}
use native.Mathlib.Omega.{arith}
use Rattle.proc_alignment.proofs.PowerLaws.{mul_within}
use Rattle.proc_type_methods.proofs.cooperative_size.Goals as goal

pub overflow_mul-result : goal.overflow_mul-result
overflow_mul-result c = let a = c.args in omega (arith, mul_within a.columns a.rows c.requires.columns_bound c.requires.rows_bound)

pub overflow_mul-result-2 : goal.overflow_mul-result-2
overflow_mul-result-2 c = let a = c.args in omega (arith, mul_within (a.columns * a.rows) a.width (mul_within a.columns a.rows c.requires.columns_bound c.requires.rows_bound) c.requires.width_bound)
