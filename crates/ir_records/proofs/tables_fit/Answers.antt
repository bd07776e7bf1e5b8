use Prim.Native.Nat.{◌*◌, ◌/◌}
use native.Mathlib.Omega.{arith}
use Rattle.ir_records.specs.Fields.{tables_fit}
use Rattle.ir_records.proofs.ResultLaws.{same_test}
use Rattle.ir_records.proofs.tables_fit.Goals as goal

pub returns : goal.returns
unfolding tables_fit
returns c = let a = c.args in rw (same_test (a.types / 6) (a.rows / 14) (a.types / 6 * 14) a.rows (λ h. omega arith) (λ h. omega arith)) at c.require_lengths.ensures
