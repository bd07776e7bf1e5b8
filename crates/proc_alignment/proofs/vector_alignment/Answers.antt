use Rattle.std.proofs.Common.{ne_eqb}
use Rattle.proc_alignment.proofs.vector_alignment.Goals as goal

pub returns-then-n-eq2 : goal.returns-then-n-eq2
returns-then-n-eq2 c = rw c.if-n-eq2.true

pub returns-else-n-eq2 : goal.returns-else-n-eq2
returns-else-n-eq2 c = rw (ne_eqb _ 2 c.if-n-eq2.false)
