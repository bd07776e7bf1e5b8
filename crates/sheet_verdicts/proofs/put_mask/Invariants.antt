-- `sheet_verdicts::put_mask` meets its contract. The invariant: the runs that begin so far are written. Assumes nothing.
use Rattle.program_output.specs.Bytes.{joined}
use Rattle.sheet_output.specs.Written.{Writes}
use Rattle.sheet_verdicts.specs.Slots.{run_at}
use Rattle.sheet_verdicts.proofs.put_mask.Given as goal

abbrev pub invariant-loop-k : goal.invariant-loop-k
invariant-loop-k g l = Writes (g.W.Write.contents) l.initial.out (joined (run_at l.mask) l.k) l.out
