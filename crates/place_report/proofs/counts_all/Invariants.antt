-- `place_report::counts_all` meets its contract. The invariant: the counts of the first i types stand in their words, and the totals are theirs. Assumes nothing.
use Rattle.ir_records.specs.Record.{type_count}
use Rattle.place_report.proofs.SecondPass.{SecondPass}
use Rattle.place_report.proofs.counts_all.Given as goal

abbrev pub invariant-loop-i : goal.invariant-loop-i
invariant-loop-i l = SecondPass l.types l.rows l.initial.report (type_count l.types) l.report l.carried l.wasted l.i
