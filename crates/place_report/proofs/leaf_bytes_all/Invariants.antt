-- `place_report::leaf_bytes_all` meets its contract. The invariant: what each of the first i types carries stands in its words. Assumes nothing.
use Rattle.ir_records.specs.Record.{type_count}
use Rattle.place_report.proofs.FirstPass.{FirstPass}
use Rattle.place_report.proofs.leaf_bytes_all.Given as goal

abbrev pub invariant-loop-i : goal.invariant-loop-i
invariant-loop-i l = FirstPass l.types l.members l.rows l.initial.report (type_count l.types) l.report l.i
