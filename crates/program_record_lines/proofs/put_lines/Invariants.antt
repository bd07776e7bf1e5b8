-- `program_record_lines::put_lines` meets its contract. The invariant: the lines of the first i records are put. Assumes nothing.
use Rattle.program_output.specs.Bytes.{Adds, joined}
use Rattle.program_record_lines.specs.Lines.{record_line}
use Rattle.program_record_lines.proofs.put_lines.Given as goal

abbrev pub invariant-loop-i : goal.invariant-loop-i
invariant-loop-i g l = Adds l.initial.out (joined (record_line l.head g.row.WIDTH g.row.SHOWN l.words) l.i) l.out
