-- `program_output::Output::put_report_lines` meets its contract. The invariant: the lines of the first types are put, and the others are to come. Assumes nothing.
use Rattle.std.proofs.Common.{◌≡◌, ◌*◌, ◌≤◌, length, drop}
use Rattle.std.specs.Slice.Iter.{chunks_exact_rest, chunks_exact_size}
use Rattle.program_output.specs.Bytes.{Adds, joined, report_line}
use Rattle.program_output.proofs.Output.put_report_lines.Given as goal

abbrev pub invariant-loop-i : goal.invariant-loop-i
invariant-loop-i l = record {
  size : chunks_exact_size l.i-iterator.iter ≡ 2;
  rest : chunks_exact_rest l.i-iterator.iter ≡ drop (l.i-iterator.count * 2) l.report;
  within : l.i-iterator.count * 2 ≤ length l.report;
  put : Adds l.initial.self (joined (report_line l.report) l.i-iterator.count) l.self;
}
