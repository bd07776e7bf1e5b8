-- `program_output::Output::put_rows` meets its contract. The invariant: the lines of the first rows are put, and the others are to come. Assumes nothing.
use Rattle.std.proofs.Common.{◌≡◌, ◌*◌, ◌≤◌, length, drop}
use Rattle.std.specs.Slice.Iter.{chunks_exact_rest, chunks_exact_size}
use Rattle.program_output.specs.Bytes.{Adds, joined, row_line}
use Rattle.program_output.proofs.Output.put_rows.Given as goal

abbrev pub invariant-loop-i : goal.invariant-loop-i
invariant-loop-i l = record {
  size : chunks_exact_size l.i-iterator.iter ≡ 14;
  rest : chunks_exact_rest l.i-iterator.iter ≡ drop (l.i-iterator.count * 14) l.rows;
  within : l.i-iterator.count * 14 ≤ length l.rows;
  put : Adds l.initial.self (joined (row_line l.rows) l.i-iterator.count) l.self;
}
