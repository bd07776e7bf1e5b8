-- `program_output::Output::put_report_lines` meets its contract: line after line. Assumes nothing.
use Rattle.std.proofs.Common.{◌≡◌, ◌*◌, ◌+◌, ◌/◌, ◌∙◌, ap, arith, length, length-drop}
use Rattle.program_output.specs.Bytes.{report_line}
use Rattle.program_output.proofs.PutLaws.{puts_start, puts_more}
use Rattle.program_output.proofs.ChunkLaws.{more_is, more_within, part_at}
use Rattle.program_output.proofs.Output.put_report_lines.Goals as goal

pub loop-i-init : goal.loop-i-init
loop-i-init c =
    let e = c.into_iter-i-iterator.ensures.into_iter_gives in
    let s = c.enumerate-i-items.ensures in
    rw (e, s.source, s.count) record { size = c.chunks_exact.ensures.size; rest = c.chunks_exact.ensures.rest; within = omega arith; put = puts_start _ _ _ }

pub loop-i-preserved : goal.loop-i-preserved
unfolding report_line
loop-i-preserved c =
    let s = c.in-Some.ensures.steps in
    let l = c.loop-i in
    let report = c.args.report.now in
    let long = s.0.1.1 ∙ l.invariant.size in
    let part = part_at 2 l.i-iterator.count report _ _ _ l.invariant.within l.invariant.rest s.0.1.0 long in
    let zero : l.i-iterator.count * 2 + 0 ≡ l.i-iterator.count * 2 = omega arith in
    let carried = rw zero at (part 0 (omega arith)) in
    let wasted = part 1 (omega arith) in
    let more = more_is 2 l.i-iterator.count report _ _ _ l.invariant.within l.invariant.rest s.0.1.0 long in
    let within = more_within 2 l.i-iterator.count report _ _ _ l.invariant.within l.invariant.rest s.0.1.0 long in
    rw s.2 record {
      size = s.0.0 ∙ l.invariant.size;
      rest = more;
      within = within;
      put = puts_more (report_line report) l.i-iterator.count l.invariant.put (rw (s.1, carried, wasted) at c.put_counts.ensures);
    }

pub returns : goal.returns
returns c =
    let s = c.in-None.ensures.steps in
    let l = c.loop-i in
    let report = c.args.report.now in
    let end : l.i-iterator.count ≡ length report / 2 = omega (arith, s.0.1.0, s.0.0, l.invariant.size, l.invariant.within, ap length l.invariant.rest, length-drop (l.i-iterator.count * 2) report) in
    rw end at l.invariant.put
