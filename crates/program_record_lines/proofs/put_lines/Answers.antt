-- `program_record_lines::put_lines` meets its contract: line after line. Assumes nothing.
use Rattle.program_output.proofs.PutLaws.{puts_start, puts_more}
use Rattle.program_record_lines.specs.Lines.{record_line}
use Rattle.program_record_lines.proofs.put_lines.Goals as goal

pub loop-i-init : goal.loop-i-init
loop-i-init g c = puts_start _ _ _

pub loop-i-preserved : goal.loop-i-preserved
loop-i-preserved g c =
    let a = c.args in
    let l = c.loop-i in
    puts_more (record_line a.head.now g.row.WIDTH g.row.SHOWN a.words.now) l.i l.invariant c.put_record.ensures
