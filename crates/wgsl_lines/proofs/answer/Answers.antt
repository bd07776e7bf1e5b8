-- `wgsl_lines::answer` meets its contract: what is put into an empty buffer is all that is written. Assumes nothing.
use Rattle.program_output.proofs.SendsLaws.{written_whole}
use Rattle.wgsl_lines.proofs.answer.Goals as goal

pub returns : goal.returns
returns g c =
    let put = c.put_answer.ensures in
    λ e. (put.0, put.1, written_whole _ _ put.2 c.new-out.ensures.none_waits c.new-out.ensures.room c.write_out.result c.write_out.ensures.past c.write_out.ensures.written e)
