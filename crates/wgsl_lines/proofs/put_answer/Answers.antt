-- `wgsl_lines::put_answer` meets its contract, by what is found in the text. Assumes nothing.
use Rattle.wgsl_lines.proofs.LineLaws.{records_answer, refusal_answer}
use Rattle.wgsl_lines.proofs.put_answer.Goals as goal

pub returns-in-Ok : goal.returns-in-Ok
returns-in-Ok c =
    let read = c.read_at in
    records_answer _ _ _ _ _ read.result read.ensures.result_value _ _ _ c.in-Ok.is read.ensures.types_after read.ensures.members_after c.put_records.ensures

pub returns-in-Err : goal.returns-in-Err
returns-in-Err c =
    let read = c.read_at in
    refusal_answer _ _ _ _ _ read.result read.ensures.result_value _ _ _ c.in-Err.is (rw c.of.ensures at c.put_refusal.ensures) c.put_message.ensures
