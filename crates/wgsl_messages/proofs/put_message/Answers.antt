-- `wgsl_messages::put_message` meets its contract, by where the token starts. Assumes nothing.
use Rattle.program_output.proofs.PutLaws.{puts_both}
use Rattle.wgsl_messages.proofs.SayLaws.{says_broken, says_token}
use Rattle.wgsl_messages.proofs.put_message.Goals as goal

pub returns-in-Err : goal.returns-in-Err
returns-in-Err c =
    let start = c.token_start in
    says_broken _ _ _ _ _ _ _ _ start.result c.in-Err.is start.ensures c.put_broken.ensures

pub returns-in-Ok : goal.returns-in-Ok
returns-in-Ok c =
    let start = c.token_start in
    let token = c.next_token-token in
    says_token _ _ _ _ _ _ _ _ start.result token.result c.in-Ok.is start.ensures token.ensures
    (puts_both (puts_both c.put_position.ensures c.put_found.ensures) c.put_reason.ensures)
