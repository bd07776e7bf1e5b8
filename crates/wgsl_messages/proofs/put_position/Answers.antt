-- `wgsl_messages::put_position` meets its contract: one after the other. Assumes nothing.
use Rattle.program_output.proofs.PutLaws.{puts_both}
use Rattle.wgsl_messages.specs.Message.{position_text}
use Rattle.wgsl_messages.proofs.put_position.Goals as goal

pub returns : goal.returns
unfolding position_text
returns c =
    let p = c.line_and_column-p.ensures in
    puts_both (puts_both (rw p at c.put_named.ensures) (rw p at c.put_named-2.ensures)) c.put_text.ensures
