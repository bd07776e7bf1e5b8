-- `wgsl_messages::put_mark` meets its contract: one after the other. Assumes nothing.
use borrow.Author.Tests.{ne_eqb}
use Rattle.program_output.proofs.PutLaws.{puts_both}
use Rattle.wgsl_messages.specs.Message.{mark_text}
use Rattle.wgsl_messages.proofs.put_mark.Goals as goal

pub returns : goal.returns
unfolding mark_text
returns c =
    rw (ne_eqb _ 44 c.if-mark-eq44.false)
    (puts_both (puts_both c.put_text.ensures c.put_text-2.ensures) c.put_text-3.ensures)
