-- `wgsl_messages::put_broken` meets its contract, test by test. Assumes nothing.
use borrow.Author.Tests.{lt-ltb, le-ltb}
use Rattle.program_output.proofs.PutLaws.{puts_both}
use Rattle.wgsl_messages.proofs.put_broken.Goals as goal

pub returns-then-byte-text : goal.returns-then-byte-text
returns-then-byte-text c = rw (lt-ltb _ _ c.if-byte-text.true) (puts_both c.put_position.ensures c.put_sentence.ensures)

pub returns : goal.returns
returns c = rw (le-ltb _ _ c.if-byte-text.false) (puts_both c.put_position.ensures c.put_sentence-2.ensures)
