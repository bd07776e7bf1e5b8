use borrow.Author.Tests.{lt-ltb}
use Rattle.proc_type_alignment.proofs.base_alignment.Goals as goal

pub returns-then-base-i : goal.returns-then-base-i
returns-then-base-i c = rw (lt-ltb _ _ c.if-base-i.true, c.row_word.ensures)
