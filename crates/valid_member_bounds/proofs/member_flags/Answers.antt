use borrow.Author.Tests.{le-leb, lt-leb}
use Rattle.valid_member_bounds.proofs.member_flags.Goals as goal

pub returns-then-end-offset : goal.returns-then-end-offset
returns-then-end-offset c = rw (le-leb _ _ c.if-end-offset.true)

pub returns-else-end-offset : goal.returns-else-end-offset
returns-else-end-offset c = rw (lt-leb _ _ c.if-end-offset.false) c.not_host_shareable.ensures
