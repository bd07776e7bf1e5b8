use mathlib.Core.Path.{sym, ◌∙◌}
use mathlib.Core.Bool.{false≢true}
use borrow.Author.Tests.{leb-true}
use Rattle.valid_members.proofs.is_in_order.Goals as goal

pub returns-then-not-is_sized_data : goal.returns-then-not-is_sized_data
returns-then-not-is_sized_data c = λ e. absurd (false≢true e)

pub returns-then-offset-running : goal.returns-then-offset-running
returns-then-offset-running c = λ e. absurd (false≢true e)

pub returns : goal.returns
returns c = λ e.
    record { sized_data = sym c.is_sized_data.ensures ∙ c.if-not-is_sized_data.false; apart = c.if-offset-running.false; inside = leb-true _ _ (rw c.from.ensures at e) }
