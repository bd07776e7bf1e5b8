-- `doors_lent::with_rows` meets its contract: the call was made with rows and an answer of 9. Assumes nothing.
use Rattle.std.proofs.Common.{refl}
use Rattle.doors_lent.proofs.with_rows.Goals as goal

pub returns : goal.returns
returns g c = (_, record { lent_rows = _; lent_answer = _; before = (refl, refl); left_rows = _; left_answer = _; met = c.call.ensures; after = (refl, refl) })
