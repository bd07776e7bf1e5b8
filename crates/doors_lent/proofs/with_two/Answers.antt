-- `doors_lent::with_two` meets its contract: the call was made with rows, three words and an answer of 9. Assumes nothing.
use Rattle.std.proofs.Common.{refl}
use Rattle.doors_lent.proofs.with_two.Goals as goal

pub returns : goal.returns
returns g c = (
  _,
  _,
  record {
    lent_rows = _;
    lent_found = _;
    lent_answer = _;
    before = (refl, refl, refl);
    left_rows = _;
    left_found = _;
    left_answer = _;
    met = c.call.ensures;
    after = (refl, refl, refl);
  },
)
