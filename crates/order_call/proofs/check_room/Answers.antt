use mathlib.Core.Path.{refl}
use Rattle.std.proofs.Common.{rules, ◌≡◌, Err}
use Rattle.order_call.specs.Call.{room}
use Rattle.order_call.proofs.check_room.Goals as goal

pub returns-in_err-require_lengths : goal.returns-in_err-require_lengths
unfolding room
returns-in_err-require_lengths c =
    let e : c.from_residual.result ≡ Err c.in_err-require_lengths.field-0.0 = search rules in
    rw (e, c.in_err-require_lengths.ensures.1) (c.in_err-require_lengths.ensures.0, refl)

pub returns : goal.returns
unfolding room
returns c = rw c.in_ok-require_lengths.ensures c.require_lengths-2.ensures
