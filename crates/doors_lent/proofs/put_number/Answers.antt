-- `doors_lent::put_number` meets its contract: the digits after a blank. Assumes nothing.
use mathlib.Core.Path.{◌≡◌, ◌∙◌}
use mathlib.Core.List.{[], ◌∷◌}
use lib.ListN.{take}
use Rattle.program_output.specs.Bytes.{decimal}
use Rattle.program_output.proofs.TextLaws.{fewest_digits, fewest_few}
use Rattle.doors_lent.proofs.PrintedLaws.{appends_after}
use Rattle.doors_lent.proofs.put_number.Goals as goal

pub returns : goal.returns
returns g c =
    let n = c.args.n in
    let k = c.decimal-k.result in
    let d = c.decimal-k.ensures in
    let digits : take k c.decimal-k.new.out ≡ decimal n = d.digits ∙ fewest_digits k 20 n d.len (fewest_few n k d.len c.ranges.n.fits) in
    let to = g.W.Write.contents in
    let write = c.write_all-2 in
    appends_after write.result (to c.args.to.now) (to c.write_all.new.self) (to write.new.self) (32 ∷ []) (decimal n) c.in_ok-write_all.ensures.bytes
    (rw digits at write.ensures.bytes)
