-- `program_output::Output::put_decimal` meets its contract: the digits that `io` makes are the fewest. Assumes nothing.
use mathlib.Core.Path.{◌∙◌}
use native.Mathlib.Omega.{arith}
use Rattle.program_output.proofs.TextLaws.{fewest_digits, fewest_few}
use Rattle.program_output.proofs.Output.put_decimal.Goals as goal

pub returns : goal.returns
returns c =
    let d = c.decimal-k.ensures in
    let s = c in
    rw (d.digits ∙ fewest_digits c.decimal-k.result 20 s.args.n d.len (fewest_few s.args.n c.decimal-k.result d.len (omega (arith, s.ranges.n)))) at c.put_text.ensures
