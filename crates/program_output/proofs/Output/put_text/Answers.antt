-- `program_output::Output::put_text` meets its contract: each byte after those before it. Assumes nothing.
use native.Mathlib.Numerals.{add-one}
use native.Mathlib.Omega.{arith}
use lib.Seq.{take-suc}
use Rattle.program_output.proofs.PutLaws.{puts_none, puts_both}
use Rattle.program_output.proofs.Output.put_text.Goals as goal

pub loop-b-init : goal.loop-b-init
loop-b-init c = puts_none _ _

pub loop-b-preserved : goal.loop-b-preserved
loop-b-preserved c =
    let l = c.loop-b in
    let text = c.args.text.now in
    rw (add-one, take-suc text l.b-index 0 (omega arith)) (puts_both l.invariant c.put_byte.ensures)
