-- `sheet_verdicts::put_mask` meets its contract: a run more where one begins. Assumes nothing.
use mathlib.Core.Path.{sym, ◌∙◌}
use Rattle.sheet_output.specs.Written.{Writes}
use Rattle.sheet_output.proofs.WritesLaws.{writes_none, writes_both}
use Rattle.program_output.specs.Bytes.{joined}
use Rattle.sheet_verdicts.specs.Slots.{run_at}
use Rattle.sheet_verdicts.proofs.SlotLaws.{starts_bit, joined_more}
use Rattle.sheet_verdicts.proofs.put_mask.Goals as goal
use Rattle.sheet_verdicts.proofs.put_mask.Goals.{then-has_slot, else-has_slot}

pub loop-k-init : goal.loop-k-init
unfolding joined
loop-k-init g c = writes_none g.W.Write.contents c.args.out.now

pub loop-k-preserved : goal.loop-k-preserved
loop-k-preserved g c =
    let k = g.W.Write.contents in
    let mask = c.args.mask in
    let i = c.loop-k.k in
    let begins = starts_bit mask i c.loop-k-test.true in
    let run : Writes k c.loop-k.out (run_at mask i) c.if-has_slot.out = elim c.if-has_slot.branch [
      | then-has_slot w ↦ rw (w.out-is, sym begins ∙ sym c.has_slot.ensures ∙ w.if-has_slot.true) w.put_run.ensures
      | else-has_slot w ↦ rw (w.out-is, sym begins ∙ sym c.has_slot.ensures ∙ w.if-has_slot.false) (writes_none k _)
    ] in
    rw (joined_more (run_at mask) i) (writes_both k c.loop-k.invariant run)
