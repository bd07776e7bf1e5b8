-- `sheet_structs::put_facts` meets its contract: one after the other. Assumes nothing.
use mathlib.Core.Path.{sym, ◌∙◌}
use Rattle.sheet_output.specs.Written.{Writes}
use Rattle.sheet_output.proofs.WritesLaws.{writes_none, writes_both, writes_then}
use Rattle.sheet_verdicts.specs.declared.Space.TheVariants as space
use Rattle.sheet_verdicts.specs.Text.{verdict_text}
use Rattle.sheet_structs.specs.Facts.{counted_line}
use Rattle.sheet_structs.proofs.put_facts.Goals as goal
use Rattle.sheet_structs.proofs.put_facts.Goals.{then-is_counted, else-is_counted}

pub returns : goal.returns
returns g c =
    let k = g.W.Write.contents in
    let a = c.args in
    let s = a.t.sheet in
    let before = writes_both k (writes_both k c.put_measures.ensures c.put_text.ensures) c.put_text-2.ensures in
    let storage = writes_then k (λ m. verdict_text m s a.t.i space.Storage) before c.put_verdict.ensures in
    let between = writes_both k (writes_both k storage c.put_text-3.ensures) c.put_text-4.ensures in
    let uniform = writes_then k (λ m. verdict_text m s a.t.i space.Uniform) between c.put_verdict-2.ensures in
    let counted : Writes k c.put_verdict-2.new.out (counted_line a.line.now s a.t.i) c.if-is_counted.out = elim c.if-is_counted.branch [
      | then-is_counted w ↦
          rw (w.out-is, sym c.is_counted.ensures ∙ w.if-is_counted.true)
          (writes_both k w.put_text-then-is_counted.ensures (rw (w.carried.ensures, w.wasted.ensures) at w.put_two.ensures))
      | else-is_counted w ↦ rw (w.out-is, sym c.is_counted.ensures ∙ w.if-is_counted.false) (writes_none k _)
    ] in
    writes_both k (writes_both k (writes_both k (writes_both k uniform counted) c.put_text-5.ensures) c.put_text-6.ensures) c.put_slots.ensures
