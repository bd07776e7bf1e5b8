-- `sheet_refusals::put_in_module` meets its contract: one after the other. Assumes nothing.
use Rattle.sheet_output.specs.Written.{Writes}
use Rattle.sheet_output.proofs.WritesLaws.{writes_none, writes_both, writes_then}
use Rattle.sheet_types.specs.Text.{type_text}
use Rattle.sheet_refusals.specs.Named.{named_member}
use Rattle.sheet_refusals.specs.Text.{named_text}
use Rattle.sheet_refusals.proofs.put_in_module.Goals as goal
use Rattle.sheet_refusals.proofs.put_in_module.Goals.{in-Some, in_default}

pub returns-in-Some-place : goal.returns-in-Some-place
returns-in-Some-place g c =
    let k = g.W.Write.contents in
    let t = c.args.t in
    let j = named_member c.args.refusal in
    let was = c.put_type.new.out in
    let member : Writes k was (named_text was.markup t.sheet t.i j) c.match-named_member.out = elim c.match-named_member.branch [
      | in-Some w ↦ rw (w.out-is, w.in-Some.ensures.0, ← w.in-Some.ensures.1) w.put_member.ensures
      | in_default w ↦ rw (w.out-is, w.in_default.ensures) (writes_none k _)
    ] in
    let type = writes_then k (λ m. type_text m t.sheet t.i) c.put_text.ensures c.put_type.ensures in
    let named = writes_then k (λ m. named_text m t.sheet t.i j) type member in
    rw c.in-Some-place.is (writes_both k (writes_both k named c.put_text-2.ensures) c.put_word.ensures)

pub returns-in-None : goal.returns-in-None
returns-in-None g c =
    let k = g.W.Write.contents in
    let t = c.args.t in
    let j = named_member c.args.refusal in
    let was = c.put_type.new.out in
    let member : Writes k was (named_text was.markup t.sheet t.i j) c.match-named_member.out = elim c.match-named_member.branch [
      | in-Some w ↦ rw (w.out-is, w.in-Some.ensures.0, ← w.in-Some.ensures.1) w.put_member.ensures
      | in_default w ↦ rw (w.out-is, w.in_default.ensures) (writes_none k _)
    ] in
    let type = writes_then k (λ m. type_text m t.sheet t.i) c.put_text.ensures c.put_type.ensures in
    let named = writes_then k (λ m. named_text m t.sheet t.i j) type member in
    rw c.in-None.is (writes_both k (writes_both k named c.put_text-2.ensures) c.put_byte.ensures)
