-- `sheet_refusals::put_place` meets its contract: one after the other. Assumes nothing.
use Rattle.std.proofs.Common.{◌≡◌, option_map}
use Rattle.sheet_output.specs.Written.{Writes}
use Rattle.sheet_output.proofs.WritesLaws.{writes_none, writes_both, writes_then}
use Rattle.sheet_types.specs.Text.{struct_name}
use Rattle.sheet_refusals.specs.Text.{named_text, named_place, span_text}
use Rattle.sheet_refusals.proofs.put_place.Goals as goal
use Rattle.sheet_refusals.proofs.put_place.Goals.{in-Some, in-None, in-Some-place, in_default}

pub returns : goal.returns
returns g c =
    let k = g.W.Write.contents in
    let t = c.args.t in
    let j = option_map (λ m. m.j) c.args.member in
    let was = c.put_struct_name.new.out in
    let named : Writes k was (named_text was.markup t.sheet t.i j) c.match-member.out = elim c.match-member.branch [
      | in-Some w ↦ let of = rw w.in-Some.is at c.requires in rw (w.out-is, w.in-Some.is, ← of) w.put_member.ensures
      | in-None w ↦ rw (w.out-is, w.in-None.is) (writes_none k _)
    ] in
    let place : c.match-member.place ≡ named_place t.sheet t.i j = elim c.match-member.branch [
      | in-Some w ↦ let of = rw w.in-Some.is at c.requires in rw (w.place-is, w.in-Some.is, ← of) w.place-place.ensures
      | in-None w ↦ rw (w.place-is, w.in-None.is) w.place-place-in-None.ensures
    ] in
    let position : Writes k c.match-member.out (span_text t.sheet.text.now c.match-member.place) c.match-place.out = elim c.match-place.branch [
      | in-Some-place w ↦ rw (w.out-is, w.in-Some-place.is) w.put_position.ensures
      | in_default w ↦ rw (w.out-is, w.in_default.is) (writes_none k _)
    ] in
    let struct = writes_then k (λ m. struct_name m t.sheet t.i) c.put_text.ensures c.put_struct_name.ensures in
    let whole = writes_then k (λ m. named_text m t.sheet t.i j) struct named in
    writes_both k (writes_both k whole (rw place at position)) c.put_byte.ensures
