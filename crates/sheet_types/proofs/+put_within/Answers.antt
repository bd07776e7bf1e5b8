-- `sheet_types::put_within` meets its contract: one after the other, and a type inside all arrays as it is. Assumes nothing.
use Prim.Native.Nat.{◌-◌}
use Rattle.ir_records.specs.Record.{type_word}
use Rattle.sheet_output.specs.Written.{mark_bytes}
use Rattle.sheet_output.proofs.WritesLaws.{writes_both, writes_then}
use Rattle.sheet_types.specs.Text.{text_within}
use Rattle.sheet_types.proofs.TextLaws.{text_array, text_plain, text_last}
use Rattle.sheet_types.proofs.+put_within.Goals as goal
use Rattle.sheet_types.proofs.+put_within.Goals.{in_default-via-in-Some+else-depth-gt0, in_default-via-in_default}

pub returns-in-Some : goal.returns-in-Some
returns-in-Some g t c =
    let k = g.W.Write.contents in
    let a = c.args in
    let e = c.in-Some.ensures in
    let inside = rw (e.1, e.2) at c.put_within.ensures in
    let opened = writes_then k (λ m. mark_bytes m 60) c.put_text.ensures c.put_mark.ensures in
    let element = writes_then k (λ m. text_within m a.t.sheet (a.depth - 1) (type_word a.t.sheet.types.now a.t.i 1)) opened inside in
    let counted = writes_both k element c.put_count.ensures in
    rw (text_array a.out.now.markup a.t.sheet a.t.i a.depth c.if-depth-gt0.true e.0) (writes_then k (λ m. mark_bytes m 62) counted c.put_mark-in-Some.ensures)

pub returns-in_default : goal.returns-in_default
returns-in_default g t c =
    let a = c.args in
    elim c.in_default.branch [
      | in_default-via-in-Some+else-depth-gt0 w ↦ rw (text_last a.out.now.markup a.t.sheet a.t.i a.depth w.if-depth-gt0.false) c.put_base.ensures
      | in_default-via-in_default w ↦ rw (text_plain a.out.now.markup a.t.sheet a.t.i a.depth w.in_default.ensures) c.put_base.ensures
    ]
