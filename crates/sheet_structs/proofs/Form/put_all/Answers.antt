-- `sheet_structs::Form::put_all` meets its contract: a struct more where a type is one, and then the counts. Assumes nothing.
use mathlib.Core.Path.{◌≡◌, sym, ◌∙◌}
use Prim.Native.Nat.{ℕ}
use Rattle.std.specs.Prelude.{[]}
use Rattle.std.proofs.Common.{arith}
use Rattle.ir_records.specs.Result.{pick}
use Rattle.program_output.specs.Bytes.{joined}
use Rattle.sheet_output.specs.declared.Markup.{Markup}
use Rattle.sheet_output.specs.Written.{Writes}
use Rattle.sheet_output.proofs.WritesLaws.{writes_none, writes_both, writes_then}
use Rattle.sheet_verdicts.proofs.SlotLaws.{joined_more}
use Rattle.sheet_structs.specs.Structs.{struct_text}
use Rattle.ir_records.specs.Fields.{most_types}
use Rattle.sheet_names.specs.Text.{is_struct}
use Rattle.sheet_structs.proofs.Form.put_all.Goals as goal
use Rattle.sheet_structs.proofs.Form.put_all.Goals.{then-is_struct, else-is_struct}

pub loop-i-init : goal.loop-i-init
unfolding joined
loop-i-init g c = writes_none g.W.Write.contents c.args.out.now

pub loop-i-preserved : goal.loop-i-preserved
loop-i-preserved g c =
    let k = g.W.Write.contents in
    let s = c.args.sheet in
    let form = c.args.self in
    let i = c.loop-i.i in
    let t = c.type_at-t.ensures in
    let is = rw (t.sheet, t.i) at c.is_struct.ensures in
    let text = λ (m : Markup) (i : ℕ). pick (is_struct s.types.now i) (struct_text form m s i) [] in
    let one : Writes k c.loop-i.out (text (c.loop-i.out.markup) i) c.if-is_struct.out = elim c.if-is_struct.branch [
      | then-is_struct w ↦ rw (w.out-is, sym is ∙ w.if-is_struct.true) (rw (t.sheet, t.i) at w.put_struct.ensures)
      | else-is_struct w ↦ rw (w.out-is, sym is ∙ w.if-is_struct.false) (writes_none k _)
    ] in
    rw (joined_more (text (c.args.out.now.markup)) i) (writes_then k (λ m. text m i) c.loop-i.invariant one)

pub returns : goal.returns
returns g c =
    let k = g.W.Write.contents in
    let s = c.args.sheet in
    let l = c.loop-i in
    let n : l.i ≡ most_types = omega (arith, c.loop-i-test.false, l.auto.i-end) in
    let structs = rw n at l.invariant in
    let end = rw (c.type_count-types.ensures, c.struct_count.ensures) at c.put_end.ensures in
    writes_both k structs end
