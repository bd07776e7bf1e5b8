-- `sheet_c::put_end` meets its contract, by the last member. Assumes nothing.
use mathlib.Core.Path.{◌≡◌, sym, ◌∙◌, subst}
use Prim.Native.Nat.{◌-◌}
use native.Mathlib.Omega.{arith}
use Rattle.ir_records.specs.Record.{type_word}
use Rattle.sheet_names.specs.declared.Type as Of
use Rattle.sheet_output.specs.Written.{Writes}
use Rattle.sheet_c.specs.Text.{step_text}
use Rattle.sheet_c.proofs.put_end.Goals as goal
use Rattle.sheet_c.proofs.put_end.Goals.{in_default-via-in-Some+else-is_open, in_default-via-in_default}

pub returns-in-Some : goal.returns-in-Some
returns-in-Some g c =
    let k = g.W.Write.contents in
    let t = c.args.t in
    let m = c.in-Some.last in
    let e = c.in-Some.ensures in
    let j : type_word t.sheet.types.now t.i 2 - 1 ≡ m.j = omega (arith, e.1) in
    let open_at = rw e.0 at (sym c.is_open.ensures ∙ c.if-is_open.true) in
    let step = λ (of : Of.Type). Writes k c.args.out.now (step_text of.sheet of.i m.j m.ty) c.put_step.new.out in
    rw (j, ← e.2, open_at) (subst step e.0 c.put_step.ensures)

pub returns-in_default : goal.returns-in_default
returns-in_default g c =
    let t = c.args.t in
    elim c.in_default.branch [
      | in_default-via-in-Some+else-is_open w ↦ (
          let e = w.in-Some.ensures in
          let j : type_word t.sheet.types.now t.i 2 - 1 ≡ w.in-Some.last.j = omega (arith, e.1) in
          let closed = rw e.0 at (sym w.is_open.ensures ∙ w.if-is_open.false) in
          rw (j, ← e.2, closed) c.put_size.ensures)
      | in_default-via-in_default w ↦ (
          let j : type_word t.sheet.types.now t.i 2 - 1 ≡ 0 = omega (arith, w.in_default.ensures) in
          rw j c.put_size.ensures)
    ]
