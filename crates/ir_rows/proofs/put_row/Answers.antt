-- `ir_rows::put_row` meets its contract. Assumes nothing.
use mathlib.Core.Path.{refl}
use Prim.Native.Nat.{◌≤◌}
use native.Mathlib.Omega.{arith}
use native.Mathlib.Nat.{le_antisymm}
use native.Mathlib.Numerals.{add-one}
use lib.ListN.{length, length-set}
use lib.Seq.{paste-zero, paste-suc, take_all}
use Rattle.ir_rows.proofs.put_row.Goals as goal

pub loop-j-init : goal.loop-j-init
loop-j-init c = (paste-zero c.args.rows.now c.args.at c.args.row.now, refl)

pub loop-j-preserved : goal.loop-j-preserved
loop-j-preserved c =
    let l = c.loop-j in
    let a = c.args in (
      rw (l.invariant.0, add-one) (paste-suc a.rows.now a.at a.row.now l.j 0 (omega arith) (omega arith)),
      simp length-set l.invariant.1,
    )

pub returns : goal.returns
returns c =
    let a = c.args in
    let long : length a.row.now ≤ 14 = omega arith in
    rw (le_antisymm c.loop-j.auto.j-end c.loop-j-test.false, take_all 14 a.row.now long) at c.loop-j.invariant.0
