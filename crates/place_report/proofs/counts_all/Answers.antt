-- `place_report::counts_all` meets its contract. The invariant: the counts of the first i types stand in their words, and the totals are theirs. Assumes nothing.
use native.Mathlib.Omega.{arith}
use Prim.Native.Nat.{◌<◌}
use Rattle.ir_records.specs.Record.{type_count}
use Rattle.place_report.proofs.SecondPass.{second_pass_start, second_pass_more}
use Rattle.place_report.proofs.counts_all.Goals as goal

pub loop-i-init : goal.loop-i-init
loop-i-init c = let a = c.args in second_pass_start a.types.now a.rows.now a.report.now (type_count a.types.now)

pub loop-i-preserved : goal.loop-i-preserved
loop-i-preserved c =
    let s = c in let a = s.args in let l = c.loop-i in let m = c.counts_at-counts in
    let inside : l.i < type_count a.types.now = omega (arith, c.loop-i-test.true, c.type_count-n.ensures) in
    rw c.put_counts.ensures
    (second_pass_more a.types.now a.rows.now a.report.now (type_count a.types.now) l.report l.carried l.wasted l.i l.invariant s.requires.room inside m.result m.ensures.value m.ensures.wasted_bound)
