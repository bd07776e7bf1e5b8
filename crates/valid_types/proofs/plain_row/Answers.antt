use Rattle.std.proofs.Common.{rules, Err, ◌≡◌, ap}
use Rattle.ir_records.specs.Refusal.{judged}
use mathlib.Core.Path.{refl, sym}
use Prim.Native.Nat.{◌*◌}
use native.Mathlib.Omega.{arith}
use lib.Seq.{length-take-le}
use Rattle.valid_types.proofs.plain_row.Goals as goal

pub slice_bounds-judge_plain-end-2 : goal.slice_bounds-judge_plain-end-2
slice_bounds-judge_plain-end-2 c = let a = c.args in sym (length-take-le (a.i * 14) a.rows.now (omega (arith, c.requires.i_in_bounds)))

pub returns : goal.returns
returns c =
    let a = c.args in
    λ least m members. rw (← c.judge_plain.ensures least m a.i members, c.in_ok-row.was)
    (refl, rw c.ok_verdict-both.ensures at c.put.ensures)

pub returns-in_err-row : goal.returns-in_err-row
returns-in_err-row c =
    let a = c.args in
    let same : c.from_residual.result ≡ Err c.in_err-row.field-0.0 = search rules in
    λ least m members. rw (← c.judge_plain.ensures least m a.i members, c.in_err-row.was) (ap judged same, refl)
