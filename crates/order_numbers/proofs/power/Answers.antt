use Prim.Native.Nat.{ℕ, ◌^◌, ◌≤◌}
use native.Mathlib.Nat.{one-le-pow, pow-le-pow_right}
use native.Mathlib.Omega.{arith}
use Rattle.order_numbers.proofs.NumberLaws.{power_is}
use Rattle.order_numbers.proofs.power.Goals as goal

most_power : (k : ℕ) → k ≤ 7 → 7 ^ k ≤ 7 ^ 7
most_power k l = let seven : 1 ≤ 7 = omega arith in pow-le-pow_right seven l

pub returns : goal.returns
returns c =
    let k = c.args.k in
    let same = power_is k c.requires in
    (same, rw same (one-le-pow k 7 (omega arith)), rw same (most_power k c.requires))
