-- `program_input::keep_rest` meets its contract: what is copied to the front is the rest. Assumes nothing.
use mathlib.Core.Path.{◌≡◌, refl, subst}
use Prim.Native.Nat.{ℕ, ◌+◌, ◌-◌}
use native.Mathlib.Omega.{arith}
use lib.ListN.{take, drop, length-drop}
use Rattle.std.specs.List.{copy_within}
use Rattle.std.proofs.lemmas.List.Edits.{take-paste}
use Rattle.program_input.proofs.keep_rest.Goals as goal

pub returns-then-rest : goal.returns-then-rest
returns-then-rest c =
    let a = c.args.rest in
    let was = c.args.buffer.now in
    let n : 0 + (a.end - a.start) ≡ a.end - a.start = omega arith in
    let front = take-paste was 0 (drop a.start was) (a.end - a.start) (omega arith) (omega (arith, length-drop a.start was)) in
    rw c.copy_within.ensures.after (subst (λ (m : ℕ). take m (copy_within was a.start a.end 0) ≡ take (a.end - a.start) (drop a.start was)) n front)

pub returns-else-rest : goal.returns-else-rest
returns-else-rest c =
    let a = c.args.rest in
    let none : a.end - a.start ≡ 0 = omega arith in
    rw none refl
