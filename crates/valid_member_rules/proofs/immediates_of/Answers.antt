-- `valid_member_rules::immediates_of` meets its contract, by the two cases of the definition. Assumes nothing.
use mathlib.Core.Bool.{Bool, true, false}
use mathlib.Core.Path.{◌≡◌, refl}
use Prim.Native.Nat.{ℕ}
use lib.Dec.{eqb}
use borrow.Author.Tests.{eqb-true, eqb-false}
use native.Mathlib.Omega.{arith}
use Rattle.ir_records.specs.Result.{pick}
use Rattle.valid_member_rules.proofs.immediates_of.Goals as goal

-- what is answered is the word so far where the member has none, else the member's own
by_own : (own so_far r : ℕ) → (own ≡ 0 → r ≡ so_far) → ((own ≡ 0 → ⊥) → r ≡ own) → r ≡ pick (eqb own 0) so_far own
by_own own so_far r kept replaced = go (eqb own 0) refl
  where
    go : (t : Bool) → eqb own 0 ≡ t → r ≡ pick t so_far own
    go true e = kept (eqb-true own 0 e)
    go false e = replaced (eqb-false own 0 e)

pub returns-then-own-eq0 : goal.returns-then-own-eq0
returns-then-own-eq0 c = by_own c.args.own c.args.so_far _ (λ e. omega (arith, e)) (λ n. omega (arith, n))

pub returns-else-own-eq0 : goal.returns-else-own-eq0
returns-else-own-eq0 c = by_own c.args.own c.args.so_far _ (λ e. omega (arith, e)) (λ n. omega (arith, n))
