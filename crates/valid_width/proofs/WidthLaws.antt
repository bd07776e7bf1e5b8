-- The width of a float is asked for in either order.
-- Assumes nothing.
use mathlib.Core.Path.{◌≡◌, refl}
use mathlib.Core.Bool.{Bool, true, false}
use Prim.Native.Nat.{ℕ}
use native.Mathlib.Omega.{arith}
use lib.Dec.{eqb}
use borrow.Author.Tests.{eqb-true}
use Rattle.ir_records.specs.Result.{pick}
use Rattle.valid_width.specs.Width.{float64, shader_float16, float_width}
use Rattle.valid_width.specs.Serving.{number_width}

-- two tests of which one holds at most
either_order {ℓ} : {A : Type ℓ} (s t : Bool) (a b c : A) → (s ≡ true → t ≡ true → ⊥) → pick s a (pick t b c) ≡ pick t b (pick s a c)
either_order true true a b c apart = absurd (apart refl refl)
either_order true false a b c apart = refl
either_order false true a b c apart = refl
either_order false false a b c apart = refl

pub float_by_number : (c width : ℕ) → number_width c shader_float16 float64 width ≡ float_width c width
unfolding float_width
float_by_number c width =
    either_order (eqb width 2) (eqb width 8) _ _ _
    (λ s t. let e = eqb-true width 2 s in let f = eqb-true width 8 t in absurd (omega arith))
