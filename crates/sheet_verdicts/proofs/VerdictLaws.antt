-- What is wrong by a code.
-- Assumes nothing.
use mathlib.Core.Path.{◌≡◌, refl, subst}
use mathlib.Core.Logic.{◌⊎◌, inl, inr}
use Prim.Native.Nat.{ℕ, ◌<◌}
use native.Mathlib.Omega.{arith}
use borrow.Author.Tests.{ne_eqb}
use Rattle.std.specs.Prelude.{None, Some}
use Rattle.valid_type_info.specs.declared.Disalignment.{Disalignment}
use Rattle.valid_type_info.specs.declared.Disalignment.TheVariants as wrong
use Rattle.valid_type_info.specs.Serving.{disalignment_number}
use Rattle.sheet_verdicts.specs.Text.{wrong_of}

of_number : (d : Disalignment) → wrong_of (disalignment_number d) ≡ Some d
of_number wrong.ArrayStride = refl
of_number wrong.StructSpan = refl
of_number wrong.MemberOffset = refl
of_number wrong.MemberOffsetAfterStruct = refl
of_number wrong.UnsizedMember = refl
of_number wrong.NonHostShareable = refl

pub wrong_named : (d : Disalignment) (code : ℕ) → disalignment_number d ≡ code → wrong_of code ≡ Some d
wrong_named d code e = subst (λ n. wrong_of n ≡ Some d) e (of_number d)

pub none_named : (code : ℕ) → (code ≡ 0) ⊎ (6 < code) → wrong_of code ≡ None
none_named code (inl e) = rw e
none_named code (inr h) =
    rw (
      ne_eqb code 1 (λ e. absurd (omega (arith, e, h))),
      ne_eqb code 2 (λ e. absurd (omega (arith, e, h))),
      ne_eqb code 3 (λ e. absurd (omega (arith, e, h))),
      ne_eqb code 4 (λ e. absurd (omega (arith, e, h))),
      ne_eqb code 5 (λ e. absurd (omega (arith, e, h))),
      ne_eqb code 6 (λ e. absurd (omega (arith, e, h))),
    )
