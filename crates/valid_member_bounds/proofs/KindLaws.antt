-- What the kind alone tells of a record: whether it is an array.
-- Assumes nothing.
use mathlib.Core.Path.{◌≡◌, refl, sym}
use mathlib.Core.Bool.{true, false}
use Prim.Native.Nat.{ℕ}
use lib.Dec.{eqb}
use Rattle.ir_records.specs.Record.{inner_of, array_kind}
use Rattle.ir_records.proofs.ResultLaws.{pick_alike}
use Rattle.ir_records.proofs.KindLaws.{inner_alike, told-by}
use Rattle.valid_member_bounds.specs.MemberBounds.{is_array}

-- an array, whatever its form
array-kind : (k a b c d e : ℕ) → k ≡ array_kind → is_array (inner_of k a b c d e) ≡ true
unfolding inner_of
array-kind k a b c d e h = rw h (pick_alike is_array true (eqb b 0) _ _ refl refl)

pub array_by_kind : (k a b c d e : ℕ) → eqb k array_kind ≡ is_array (inner_of k a b c d e)
array_by_kind k a b c d e =
    told-by (λ t. t) (is_array (inner_of k a b c d e)) k array_kind (λ h. sym (array-kind k a b c d e h))
    (λ h. sym (inner_alike is_array false k a b c d e (λ leaf. refl) (λ t. absurd (h t)) (λ t. refl) refl refl (λ t. refl) refl refl refl))
