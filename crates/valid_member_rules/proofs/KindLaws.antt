-- What the kind alone tells of a record: whether it is a struct.
-- Assumes nothing.
use mathlib.Core.Path.{◌≡◌, refl}
use Prim.Native.Nat.{ℕ}
use Rattle.ir_records.specs.Record.{inner_of, struct_kind}
use Rattle.ir_records.specs.declared.TypeInner.{TypeInner}
use Rattle.ir_records.proofs.KindLaws.{inner_alike}
use Rattle.std.specs.Prelude.{None}
use Rattle.valid_type_info.specs.Verdict.{struct_at}

-- what is no struct is none before the next member
pub no_struct_kind : (k a b c d e offset : ℕ) → (k ≡ struct_kind → ⊥) → struct_at (inner_of k a b c d e) offset ≡ None
no_struct_kind k a b c d e offset h =
    inner_alike (λ (x : TypeInner). struct_at x offset) None k a b c d e (λ leaf. refl) (λ t. (refl, refl)) (λ t. absurd (h t)) refl refl (λ t. refl) refl refl refl
