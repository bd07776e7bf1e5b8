-- What the kind tells of a record: what is alike in each case is alike in what the record says; a test of the kind says what holds of it.
-- Assumes nothing.
use mathlib.Core.Path.{◌≡◌, refl}
use mathlib.Core.Bool.{Bool, true, false}
use Prim.Native.Nat.{ℕ, ◌≤◌, ◌<◌}
use native.Mathlib.Omega.{arith}
use lib.Dec.{eqb}
use borrow.Author.Tests.{eqb-true, eqb-false, ne_eqb}
use Rattle.ir_records.specs.Record.{array_kind, struct_kind, image_kind, inner_of}
use Rattle.ir_records.specs.Fields.{fields_ok}
use Rattle.ir_records.specs.declared.Leaf.{Leaf}
use Rattle.ir_records.specs.declared.NonData.TheVariants.{Pointer, ValuePointer, Image, Sampler, AccelerationStructure, BindingArray}
use Rattle.ir_records.specs.declared.TypeInner.{TypeInner}
use Rattle.ir_records.specs.declared.TypeInner.TheVariants.{Plain, Array, RuntimeArray, Struct, Other}
use Rattle.ir_records.proofs.ResultLaws.{pick_alike, pick_when}

pub inner_alike {ℓ} : {B : Type ℓ} (f : TypeInner → B) (v : B) (k a b c d e : ℕ)
    → ((leaf : Leaf) → f (Plain leaf) ≡ v)
    → (k ≡ array_kind → (f (Array a c d) ≡ v) × (f (RuntimeArray a d) ≡ v))
    → (k ≡ struct_kind → f (Struct b c) ≡ v)
    → f (Other (Pointer a b)) ≡ v
    → f (Other (ValuePointer a b c)) ≡ v
    → (k ≡ image_kind → f (Other (Image a b c)) ≡ v)
    → f (Other Sampler) ≡ v
    → f (Other (AccelerationStructure a)) ≡ v
    → f (Other (BindingArray a b c)) ≡ v
    → f (inner_of k a b c d e) ≡ v
unfolding inner_of
inner_alike f v k a b c d e plain array struct pointer valuePointer image sampler acceleration bindingArray =
    let skip = pick_alike f v in
    let when = pick_when f v in
    skip (eqb k 0) _ _ (plain _)
    (skip (eqb k 1) _ _ (plain _)
    (skip (eqb k 2) _ _ (plain _)
    (skip (eqb k 3) _ _ (plain _)
    (skip (eqb k 4) _ _ (plain _)
    (skip (eqb k 5) _ _ pointer
    (skip (eqb k 6) _ _ valuePointer
    (when (eqb k 7) _ _ (λ t. let h = array (eqb-true k 7 t) in skip (eqb b 0) _ _ h.0 h.1)
    (when (eqb k 8) _ _ (λ t. struct (eqb-true k 8 t))
    (when (eqb k 9) _ _ (λ t. image (eqb-true k 9 t))
    (skip (eqb k 10) _ _ sampler
    (skip (eqb k 11) _ _ acceleration
    (skip (eqb k 12) _ _ (plain _) bindingArray))))))))))))

-- what a test for the kind n makes, where it is r for that kind and r for any other
pub told-by {ℓ} : {B : Type ℓ} (g : Bool → B) (r : B) (k n : ℕ) → (k ≡ n → g true ≡ r) → ((k ≡ n → ⊥) → g false ≡ r) → g (eqb k n) ≡ r
told-by g r k n same other = go (eqb k n) refl
  where
    go : (t : Bool) → eqb k n ≡ t → g t ≡ r
    go true e = same (eqb-true k n e)
    go false e = other (eqb-false k n e)

-- no kind lies above 13
pub no_kind : (m kind a b c d e : ℕ) → 13 < kind → fields_ok m kind a b c d e ≡ false
unfolding fields_ok
no_kind m kind a b c d e h =
    let other : (k : ℕ) → k ≤ 13 → eqb kind k ≡ false = λ k l. ne_eqb kind k (λ q. omega arith) in
    rw (
      other 0 (omega arith),
      other 1 (omega arith),
      other 2 (omega arith),
      other 3 (omega arith),
      other 4 (omega arith),
      other 5 (omega arith),
      other 6 (omega arith),
      other 7 (omega arith),
      other 8 (omega arith),
      other 9 (omega arith),
      other 10 (omega arith),
      other 11 (omega arith),
      other 12 (omega arith),
      other 13 (omega arith),
    ) refl
