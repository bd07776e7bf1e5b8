-- What a record's words tell of it: whether it is a struct, and whether it is an external image.
-- Assumes nothing.
use mathlib.Core.Path.{◌≡◌, refl, sym}
use mathlib.Core.Bool.{true, false, ◌&&◌}
use Prim.Native.Nat.{ℕ}
use lib.Dec.{eqb}
use Rattle.ir_records.specs.Record.{inner_of, struct_kind, image_kind}
use Rattle.ir_records.proofs.KindLaws.{inner_alike, told-by}
use Rattle.valid_type_flags.specs.TypeFlags.{is_struct, is_external_image}

struct-kind : (k a b c d e : ℕ) → k ≡ struct_kind → is_struct (inner_of k a b c d e) ≡ true
unfolding inner_of
struct-kind k a b c d e h = rw h refl

pub struct_by_kind : (k a b c d e : ℕ) → eqb k struct_kind ≡ is_struct (inner_of k a b c d e)
struct_by_kind k a b c d e =
    told-by (λ t. t) (is_struct (inner_of k a b c d e)) k struct_kind (λ h. sym (struct-kind k a b c d e h))
    (λ h. sym (inner_alike is_struct false k a b c d e (λ leaf. refl) (λ t. (refl, refl)) (λ t. absurd (h t)) refl refl (λ t. refl) refl refl refl))

image-kind : (k a b c d e : ℕ) → k ≡ image_kind → is_external_image (inner_of k a b c d e) ≡ eqb c 2
unfolding inner_of
image-kind k a b c d e h = rw h refl

pub external_by_words : (k a b c d e : ℕ) → (eqb k image_kind && eqb c 2) ≡ is_external_image (inner_of k a b c d e)
external_by_words k a b c d e =
    told-by (λ t. t && eqb c 2) (is_external_image (inner_of k a b c d e)) k image_kind (λ h. sym (image-kind k a b c d e h))
    (λ h. sym (inner_alike is_external_image false k a b c d e (λ leaf. refl) (λ t. (refl, refl)) (λ t. refl) refl refl (λ t. absurd (h t)) refl refl refl))
