-- Laws of kept parts: keeping one changes no other, and nothing is kept where none is.
-- Assumes nothing.
use mathlib.Core.Path.{◌≡◌, refl, sym, ap, ◌∙◌}
use mathlib.Core.List.{List, []}
use Prim.Native.Nat.{ℕ, suc, ◌≤◌, ◌<◌}
use native.Mathlib.Decide.{ℕ_discrete, dec_le}
use native.Mathlib.Omega.{arith}
use lib.ListN.{length, get_or, set, replicate, get_or-replicate, get_or-eq_default, length-set, length-replicate}
use lib.Seq.{get_or-set_same, get_or-set_other}
use Rattle.std.specs.Prelude.{Option, Some, None}
use Rattle.std.proofs.lemmas.Option.{none-some, same_Some}
use Rattle.immediates_part.specs.Part.{Part, part_found}
use Rattle.immediates_part.specs.declared.Part as code
use Rattle.immediates_kept.specs.declared.Kept.{Kept}
use Rattle.immediates_kept.specs.declared.Kept.TheVariants.{Unwalked}
use Rattle.immediates_kept.specs.Kept.{part_kept, kept_of, Keeps}

-- a part that is kept is the one that was to be
pub part_of_kept : (part : Option code.Part) → part_kept (kept_of part) ≡ Some part
part_of_kept (Some p) = refl
part_of_kept None = refl

-- a part that f gives may be kept
pub keeps_more : (kept : List (List Kept)) (ty low : ℕ) → ty < length kept → (f : ℕ → ℕ → Part) (part : Option code.Part)
    → part_found part ≡ f ty low → Keeps f kept → Keeps f (set kept ty (set (get_or kept ty []) low (kept_of part)))
keeps_more kept ty low long f part e all t l p h is = go (ℕ_discrete t ty)
  where
    own : List Kept
    own = get_or kept ty []

    row : List Kept
    row = set own low (kept_of part)

    -- what stands at the place that was written is the part
    written : part_kept (get_or row low Unwalked) ≡ Some p → Dec (suc low ≤ length own) → Some part ≡ Some p
    written s (yes few) = sym (part_of_kept part) ∙ sym (ap part_kept (get_or-set_same own low (kept_of part) Unwalked few)) ∙ s
    written s (no past) = absurd (none-some p (sym (ap part_kept (get_or-eq_default row Unwalked (omega (arith, past, length-set own low (kept_of part))))) ∙ s))

    at_ty : t ≡ ty → part_kept (get_or row l Unwalked) ≡ Some p → Dec (l ≡ low) → part_found p ≡ f t l
    at_ty type s (yes same) =
        let found : part ≡ p = same_Some part p (written (ap (λ (i : ℕ). part_kept (get_or row i Unwalked)) (sym same) ∙ s) (dec_le (suc low) (length own))) in
        rw (← found, type, same) e
    at_ty type s (no other) = rw type (all ty l p h (ap part_kept (sym (get_or-set_other own low l (kept_of part) Unwalked other)) ∙ s))

    go : Dec (t ≡ ty) → part_found p ≡ f t l
    go (yes same) =
        let here : get_or (set kept ty row) ty [] ≡ row = get_or-set_same kept ty row [] long in
        at_ty same (sym (ap (λ (r : List Kept). part_kept (get_or r l Unwalked)) (ap (λ (i : ℕ). get_or (set kept ty row) i []) same ∙ here)) ∙ is) (ℕ_discrete l low)
    go (no other) = all t l p h (sym (ap (λ (r : List Kept). part_kept (get_or r l Unwalked)) (get_or-set_other kept ty t row [] other)) ∙ is)

-- nothing is kept where there is Unwalked everywhere
pub keeps_nothing : (f : ℕ → ℕ → Part) (none : List (List Kept)) (n : ℕ) → none ≡ replicate n (replicate 4 Unwalked) → Keeps f none
keeps_nothing f none n e ty low part h is =
    absurd (none-some part (sym (ap part_kept (nothing (dec_le (suc ty) n))) ∙ is))
  where
    nothing : Dec (suc ty ≤ n) → get_or (get_or none ty []) low Unwalked ≡ Unwalked
    nothing (yes l) =
        ap (λ (r : List Kept). get_or r low Unwalked) (ap (λ (k : List (List Kept)). get_or k ty []) e ∙ get_or-replicate n ty (replicate 4 Unwalked) [] l)
        ∙ get_or-replicate 4 low Unwalked Unwalked h
    nothing (no l) =
        let long : length none ≡ n = rw e (length-replicate n (replicate 4 Unwalked)) in
        ap (λ (r : List Kept). get_or r low Unwalked) (get_or-eq_default none [] (omega (arith, l, long)))
