-- Laws of what a type reaches, through pointer and binding-array bases too.
-- Assumes nothing.
use mathlib.Core.Path.{◌≡◌}
use Prim.Native.Nat.{ℕ, zero, suc, ◌≤◌, ◌<◌}
use native.Mathlib.Nat.{not-suc-le-zero, le_refl}
use native.Mathlib.Decide.{ℕ_discrete}
use native.Mathlib.Omega.{arith}
use Rattle.ir_records.specs.Record.{Decoded}
use Rattle.valid_type_info.specs.Verdict.{min_storage}
use Rattle.valid_arena.proofs.AcceptedLaws.{AcceptedTypes, array_row, runtime_array_row, member_earlier, pointer_row, binding_array_row}
use Rattle.valid_renaming.specs.Renaming.{Reaches, itself, element, runtime_element, member, pointed, bound, Agree}

-- the second arena, of n' types, holds each record that t reaches, and they agree
abbrev pub Closed : (f : ℕ → ℕ) (types types' : ℕ → Decoded) (n' : ℕ) → ℕ → Type 0
Closed f types types' n' t = (k : ℕ) → Reaches types t k → (f k < n') × Agree f types types' k

-- what holds of a type where it holds of the earlier ones holds of each
pub by_earlier : (P : ℕ → Type 0) (n : ℕ) → ((t : ℕ) → t < n → ((k : ℕ) → k < t → P k) → P t) → (t : ℕ) → t < n → P t
by_earlier P n step = below n (le_refl n)
  where
    below : (m : ℕ) → m ≤ n → (t : ℕ) → t < m → P t
    below zero l t h = absurd (not-suc-le-zero h)
    below (suc m) l t h = go (below m (omega arith)) (ℕ_discrete t m)
      where
        go : ((k : ℕ) → k < m → P k) → Dec (t ≡ m) → P t
        go ih (yes q) = step t (omega arith) (λ k r. ih k (omega arith))
        go ih (no q) = ih t (omega arith)

-- what a reached type reaches is reached
pub reaches_on : {types : ℕ → Decoded} {t k l : ℕ} → Reaches types t k → Reaches types k l → Reaches types t l
reaches_on itself r = r
reaches_on (element e q) r = element e (reaches_on q r)
reaches_on (runtime_element e q) r = runtime_element e (reaches_on q r)
reaches_on (member j e l q) r = member j e l (reaches_on q r)
reaches_on (pointed e q) r = pointed e (reaches_on q r)
reaches_on (bound e q) r = bound e (reaches_on q r)

-- what an accepted type reaches is itself or an earlier one
pub reaches_earlier : (c : ℕ) (types : ℕ → Decoded) (n : ℕ) → AcceptedTypes c types n → {t k : ℕ} → Reaches types t k → t < n → k ≤ t
reaches_earlier c types n acc {t} itself h = le_refl t
reaches_earlier c types n acc (element {t = t} {base = base} {count = count} {stride = stride} e r) h =
    let b = (array_row min_storage c types n acc t h base count stride e).0 in
    let l = reaches_earlier c types n acc r (omega arith) in omega arith
reaches_earlier c types n acc (runtime_element {t = t} {base = base} {stride = stride} e r) h =
    let b = (runtime_array_row min_storage c types n acc t h base stride e).0 in
    let l = reaches_earlier c types n acc r (omega arith) in omega arith
reaches_earlier c types n acc (member {t = t} {count = count} {span = span} j e g r) h =
    let b = member_earlier min_storage c types n acc t h count span e j g in
    let l = reaches_earlier c types n acc r (omega arith) in omega arith
reaches_earlier c types n acc (pointed {t = t} {base = base} {space = space} e r) h =
    let b = (pointer_row min_storage c types n acc t h base space e).0 in
    let l = reaches_earlier c types n acc r (omega arith) in omega arith
reaches_earlier c types n acc (bound {t = t} {base = base} {form = form} {count = count} e r) h =
    let b = (binding_array_row min_storage c types n acc t h base form count e).0 in
    let l = reaches_earlier c types n acc r (omega arith) in omega arith
