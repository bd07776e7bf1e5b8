-- A rule on the numbers below n, proved by one test that is computed at each of them.
-- Assumes nothing.
use Rattle.std.proofs.Common.{◌≡◌, ℕ, zero, suc, ◌<◌, Bool, true, false, ◌&&◌, T, sym, refl, subst, ⊎_elim, le_of_suc-le-suc, not-suc-le-zero, eq-or-lt_of_le}
use Rattle.ir_records.proofs.ResultLaws.{and_left, and_right}

abbrev pub all : (ℕ → Bool) → ℕ → Bool
all f zero = true
all f (suc n) = f n && all f n

pub holds : (f : ℕ → Bool) (n : ℕ) → T (all f n) → (k : ℕ) → k < n → T (f k)
holds f zero t k h = absurd (not-suc-le-zero h)
holds f (suc n) t k h =
    ⊎_elim (λ e. subst (λ (m : ℕ). T (f m)) (sym e) (and_left (f n) (all f n) t))
    (λ l. holds f n (and_right (f n) (all f n) t) k l)
    (eq-or-lt_of_le (le_of_suc-le-suc h))

abbrev pub same : Bool → Bool → Bool
same true b = b
same false true = false
same false false = true

pub same_eq : (a b : Bool) → T (same a b) → a ≡ b
same_eq true true t = refl
same_eq true false t = absurd t
same_eq false true t = absurd t
same_eq false false t = refl
