-- A number that shares no binary digit with the number before it is a power of two, and the number before it masks its remainders.
-- Assumes nothing.
use Rattle.std.proofs.Common.{◌≡◌, ℕ, zero, suc, ◌+◌, ◌-◌, ◌/◌, ◌%◌, ◌^◌, ◌<◌, Bool, true, false, ◌&&◌, eqb, ◌⊎◌, refl, ap, inl, inr, pow-suc, arith, eqb-true}
use native.Mathlib.Nat.{mod-zero}
use lib.Arith.{bin_ind}
use lib.Bits.{bit_and, and_step, and_self, and_mask, and_zero_l}
use Rattle.proc_alignment.specs.Alignment.{Power, is_mask, is_aligned}

parity : (n : ℕ) → (n % 2 ≡ 0) ⊎ (n % 2 ≡ 1)
parity n = go (n % 2) (omega arith)
  where
    go : (r : ℕ) → r < 2 → (r ≡ 0) ⊎ (r ≡ 1)
    go zero h = inl refl
    go (suc zero) h = inr refl
    go (suc (suc r)) h = absurd (omega arith)

-- twice a power of two is one
twice : (n : ℕ) → n % 2 ≡ 0 → Power (n / 2) → Power n
twice n e p =
    let half = p.is in
    record { exponent = suc p.exponent; is = rw (pow-suc 2 p.exponent) (omega arith) }

by_half : (n : ℕ) → (0 < n / 2 → bit_and (n / 2) (n / 2 - 1) ≡ 0 → Power (n / 2)) → 0 < n → bit_and n (n - 1) ≡ 0 → Power n
by_half n half h e = go (parity n)
  where
    go : (n % 2 ≡ 0) ⊎ (n % 2 ≡ 1) → Power n
    go (inl even) =
        let before : (n - 1) / 2 ≡ n / 2 - 1 = omega arith in
        let digits = rw before at (and_step n (n - 1)) in
        twice n even (half (omega arith) (omega arith))
    go (inr odd) =
        let before : (n - 1) / 2 ≡ n / 2 = omega arith in
        let digits = rw (before, and_self (n / 2)) at (and_step n (n - 1)) in
        record { exponent = 0; is = omega arith }

pub power_of_mask : (a : ℕ) → 0 < a → bit_and a (a - 1) ≡ 0 → Power a
power_of_mask =
    bin_ind (λ (a : ℕ). 0 < a → bit_and a (a - 1) ≡ 0 → Power a) (λ h e. absurd (omega arith)) by_half

pub mask_remainder : (a n : ℕ) → 0 < a → bit_and a (a - 1) ≡ 0 → bit_and n (a - 1) ≡ n % a
mask_remainder a n h e = let p = power_of_mask a h e in rw p.is (and_mask n p.exponent)

-- the number before a, which wraps around at 0
before_zero : (r : ℕ) → r < 4294967296 → (r + 1) % 4294967296 ≡ 0 → r ≡ 2 ^ 32 - 1
before_zero r h e = omega arith

before : (a r : ℕ) → r < 4294967296 → (r + 1) % 4294967296 ≡ suc a → r ≡ suc a - 1
before a r h e = omega arith

-- one test of both: the alignment is a power of two or 0, and n is a multiple of it
pub masked : (a n r : ℕ) → n < 4294967296 → r < 4294967296 → (r + 1) % 4294967296 ≡ a
    → (eqb (bit_and a r) 0 && eqb (bit_and n r) 0) ≡ (is_mask a && is_aligned a n)
masked zero n r hn hr e =
    let last = before_zero r hr e in
    let whole : n % 4294967296 ≡ n = omega arith in
    rw (and_zero_l r, last, and_mask n 32, whole, mod-zero) refl
masked (suc a) n r hn hr e = rw (before a r hr e) (go (is_mask (suc a)) refl)
  where
    go : (b : Bool) → is_mask (suc a) ≡ b → (b && eqb (bit_and n (suc a - 1)) 0) ≡ (b && is_aligned (suc a) n)
    go true m = ap (λ (x : ℕ). eqb x 0) (mask_remainder (suc a) n (omega arith) (eqb-true (bit_and (suc a) (suc a - 1)) 0 m))
    go false m = refl
