-- Laws of roundUp: it gives the next multiple; and where it leaves 32 bits.
-- Assumes nothing.
use Rattle.std.proofs.Common.{◌≡◌, ℕ, ◌+◌, ◌/◌, ◌%◌, ◌<◌, ◌≤◌, true, false, leb, sym, ◌∙◌, mod-lt, add-mul, one-mul, div-add-mod', arith, eq-eqb, ne_eqb, le-leb}
use Prim.Native.Nat.{◌∣◌}
use native.Mathlib.Nat.{dvd-mul_left}
use native.Mathlib.Decide.{ℕ_discrete, dec_le}
use borrow.Author.Tests.{lt-leb}
use Rattle.proc_alignment.specs.Alignment.{divide, ceiling, round_up, most}

module _ (k n : ℕ) (positive : 1 ≤ k) where
  -- it gives a multiple of k
  pub round_up_multiple : k ∣ round_up k n
  round_up_multiple = dvd-mul_left k (ceiling (divide n k))

  -- that is at least n and less than n + k
  pub round_up_next : (n ≤ round_up k n) × (round_up k n < n + k)
  round_up_next = go (ℕ_discrete (n % k) 0)
    where
      go : Dec (n % k ≡ 0) → (n ≤ round_up k n) × (round_up k n < n + k)
      go (yes e) = rw (eq-eqb (n % k) 0 e) (omega (arith, div-add-mod' n k))
      go (no e) = rw (ne_eqb (n % k) 0 e) (omega (arith, div-add-mod' n k, mod-lt n positive, add-mul (n / k) 1 k, one-mul k))

-- rounded up to 16 a number leaves 32 bits just where its sum with 15 does, which the Rust makes: 16 divides 2 ^ 32
rounded_most : (n : ℕ) → leb (n + 15) most ≡ leb (round_up 16 n) most
rounded_most n = go (dec_le (n + 15) most)
  where
    go : Dec (n + 15 ≤ most) → leb (n + 15) most ≡ leb (round_up 16 n) most
    go (yes h) = le-leb (n + 15) most h ∙ sym (le-leb (round_up 16 n) most (omega (arith, (round_up_next 16 n (omega arith)).1)))
    go (no h) =
        lt-leb (n + 15) most (omega arith)
        ∙ sym (lt-leb (round_up 16 n) most (omega (arith, (round_up_next 16 n (omega arith)).0)))

pub sum_within : (n : ℕ) → round_up 16 n ≤ most → leb (n + 15) most ≡ true
sum_within n h = rounded_most n ∙ le-leb (round_up 16 n) most h

pub sum_over : (n : ℕ) → most < round_up 16 n → leb (n + 15) most ≡ false
sum_over n h = rounded_most n ∙ lt-leb (round_up 16 n) most h
