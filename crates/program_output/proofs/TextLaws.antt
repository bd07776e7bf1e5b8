-- The digits of a number.
-- Assumes nothing.
use mathlib.Core.Path.{◌≡◌, ap}
use mathlib.Core.List.{List, [], ◌∷◌, ◌++◌}
use Prim.Native.Nat.{ℕ, zero, suc, ◌-◌, ◌/◌, ◌%◌, ◌^◌, ◌≤◌, ◌<◌}
use native.Mathlib.Nat.{pow-suc, one-le-pow, pow-le-pow_right}
use native.Mathlib.Decide.{dec_le}
use native.Mathlib.Omega.{arith}
use borrow.Author.Tests.{lt-ltb, le-ltb}
use Rattle.io.specs.Digits.{last_digits, hex_digit_ascii, IsDigitCount}
use Rattle.program_output.specs.Bytes.{decimal_in, digit}

below : (n : ℕ) → n < 10 → hex_digit_ascii (n % 10) ≡ digit n
below n h = let e : n % 10 ≡ n = omega arith in rw (e, lt-ltb n 10 h)

last : (n : ℕ) → hex_digit_ascii (n % 10) ≡ digit (n % 10)
last n = rw (lt-ltb (n % 10) 10 (omega arith))

pub fewest_digits : (k most n : ℕ) → IsDigitCount 10 1 n k → k ≤ most → last_digits 10 k n ≡ decimal_in most n
unfolding decimal_in
fewest_digits zero most n f h = absurd (omega arith)
fewest_digits (suc k) zero n f h = absurd (omega arith)
fewest_digits (suc zero) (suc most) n f h =
    let small : n < 10 = f.1 in
    rw (lt-ltb n 10 small, below n small)
fewest_digits (suc (suc k)) (suc most) n f h =
    let p = pow-suc 10 k in
    let q = pow-suc 10 (suc k) in
    let e : suc (suc k) - 1 ≡ suc k = omega arith in
    let large : 10 ^ suc k ≤ n = rw e at (f.2 (omega arith)) in
    let e' : suc k - 1 ≡ k = omega arith in
    let pos = one-le-pow k 10 (omega arith) in
    rw (le-ltb n 10 (omega (arith, p, large, pos)), last n)
    (ap (λ (l : List ℕ). l ++ (digit (n % 10) ∷ []))
    (fewest_digits (suc k) most (n / 10) (omega arith, omega (arith, f.1, q), λ _. rw e' (omega (arith, p, large))) (omega arith)))

pub fewest_few : (n k : ℕ) → IsDigitCount 10 1 n k → n < 18446744073709551616 → k ≤ 20
fewest_few n k f h = by (dec_le k 20)
  where
    by : Dec (k ≤ 20) → k ≤ 20
    by (yes few) = few
    by (no more) =
        let far : 20 ≤ k - 1 = omega arith in
        let ten : 0 < 10 = omega arith in
        let large : 10 ^ 20 ≤ 10 ^ (k - 1) = pow-le-pow_right ten far in
        absurd (omega (arith, f.2 (omega arith), large))
