-- Laws of bits: a bit of a meet of two words is a bit of both, and a bit of either is a bit of their join.
-- Assumes nothing.
use mathlib.Core.Path.{◌≡◌, sym, ◌∙◌, ap}
use Prim.Native.Nat.{ℕ, ◌/◌, ◌%◌, ◌^◌}
use native.Mathlib.Omega.{arith}
use lib.Dec.{T, eqb, eqb→eq, eqb_refl}
use lib.Bits.{bit_and, bit_or, and_shr, and_step, or_shr, or_step}
use Rattle.valid_flags.specs.Flags.{bit}

-- equal numbers are equal to the test
equal_test : (m n : ℕ) → m ≡ n → T (eqb m n)
equal_test m n e = rw e (eqb_refl n)

-- a bit of a meet is a bit of both words
pub bit-and : (x y k : ℕ) → T (bit (bit_and x y) k) → T (bit x k) × T (bit y k)
bit-and x y k t =
    let e : bit_and x y / 2 ^ k % 2 ≡ 1 = eqb→eq (bit_and x y / 2 ^ k % 2) 1 t in
    let a = x / 2 ^ k in
    let b = y / 2 ^ k in
    let f : bit_and a b % 2 ≡ 1 = sym (ap (λ (z : ℕ). z % 2) (and_shr x y k)) ∙ e in
    let g = and_step a b in
    (equal_test (a % 2) 1 (omega arith), equal_test (b % 2) 1 (omega arith))

-- a bit of both words is a bit of their meet
pub bit_and_both : (x y k : ℕ) → T (bit x k) → T (bit y k) → T (bit (bit_and x y) k)
bit_and_both x y k t u =
    let a = x / 2 ^ k in
    let b = y / 2 ^ k in
    let e : a % 2 ≡ 1 = eqb→eq (a % 2) 1 t in
    let f : b % 2 ≡ 1 = eqb→eq (b % 2) 1 u in
    let g = and_step a b in
    let h : bit_and a b % 2 ≡ 1 = omega arith in
    equal_test (bit_and x y / 2 ^ k % 2) 1 (ap (λ (z : ℕ). z % 2) (and_shr x y k) ∙ h)

-- a bit of the first word is a bit of the join
pub bit_or_left : (x y k : ℕ) → T (bit x k) → T (bit (bit_or x y) k)
bit_or_left x y k t =
    let a = x / 2 ^ k in
    let b = y / 2 ^ k in
    let e : a % 2 ≡ 1 = eqb→eq (a % 2) 1 t in
    let g = or_step a b in
    let h : bit_or a b % 2 ≡ 1 = omega arith in
    equal_test (bit_or x y / 2 ^ k % 2) 1 (ap (λ (z : ℕ). z % 2) (or_shr x y k) ∙ h)

-- a bit of the second word is a bit of the join
pub bit_or_right : (x y k : ℕ) → T (bit y k) → T (bit (bit_or x y) k)
bit_or_right x y k t =
    let a = x / 2 ^ k in
    let b = y / 2 ^ k in
    let e : b % 2 ≡ 1 = eqb→eq (b % 2) 1 t in
    let g = or_step a b in
    let h : bit_or a b % 2 ≡ 1 = omega arith in
    equal_test (bit_or x y / 2 ^ k % 2) 1 (ap (λ (z : ℕ). z % 2) (or_shr x y k) ∙ h)
