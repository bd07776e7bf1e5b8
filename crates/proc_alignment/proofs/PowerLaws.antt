-- Laws of powers of two: the larger of two is one of them, products are ones, and the smaller divides the larger.
-- Assumes nothing.
use Rattle.std.proofs.Common.{◌≡◌, ℕ, suc, ◌+◌, ◌-◌, ◌*◌, ◌%◌, ◌^◌, ◌<◌, ◌≤◌, max, Bool, true, false, ◌||◌, T, eqb, ◌⊎◌, sym, ap, ◌∙◌, subst, inl, inr, le_trans, mul-le-mul_right, mul-le-mul_left, arith, eqb→eq, pow_pos, pow-add}
use Prim.Native.Nat.{◌∣◌}
use native.Mathlib.Nat.{dvd-mul_left, dvd_of_mod-eq-zero, max-eq_left, max-eq_right}
use native.Mathlib.Decide.{dec_le}
use lib.Pow.{pow-lt}
use Rattle.ir_records.specs.Result.{pick}
use Rattle.ir_records.specs.Fields.{cooperative_size_ok}
use Rattle.ir_records.proofs.ResultLaws.{or_cases}
use Rattle.proc_alignment.specs.Alignment.{Power, power_of_two, vector_alignment, is_aligned}

at_power : (w e : ℕ) → T (eqb w (2 ^ e)) → Power w
at_power w e t = record { exponent = e; is = eqb→eq w (2 ^ e) t }

pub power_of_width : (w : ℕ) → T (power_of_two w) → Power w
power_of_width w t =
    split (eqb w 1 || eqb w 2 || eqb w 4 || eqb w 8 || eqb w 16 || eqb w 32 || eqb w 64) 7
    (split (eqb w 1 || eqb w 2 || eqb w 4 || eqb w 8 || eqb w 16 || eqb w 32) 6
    (split (eqb w 1 || eqb w 2 || eqb w 4 || eqb w 8 || eqb w 16) 5
    (split (eqb w 1 || eqb w 2 || eqb w 4 || eqb w 8) 4
    (split (eqb w 1 || eqb w 2 || eqb w 4) 3
    (split (eqb w 1 || eqb w 2) 2
    (split (eqb w 1) 1 (at_power w 0))))))) t
  where
    split : (b : Bool) (e : ℕ) → (T b → Power w) → T (b || eqb w (2 ^ e)) → Power w
    split b e f t = go (or_cases b (eqb w (2 ^ e)) t)
      where
        go : T b ⊎ T (eqb w (2 ^ e)) → Power w
        go (inl x) = f x
        go (inr x) = at_power w e x

pub power_positive : {a : ℕ} → Power a → 1 ≤ a
power_positive p = rw p.is (pow_pos p.exponent)

pub power_vector : (n w : ℕ) → Power w → Power (vector_alignment n * w)
power_vector n w p = go (eqb n 2)
  where
    go : (b : Bool) → Power (pick b 2 4 * w)
    go true = record { exponent = suc p.exponent; is = rw p.is (omega arith) }
    go false = record { exponent = suc (suc p.exponent); is = rw p.is (omega arith) }

pub power_product : (a b : ℕ) → Power a → Power b → Power (a * b)
power_product a b p q =
    record { exponent = p.exponent + q.exponent; is = rw (p.is, q.is) (sym (pow-add 2 p.exponent q.exponent)) }

pub le_cases : (m n : ℕ) → (m ≤ n) ⊎ (n ≤ m)
le_cases m n = go (dec_le m n)
  where
    go : Dec (m ≤ n) → (m ≤ n) ⊎ (n ≤ m)
    go (yes h) = inl h
    go (no h) = inr (omega arith)

pub power_max : (a b : ℕ) → Power a → Power b → Power (max a b)
power_max a b p q = go (le_cases a b)
  where
    go : (a ≤ b) ⊎ (b ≤ a) → Power (max a b)
    go (inl h) = record { exponent = q.exponent; is = max-eq_right h ∙ q.is }
    go (inr h) = record { exponent = p.exponent; is = max-eq_left h ∙ p.is }

pow_dvd : (i j : ℕ) → 2 ^ i ≤ 2 ^ j → 2 ^ i ∣ 2 ^ j
pow_dvd i j h = go (dec_le i j)
  where
    go : Dec (i ≤ j) → 2 ^ i ∣ 2 ^ j
    go (yes k) =
        let e : j ≡ (j - i) + i = omega arith in
        subst (λ (x : ℕ). 2 ^ i ∣ x) (sym (ap (λ (x : ℕ). 2 ^ x) e ∙ pow-add 2 (j - i) i)) (dvd-mul_left (2 ^ i) (2 ^ (j - i)))
    go (no k) =
        let l : j < i = omega arith in
        let m : 2 ^ j < 2 ^ i = pow-lt l in
        absurd (omega arith)

pub power_divides : (a b : ℕ) → Power a → Power b → a ≤ b → a ∣ b
power_divides a b p q h = rw (p.is, q.is) (pow_dvd p.exponent q.exponent (rw (p.is, q.is) at h))

pub aligned_divides : (a n : ℕ) → T (is_aligned a n) → a ∣ n
aligned_divides a n t = dvd_of_mod-eq-zero a (eqb→eq (n % a) 0 t)

-- ---- products and vector alignments within bounds, so that they fit 32 bits
pub mul_within : (a b : ℕ) {m n : ℕ} → a ≤ m → b ≤ n → a * b ≤ m * n
mul_within a b {m} {n} ha hb = le_trans (mul-le-mul_left a hb) (mul-le-mul_right n ha)

pub vector_within : (n : ℕ) → vector_alignment n ≤ 4
vector_within n = go (eqb n 2)
  where
    go : (b : Bool) → pick b 2 4 ≤ 4
    go true = omega arith
    go false = omega arith

pub cooperative_within : (n : ℕ) → T (cooperative_size_ok n) → n ≤ 16
cooperative_within n t = go (or_cases (eqb n 8) (eqb n 16) t)
  where
    go : T (eqb n 8) ⊎ T (eqb n 16) → n ≤ 16
    go (inl e) = omega (arith, eqb→eq n 8 e)
    go (inr e) = omega (arith, eqb→eq n 16 e)

pub power_cooperative : (n : ℕ) → T (cooperative_size_ok n) → Power n
power_cooperative n t = go (or_cases (eqb n 8) (eqb n 16) t)
  where
    go : T (eqb n 8) ⊎ T (eqb n 16) → Power n
    go (inl e) = at_power n 3 e
    go (inr e) = at_power n 4 e
