-- The number of an order: each order has one, and the lesser number is the first order by member numbers.
-- Assumes nothing.
use mathlib.Core.Path.{◌≡◌, refl, sym, ap, ◌∙◌}
use Prim.Native.Nat.{ℕ, zero, suc, ◌+◌, ◌-◌, ◌*◌, ◌/◌, ◌%◌, ◌^◌, ◌≤◌, ◌<◌}
use native.Mathlib.Nat.{div-one, div-div-eq-div-mul, pow-suc, pow-succ'}
use native.Mathlib.Decide.{ℕ_discrete, dec_le}
use native.Mathlib.Omega.{arith}
use lib.ListN.{get_or}
use Rattle.order_numbers.specs.Order.{Before, member_at, powers}

-- ---- the table of powers
pub power_is : (k : ℕ) → k ≤ 7 → get_or powers k 0 ≡ 7 ^ k
power_is zero h = refl
power_is (suc zero) h = refl
power_is (suc (suc zero)) h = refl
power_is (suc (suc (suc zero))) h = refl
power_is (suc (suc (suc (suc zero)))) h = refl
power_is (suc (suc (suc (suc (suc zero))))) h = refl
power_is (suc (suc (suc (suc (suc (suc zero)))))) h = refl
power_is (suc (suc (suc (suc (suc (suc (suc zero))))))) h = refl
power_is (suc (suc (suc (suc (suc (suc (suc (suc k)))))))) h = absurd (omega arith)

-- ---- digits: the last, and those before it
digit_last : (n a : ℕ) → member_at (suc n) a n ≡ a % 7
unfolding member_at
digit_last n a =
    let z : suc n - 1 - n ≡ 0 = omega arith in
    ap (λ (k : ℕ). a / 7 ^ k % 7) z ∙ ap (λ (x : ℕ). x % 7) (div-one a)

digit_before : (n a j : ℕ) → j < n → member_at (suc n) a j ≡ member_at n (a / 7) j
unfolding member_at
digit_before n a j h =
    let z : suc n - 1 - j ≡ suc (n - 1 - j) = omega arith in
    ap (λ (k : ℕ). a / 7 ^ k % 7) z
    ∙ ap (λ (x : ℕ). a / x % 7) (pow-succ' 7 (n - 1 - j))
    ∙ ap (λ (x : ℕ). x % 7) (sym (div-div-eq-div-mul a 7 (7 ^ (n - 1 - j))))

-- ---- each order has a number
abbrev pub number_of : (member : ℕ → ℕ) → ℕ → ℕ
number_of member zero = 0
number_of member (suc n) = number_of member n * 7 + member n

pub number_below : (member : ℕ → ℕ) (n : ℕ) → ((j : ℕ) → j < n → member j < 7) → number_of member n < 7 ^ n
number_below member zero h = omega arith
number_below member (suc n) h = omega (arith, number_below member n (λ j l. h j (omega arith)), h n (omega arith), pow-suc 7 n)

pub number_digit : (member : ℕ → ℕ) (n : ℕ) → ((j : ℕ) → j < n → member j < 7) → (j : ℕ) → j < n → member_at n (number_of member n) j ≡ member j
number_digit member zero h j l = absurd (omega arith)
number_digit member (suc n) h j l = go (ℕ_discrete j n) (λ k. number_digit member n (λ i m. h i (omega arith)) j k)
  where
    seven : member n < 7
    seven = h n (omega arith)

    go : Dec (j ≡ n) → (j < n → member_at n (number_of member n) j ≡ member j) → member_at (suc n) (number_of member n * 7 + member n) j ≡ member j
    go (yes d) ih =
        let last : (number_of member n * 7 + member n) % 7 ≡ member n = omega (arith, seven) in
        rw d (digit_last n (number_of member n * 7 + member n) ∙ last)
    go (no d) ih =
        let front : (number_of member n * 7 + member n) / 7 ≡ number_of member n = omega (arith, seven) in
        digit_before n (number_of member n * 7 + member n) j (omega arith) ∙ ap (λ (x : ℕ). member_at n x j) front ∙ ih (omega arith)

-- ---- the lesser number comes first
pub number_before : (n a b : ℕ) → a < b → b < 7 ^ n → Before n (member_at n a) (member_at n b)
number_before zero a b h l = absurd (omega arith)
number_before (suc n) a b h l = go (dec_le (b / 7) (a / 7)) (λ k. number_before n (a / 7) (b / 7) k (omega (arith, pow-suc 7 n)))
  where
    go : Dec (b / 7 ≤ a / 7) → (a / 7 < b / 7 → Before n (member_at n (a / 7)) (member_at n (b / 7))) → Before (suc n) (member_at (suc n) a) (member_at (suc n) b)
    go (yes d) ih =
        let e : a / 7 ≡ b / 7 = omega arith in
        let last : a % 7 < b % 7 = omega arith in
        record {
          place = n;
          inside = omega arith;
          alike = λ h m. digit_before n a h m ∙ ap (λ (x : ℕ). member_at n x h) e ∙ sym (digit_before n b h m);
          less = rw (digit_last n a, digit_last n b) last;
        }
    go (no d) ih =
        let r = ih (omega arith) in
        record {
          place = r.place;
          inside = omega (arith, r.inside);
          alike = λ h m. digit_before n a h (omega (arith, r.inside)) ∙ r.alike h m ∙ sym (digit_before n b h (omega (arith, r.inside)));
          less = rw (digit_before n a r.place r.inside, digit_before n b r.place r.inside) r.less;
        }
