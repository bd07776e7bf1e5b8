-- Laws of masks: a number below 2 ^ n is the mask of its own bits, a mask has the bits of its test, and the bits of meet, join and complement.
-- Assumes nothing.
use mathlib.Core.Path.{◌≡◌, refl, sym, ap, ◌∙◌}
use mathlib.Core.Bool.{Bool, true, false, ◌&&◌, ◌||◌, not, and-true, and-false}
use Prim.Native.Nat.{ℕ, zero, suc, ◌+◌, ◌-◌, ◌*◌, ◌/◌, ◌%◌, ◌^◌, ◌<◌, min, max}
use native.Mathlib.Nat.{not-suc-le-zero, add-zero, lt_of_le_of_lt, mod-lt, mod-eq_of_lt, mod-one, pow-suc, zero-lt-suc}
use native.Mathlib.Numerals.{one-add}
use native.Mathlib.Decide.{ℕ_discrete}
use native.Mathlib.Omega.{arith}
use lib.Dec.{eqb}
use lib.Pow.{pow_pos, mod-pow-add}
use lib.Bits.{bit_and, bit_or, and_shr, and_step, and_le_l, or_shr, or_step, or_lt}
use borrow.Author.Tests.{ne_eqb}
use Rattle.ir_records.specs.Result.{pick}
use Rattle.valid_flags.specs.Flags.{bit}
use Rattle.immediates_ranges.specs.Slots.{mask_of, contains_below}

-- equal tests make equal masks
pub mask_same : (f g : ℕ → Bool) (n : ℕ) → ((k : ℕ) → k < n → f k ≡ g k) → mask_of f n ≡ mask_of g n
unfolding mask_of
mask_same f g zero h = refl
mask_same f g (suc n) h = rw (mask_same f g n (λ k l. h k (omega arith)), h n (omega arith)) refl

-- one more digit, set or clear, stays below the next power
more_lt : (a p q : ℕ) → a < p → q ≡ p * 2 → (b : Bool) → a + pick b p 0 < q
more_lt a p q h e true = omega arith
more_lt a p q h e false = omega arith

-- a mask of n tests is below 2 ^ n
pub mask_lt : (f : ℕ → Bool) (n : ℕ) → mask_of f n < 2 ^ n
unfolding mask_of
mask_lt f zero = zero-lt-suc 0
mask_lt f (suc n) = more_lt (mask_of f n) (2 ^ n) (2 ^ suc n) (mask_lt f n) (pow-suc 2 n) (f n)

-- a digit is 0 or 1
digit : (d p : ℕ) → d < 2 → pick (eqb d 1) p 0 ≡ d * p
digit zero p h = omega arith
digit (suc zero) p h = omega arith
digit (suc (suc d)) p h = absurd (omega arith)

-- the mask of the first n bits of a number
mask_digits : (m n : ℕ) → mask_of (bit m) n ≡ m % 2 ^ n
unfolding mask_of
mask_digits m zero = sym (mod-one m)
mask_digits m (suc n) =
    let more : m % 2 ^ suc n ≡ (m / 2 ^ n % 2) * 2 ^ n + m % 2 ^ n = rw one-add at (mod-pow-add m 1 n) in
    rw (mask_digits m n, digit (m / 2 ^ n % 2) (2 ^ n) (mod-lt (m / 2 ^ n) (zero-lt-suc 1))) (omega arith)

-- a number below 2 ^ n is the mask of its bits
pub number_mask : (m n : ℕ) → m < 2 ^ n → mask_of (bit m) n ≡ m
number_mask m n h = mask_digits m n ∙ mod-eq_of_lt h

-- two sums of a number below p, and p or nothing, are equal in both parts
parts : (a b p : ℕ) → a < p → b < p → (x y : Bool) → a + pick x p 0 ≡ b + pick y p 0 → (a ≡ b) × (x ≡ y)
parts a b p h l true true e = (omega arith, refl)
parts a b p h l true false e = absurd (omega arith)
parts a b p h l false true e = absurd (omega arith)
parts a b p h l false false e = (omega arith, refl)

-- equal masks come from equal tests
mask_test : (f g : ℕ → Bool) (n : ℕ) → mask_of f n ≡ mask_of g n → (k : ℕ) → k < n → f k ≡ g k
unfolding mask_of
mask_test f g zero e k h = absurd (not-suc-le-zero h)
mask_test f g (suc n) e k h =
    let p = parts (mask_of f n) (mask_of g n) (2 ^ n) (mask_lt f n) (mask_lt g n) (f n) (g n) e in
    go (mask_test f g n p.0) p.1 (ℕ_discrete k n)
  where
    go : ((i : ℕ) → i < n → f i ≡ g i) → f n ≡ g n → Dec (k ≡ n) → f k ≡ g k
    go ih last (yes q) = rw q last
    go ih last (no q) = ih k (omega arith)

-- bit k of a mask is the test at k
pub bit_mask : (f : ℕ → Bool) (n k : ℕ) → k < n → bit (mask_of f n) k ≡ f k
bit_mask f n k h = mask_test (bit (mask_of f n)) f n (number_mask (mask_of f n) n (mask_lt f n)) k h

-- ---- meet, join and complement
-- the smaller of two digits
and_digit : (a b : ℕ) → a < 2 → b < 2 → eqb (min a b) 1 ≡ (eqb a 1 && eqb b 1)
and_digit zero zero h l = refl
and_digit zero (suc zero) h l = refl
and_digit (suc zero) zero h l = refl
and_digit (suc zero) (suc zero) h l = refl
and_digit (suc (suc a)) b h l = absurd (omega arith)
and_digit zero (suc (suc b)) h l = absurd (omega arith)
and_digit (suc zero) (suc (suc b)) h l = absurd (omega arith)

-- the larger of two digits
or_digit : (a b : ℕ) → a < 2 → b < 2 → eqb (max a b) 1 ≡ (eqb a 1 || eqb b 1)
or_digit zero zero h l = refl
or_digit zero (suc zero) h l = refl
or_digit (suc zero) zero h l = refl
or_digit (suc zero) (suc zero) h l = refl
or_digit (suc (suc a)) b h l = absurd (omega arith)
or_digit zero (suc (suc b)) h l = absurd (omega arith)
or_digit (suc zero) (suc (suc b)) h l = absurd (omega arith)

-- a bit of a meet
pub bit_meet : (x y k : ℕ) → bit (bit_and x y) k ≡ (bit x k && bit y k)
bit_meet x y k =
    let a = x / 2 ^ k in
    let b = y / 2 ^ k in
    let s = and_step a b in
    let low : bit_and a b % 2 ≡ min (a % 2) (b % 2) = omega arith in
    rw (and_shr x y k, low) (and_digit (a % 2) (b % 2) (mod-lt a (zero-lt-suc 1)) (mod-lt b (zero-lt-suc 1)))

-- a bit of a join
pub bit_join : (x y k : ℕ) → bit (bit_or x y) k ≡ (bit x k || bit y k)
bit_join x y k =
    let a = x / 2 ^ k in
    let b = y / 2 ^ k in
    let s = or_step a b in
    let low : bit_or a b % 2 ≡ max (a % 2) (b % 2) = omega arith in
    rw (or_shr x y k, low) (or_digit (a % 2) (b % 2) (mod-lt a (zero-lt-suc 1)) (mod-lt b (zero-lt-suc 1)))

-- one more slot of a mask and of the mask of the opposite test
opposite_more : (a b p q : ℕ) → a + b + 1 ≡ p → q ≡ p * 2 → (t : Bool) → (a + pick (not t) p 0) + (b + pick t p 0) + 1 ≡ q
opposite_more a b p q h e true = omega arith
opposite_more a b p q h e false = omega arith

-- a mask and the mask of the opposite test have all n bits together
opposite : (f : ℕ → Bool) (n : ℕ) → mask_of (λ k. not (f k)) n + mask_of f n + 1 ≡ 2 ^ n
unfolding mask_of
opposite f zero = refl
opposite f (suc n) =
    opposite_more (mask_of (λ k. not (f k)) n) (mask_of f n) (2 ^ n) (2 ^ suc n) (opposite f n) (pow-suc 2 n) (f n)

-- a bit of a complement
pub bit_complement : (x n k : ℕ) → x < 2 ^ n → k < n → bit ((2 ^ n - 1) - x) k ≡ not (bit x k)
bit_complement x n k h l =
    let e = number_mask x n h in
    let o = opposite (bit x) n in
    let same : (2 ^ n - 1) - x ≡ mask_of (λ i. not (bit x i)) n = omega arith in
    rw same (bit_mask (λ i. not (bit x i)) n k l)

-- ---- contains
-- one more slot: it is empty where every slot of `other` is in `this`
keeps : (m p : ℕ) → 0 < p → (o t : Bool) → (eqb m 0 && (not o || t)) ≡ eqb (m + pick (o && not t) p 0) 0
keeps m p h true true = rw (add-zero m) (and-true (eqb m 0))
keeps m p h true false = and-false (eqb m 0) ∙ sym (ne_eqb (m + p) 0 (λ (e : m + p ≡ 0). omega arith))
keeps m p h false t = rw (add-zero m) (and-true (eqb m 0))

-- every slot of `other` below n is in `this` where the mask of those that are not is empty
pub contains_mask : (this other n : ℕ) → contains_below this other n ≡ eqb (mask_of (λ k. bit other k && not (bit this k)) n) 0
unfolding mask_of contains_below
contains_mask this other zero = refl
contains_mask this other (suc n) =
    rw (contains_mask this other n)
    (keeps (mask_of (λ k. bit other k && not (bit this k)) n) (2 ^ n) (pow_pos n) (bit other n) (bit this n))

-- ---- the words that the code makes of two masks of n slots
-- the slots of `this` that are not in `other`
pub difference_word : (this other n : ℕ) → this < 2 ^ n → other < 2 ^ n
    → bit_and this ((2 ^ n - 1) - other) ≡ mask_of (λ k. bit this k && not (bit other k)) n
difference_word this other n h l =
    let m = bit_and this ((2 ^ n - 1) - other) in
    sym (number_mask m n (lt_of_le_of_lt (and_le_l this ((2 ^ n - 1) - other)) h))
    ∙ mask_same (bit m) (λ k. bit this k && not (bit other k)) n
    (λ k i. bit_meet this ((2 ^ n - 1) - other) k ∙ ap (λ (b : Bool). bit this k && b) (bit_complement other n k l i))

-- the slots of both
pub union_word : (this other n : ℕ) → this < 2 ^ n → other < 2 ^ n → bit_or this other ≡ mask_of (λ k. bit this k || bit other k) n
union_word this other n h l =
    sym (number_mask (bit_or this other) n (or_lt n this other h l))
    ∙ mask_same (bit (bit_or this other)) (λ k. bit this k || bit other k) n (λ k i. bit_join this other k)

-- whether no slot of `other` is missing in `this`
pub contains_word : (this other n : ℕ) → this < 2 ^ n → other < 2 ^ n
    → eqb (bit_and other ((2 ^ n - 1) - this)) 0 ≡ contains_below this other n
contains_word this other n h l = ap (λ (m : ℕ). eqb m 0) (difference_word other this n l h) ∙ sym (contains_mask this other n)
