-- The shifts of a range: the mask of the slots that a part covers is that of the slots from offset / 4 up to the end, rounded up.
-- Assumes nothing.
use mathlib.Core.Path.{◌≡◌, refl, ◌∙◌}
use mathlib.Core.Bool.{Bool, true, false, ◌||◌}
use Prim.Native.Nat.{ℕ, zero, suc, ◌+◌, ◌-◌, ◌*◌, ◌/◌, ◌%◌, ◌^◌, ◌<◌, ◌≤◌, zero-le}
use native.Mathlib.Nat.{le_refl, add-zero, pow-suc, add-mul, mul_assoc}
use native.Mathlib.Decide.{le_ind, dec_le}
use native.Mathlib.Omega.{arith}
use lib.Dec.{T}
use lib.Pow.{pow_pos, pow-add, pow-sub-lt, ones_split, high_ones, ones_lt, high, low, mod-mod-pow}
use lib.Bits.{bit_and, and_mask}
use Rattle.ir_records.proofs.ResultLaws.{T_true}
use borrow.Author.Tests.{lt-ltb, le-ltb, le-leb, lt-leb}
use Rattle.immediates_ranges.specs.Slots.{in_part, covers, mask_of}

-- ---- masks of runs of slots
-- one slot more
one_set : (a b p q r : ℕ) → a + q ≡ b + p → r ≡ p * 2 → a + p + q ≡ b + r
one_set a b p q r e d = omega arith

-- one more on the right
le_step : {m n : ℕ} → m ≤ n → m ≤ suc n
le_step h = omega arith

module _ (f : ℕ → Bool) where
  -- slots n up to m all clear
  run_clear : (n m : ℕ) → n ≤ m → ((k : ℕ) → n ≤ k → k < m → f k ≡ false) → mask_of f m ≡ mask_of f n
  unfolding mask_of
  run_clear n m h =
      le_ind (λ (i : ℕ). ((k : ℕ) → n ≤ k → k < i → f k ≡ false) → mask_of f i ≡ mask_of f n) (λ all. refl)
      (λ i l ih all. rw (all i l (le_refl (suc i))) (add-zero (mask_of f i) ∙ ih (λ k p q. all k p (le_step q)))) m h

  -- slots n up to m all set
  run_set : (n m : ℕ) → n ≤ m → ((k : ℕ) → n ≤ k → k < m → f k ≡ true) → mask_of f m + 2 ^ n ≡ mask_of f n + 2 ^ m
  unfolding mask_of
  run_set n m h =
      le_ind (λ (i : ℕ). ((k : ℕ) → n ≤ k → k < i → f k ≡ true) → mask_of f i + 2 ^ n ≡ mask_of f n + 2 ^ i) (λ all. refl)
      (λ i l ih all.
      rw (all i l (le_refl (suc i)))
      (one_set (mask_of f i) (mask_of f n) (2 ^ i) (2 ^ n) (2 ^ suc i) (ih (λ k p q. all k p (le_step q))) (pow-suc 2 i))) m h

  -- slots lo up to hi set, and no others below n
  pub run_mask : (lo hi n : ℕ) → lo ≤ hi → hi ≤ n → ((k : ℕ) → k < lo → f k ≡ false) → ((k : ℕ) → lo ≤ k → k < hi → f k ≡ true)
      → ((k : ℕ) → hi ≤ k → f k ≡ false) → mask_of f n ≡ 2 ^ hi - 2 ^ lo
  unfolding mask_of
  run_mask lo hi n h l before within after =
      let a = run_clear zero lo zero-le (λ k p q. before k q) in
      let b = run_set lo hi h within in
      let c = run_clear hi n l (λ k p q. after k p) in
      omega arith

-- ---- what a part covers
-- a byte before the part is none of it
pub before_part : (offset size b : ℕ) → b < offset → in_part offset size b ≡ false
before_part offset size b h = rw (lt-leb offset b h) refl

-- nor is one past it
pub past_part : (offset size b : ℕ) → offset + size ≤ b → in_part offset size b ≡ false
past_part offset size b h = rw (le-leb offset b (omega arith), le-ltb b (offset + size) h) refl

-- a byte from the offset up to the end is one of the part's
pub in-part : (offset size b : ℕ) → offset ≤ b → b < offset + size → T (in_part offset size b)
in-part offset size b h l = rw (le-leb offset b h, lt-ltb b (offset + size) l) tt

-- the first of two tests
pub or_left : (a b : Bool) → T a → T (a || b)
or_left true b t = tt
or_left false b t = absurd t

-- the second of two tests
pub or_right : (a b : Bool) → T b → T (a || b)
or_right true b t = tt
or_right false b t = t

module _ (offset size k : ℕ) where
  -- a slot that ends before the part
  pub covers_before : 4 * k + 4 ≤ offset → covers offset size k ≡ false
  unfolding covers
  covers_before h =
      rw (before_part offset size (4 * k) (omega arith), before_part offset size (4 * k + 1) (omega arith), before_part offset size (4 * k + 2) (omega arith), before_part offset size (4 * k + 3) (omega arith)) refl

  -- a slot that begins at the end of the part or past it
  pub covers_after : offset + size ≤ 4 * k → covers offset size k ≡ false
  unfolding covers
  covers_after h =
      rw (past_part offset size (4 * k) (omega arith), past_part offset size (4 * k + 1) (omega arith), past_part offset size (4 * k + 2) (omega arith), past_part offset size (4 * k + 3) (omega arith)) refl

  -- a slot that meets the part: the first of its bytes that is at the offset or past it is one of the part's
  pub covers_within : offset < 4 * k + 4 → 4 * k < offset + size → 0 < size → covers offset size k ≡ true
  unfolding covers
  covers_within h l s =
      T_true (b0 || b1 || b2 || b3)
      (go (dec_le offset (4 * k)) (dec_le offset (4 * k + 1)) (dec_le offset (4 * k + 2)))
    where
      b0 : Bool
      b0 = in_part offset size (4 * k)

      b1 : Bool
      b1 = in_part offset size (4 * k + 1)

      b2 : Bool
      b2 = in_part offset size (4 * k + 2)

      b3 : Bool
      b3 = in_part offset size (4 * k + 3)

      go : Dec (offset ≤ 4 * k) → Dec (offset ≤ 4 * k + 1) → Dec (offset ≤ 4 * k + 2) → T (b0 || b1 || b2 || b3)
      go (yes p) q r = or_left (b0 || b1 || b2) b3 (or_left (b0 || b1) b2 (or_left b0 b1 (in-part offset size (4 * k) p l)))
      go (no p) (yes q) r = or_left (b0 || b1 || b2) b3 (or_left (b0 || b1) b2 (or_right b0 b1 (in-part offset size (4 * k + 1) q (omega arith))))
      go (no p) (no q) (yes r) = or_left (b0 || b1 || b2) b3 (or_right (b0 || b1) b2 (in-part offset size (4 * k + 2) r (omega arith)))
      go (no p) (no q) (no r) = or_right (b0 || b1 || b2) b3 (in-part offset size (4 * k + 3) (omega arith) (omega arith))

-- an empty part has no byte
empty_part : (offset b : ℕ) → in_part offset 0 b ≡ false
empty_part offset b = go (dec_le offset b)
  where
    go : Dec (offset ≤ b) → in_part offset 0 b ≡ false
    go (yes h) = past_part offset 0 b (omega arith)
    go (no h) = before_part offset 0 b (omega arith)

-- and covers no slot
pub covers_nothing : (offset k : ℕ) → covers offset 0 k ≡ false
unfolding covers
covers_nothing offset k =
    rw (empty_part offset (4 * k), empty_part offset (4 * k + 1), empty_part offset (4 * k + 2), empty_part offset (4 * k + 3)) refl

-- ---- the shifts
-- all of w = j + hi digits, shifted right by j
ones_shr : (j hi : ℕ) → (2 ^ (hi + j) - 1) / 2 ^ j ≡ 2 ^ hi - 1
ones_shr j hi = rw (ones_split hi j) (high (2 ^ hi - 1) j (ones_lt j))

-- all of e + d digits, shifted left by lo: the low d + lo digits
ones_shl : (e d lo : ℕ) → ((2 ^ (e + d) - 1) * 2 ^ lo) % 2 ^ (d + lo) ≡ 2 ^ (d + lo) - 2 ^ lo
ones_shl e d lo =
    rw (ones_split e d, add-mul ((2 ^ e - 1) * 2 ^ d) (2 ^ d - 1) (2 ^ lo), mul_assoc (2 ^ e - 1) (2 ^ d) (2 ^ lo), ← pow-add 2 d lo, ← high_ones d lo)
    (low (2 ^ e - 1) (d + lo) (pow-sub-lt (d + lo) (pow_pos lo)))

-- the digits from lo up to hi, by two shifts and a meet
pub shifts : (w lo hi : ℕ) → lo ≤ hi → hi ≤ w → bit_and (((2 ^ w - 1) * 2 ^ lo) % 2 ^ w) ((2 ^ w - 1) / 2 ^ (w - hi)) ≡ 2 ^ hi - 2 ^ lo
shifts w lo hi h l =
    let d = hi - lo in
    let a : d + lo ≡ hi = omega arith in
    let b : hi + (w - hi) ≡ w = omega arith in
    let c : (w - hi) + hi ≡ w = omega arith in
    let e : (w - d) + d ≡ w = omega arith in
    let right : (2 ^ w - 1) / 2 ^ (w - hi) ≡ 2 ^ hi - 1 = rw b at (ones_shr (w - hi) hi) in
    let cut : ((2 ^ w - 1) * 2 ^ lo) % 2 ^ w % 2 ^ hi ≡ ((2 ^ w - 1) * 2 ^ lo) % 2 ^ hi = rw c at (mod-mod-pow ((2 ^ w - 1) * 2 ^ lo) (w - hi) hi) in
    let left : ((2 ^ w - 1) * 2 ^ lo) % 2 ^ hi ≡ 2 ^ hi - 2 ^ lo = rw (e, a) at (ones_shl (w - d) d lo) in
    rw right (and_mask (((2 ^ w - 1) * 2 ^ lo) % 2 ^ w) hi ∙ cut ∙ left)

-- the mask of a part: the slots from offset / 4 up to the end, rounded up
pub range_mask : (offset size n : ℕ) → 0 < size → offset + size ≤ 4 * n
    → mask_of (covers offset size) n ≡ 2 ^ ((offset + size + 3) / 4) - 2 ^ (offset / 4)
range_mask offset size n h l =
    run_mask (covers offset size) (offset / 4) ((offset + size + 3) / 4) n (omega arith) (omega arith)
    (λ k p. covers_before offset size k (omega arith))
    (λ k p q. covers_within offset size k (omega arith) (omega arith) h)
    (λ k p. covers_after offset size k (omega arith))
