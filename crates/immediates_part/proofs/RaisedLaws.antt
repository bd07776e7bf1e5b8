-- Laws of raised masks: their bits, their unions, and the masks of a part that stands further on.
-- Assumes nothing.
use Rattle.std.specs.Prelude.{Option, Some, None}
use Rattle.std.specs.Option.{SomeIff, unwrap_or}
use mathlib.Core.Path.{◌≡◌, refl, sym, ap, ◌∙◌}
use mathlib.Core.Bool.{Bool, true, false, ◌&&◌, ◌||◌}
use Prim.Native.Nat.{ℕ, suc, ◌+◌, ◌-◌, ◌*◌, ◌/◌, ◌%◌, ◌^◌, ◌≤◌, ◌<◌}
use native.Mathlib.Nat.{mod-lt, zero-mul, mul_assoc, pow-suc, mul-mod_left}
use native.Mathlib.Decide.{dec_le}
use native.Mathlib.Numerals.{add-one}
use native.Mathlib.Omega.{arith}
use lib.Dec.{eqb, leb}
use lib.Pow.{pow_pos, pow-add, field, mod-mod-pow, shl-shr, shr-shr}
use borrow.Author.Tests.{le-leb, lt-leb}
use Rattle.ir_records.proofs.ResultLaws.{same_test}
use Rattle.valid_flags.specs.Flags.{bit}
use Rattle.immediates_ranges.specs.Slots.{slot_count, in_part, covers, covers_all, covers_partly, mask_of, union}
use Rattle.immediates_ranges.proofs.MaskLaws.{mask_same, bit_mask, number_mask}
use Rattle.immediates_ranges.proofs.RangeLaws.{covers_before}
use Rattle.immediates_ranges.proofs.SlotBits.{union_slot}
use Rattle.immediates_part.specs.Part.{raised}

-- a bit below the first 64 bits' end is one of them
low_bit : (x k : ℕ) → k < slot_count → bit (x % 2 ^ slot_count) k ≡ bit x k
low_bit x k h =
    let j = slot_count - suc k in
    let sum : suc j + k ≡ slot_count = omega (arith, h) in
    let digits : x % 2 ^ slot_count / 2 ^ k ≡ x / 2 ^ k % 2 ^ suc j = ap (λ (n : ℕ). x % 2 ^ n / 2 ^ k) (sym sum) ∙ field x (suc j) k in
    let last : x / 2 ^ k % 2 ^ suc j % 2 ≡ x / 2 ^ k % 2 = ap (λ (n : ℕ). x / 2 ^ k % 2 ^ n % 2) (sym (add-one j)) ∙ mod-mod-pow (x / 2 ^ k) j 1 in
    ap (λ (n : ℕ). eqb (n % 2) 1) digits ∙ ap (λ (n : ℕ). eqb n 1) last

-- bit k of a mask n slots further on, above and below n
bit_above : (m n k : ℕ) → bit (m * 2 ^ n) (k + n) ≡ bit m k
bit_above m n k =
    let back : m * 2 ^ n / 2 ^ (k + n) ≡ m / 2 ^ k =
    ap (λ (x : ℕ). m * 2 ^ n / 2 ^ x) (omega arith) ∙ sym (shr-shr (m * 2 ^ n) n k) ∙ ap (λ (x : ℕ). x / 2 ^ k) (shl-shr m n) in
    ap (λ (x : ℕ). eqb (x % 2) 1) back

bit_below : (m j k : ℕ) → bit (m * 2 ^ (suc j + k)) k ≡ false
bit_below m j k =
    let split : m * 2 ^ (suc j + k) / 2 ^ k ≡ m * 2 ^ suc j =
    ap (λ (x : ℕ). m * x / 2 ^ k) (pow-add 2 (suc j) k) ∙ ap (λ (x : ℕ). x / 2 ^ k) (sym (mul_assoc m (2 ^ suc j) (2 ^ k))) ∙ shl-shr (m * 2 ^ suc j) k in
    let even : m * 2 ^ suc j ≡ m * 2 ^ j * 2 = ap (λ (x : ℕ). m * x) (pow-suc 2 j) ∙ sym (mul_assoc m (2 ^ j) 2) in
    let none : m * 2 ^ (suc j + k) / 2 ^ k % 2 ≡ 0 = omega (arith, split, even) in
    ap (λ (x : ℕ). eqb x 1) none

-- bit k of a raised mask
pub raised_bit : (m n k : ℕ) → k < slot_count → bit (raised m n) k ≡ (leb n k && bit m (k - n))
unfolding raised
raised_bit m n k h = low_bit (m * 2 ^ n) k h ∙ go (dec_le n k)
  where
    go : Dec (n ≤ k) → bit (m * 2 ^ n) k ≡ (leb n k && bit m (k - n))
    go (yes l) =
        rw (le-leb n k l)
        (ap (λ (x : ℕ). bit (m * 2 ^ n) x) (omega (arith, l)) ∙ bit_above m n (k - n))
    go (no l) =
        rw (lt-leb n k (omega (arith, l)))
        (ap (λ (x : ℕ). bit (m * 2 ^ x) k) (omega (arith, l)) ∙ bit_below m (n - suc k) k)

-- a raised mask by its bits
raised_mask : (m n : ℕ) (test : ℕ → Bool) → ((k : ℕ) → k < slot_count → (leb n k && bit m (k - n)) ≡ test k) → raised m n ≡ mask_of test slot_count
unfolding raised
raised_mask m n test same =
    sym (number_mask (raised m n) slot_count (mod-lt (m * 2 ^ n) (pow_pos slot_count)))
    ∙ mask_same (bit (raised m n)) test slot_count (λ k h. raised_bit m n k h ∙ same k h)

-- a test in front of both
and_or : (a b c : Bool) → (a && (b || c)) ≡ ((a && b) || (a && c))
and_or true b c = refl
and_or false b c = refl

-- the union of raised masks
pub raised_union : (x y n : ℕ) → raised (union x y) n ≡ union (raised x n) (raised y n)
raised_union x y n =
    raised_mask (union x y) n (λ k. bit (raised x n) k || bit (raised y n) k)
    (λ k h.
    ap (λ (b : Bool). leb n k && b) (union_slot x y (k - n) (omega (arith, h)))
    ∙ and_or (leb n k) (bit x (k - n)) (bit y (k - n))
    ∙ sym (rw (raised_bit x n k h, raised_bit y n k h) refl))

-- no slot stays none
pub raised_nothing : (n : ℕ) → raised 0 n ≡ 0
unfolding raised
raised_nothing n = rw (zero-mul (2 ^ n)) refl

-- ---- the masks of a part that stands n slots further on
-- a byte of it
in_moved : (offset size n b : ℕ) → in_part (offset + 4 * n) size (b + 4 * n) ≡ in_part offset size b
in_moved offset size n b =
    rw (same_test (offset + 4 * n) (b + 4 * n) offset b (λ h. omega (arith, h)) (λ h. omega (arith, h)), same_test (suc (b + 4 * n)) (offset + 4 * n + size) (suc b) (offset + size) (λ h. omega (arith, h)) (λ h. omega (arith, h))) refl

module _ (offset size n k : ℕ) (h : n ≤ k) where
  -- byte i of slot k
  byte : (i : ℕ) → in_part (offset + 4 * n) size (4 * k + i) ≡ in_part offset size (4 * (k - n) + i)
  byte i = ap (in_part (offset + 4 * n) size) (omega (arith, h)) ∙ in_moved offset size n (4 * (k - n) + i)

  first : in_part (offset + 4 * n) size (4 * k) ≡ in_part offset size (4 * (k - n))
  first = ap (in_part (offset + 4 * n) size) (omega (arith, h)) ∙ in_moved offset size n (4 * (k - n))

  covers_moved : covers (offset + 4 * n) size k ≡ covers offset size (k - n)
  unfolding covers
  covers_moved = rw (first, byte 1, byte 2, byte 3) refl

  covers_all_moved : covers_all (offset + 4 * n) size k ≡ covers_all offset size (k - n)
  unfolding covers_all
  covers_all_moved = rw (first, byte 1, byte 2, byte 3) refl

module _ (offset size n : ℕ) where
  moved_covers : (k : ℕ) → (leb n k && covers offset size (k - n)) ≡ covers (offset + 4 * n) size k
  moved_covers k = go (dec_le n k)
    where
      go : Dec (n ≤ k) → (leb n k && covers offset size (k - n)) ≡ covers (offset + 4 * n) size k
      go (yes l) = rw (le-leb n k l) (sym (covers_moved offset size n k l))
      go (no l) = rw (lt-leb n k (omega (arith, l))) (sym (covers_before (offset + 4 * n) size k (omega (arith, l))))

  moved_partly : (k : ℕ) → (leb n k && covers_partly offset size (k - n)) ≡ covers_partly (offset + 4 * n) size k
  moved_partly k = go (dec_le n k)
    where
      go : Dec (n ≤ k) → (leb n k && covers_partly offset size (k - n)) ≡ covers_partly (offset + 4 * n) size k
      go (yes l) = rw (le-leb n k l) (sym (rw (covers_moved offset size n k l, covers_all_moved offset size n k l) refl))
      go (no l) =
          rw (lt-leb n k (omega (arith, l)))
          (sym (rw (covers_before (offset + 4 * n) size k (omega (arith, l))) refl))

  -- its masks
  pub raised_touched : raised (mask_of (covers offset size) slot_count) n ≡ mask_of (covers (offset + 4 * n) size) slot_count
  raised_touched =
      raised_mask (mask_of (covers offset size) slot_count) n (covers (offset + 4 * n) size)
      (λ k h. ap (λ (b : Bool). leb n k && b) (bit_mask (covers offset size) slot_count (k - n) (omega (arith, h))) ∙ moved_covers k)

  pub raised_partly : raised (mask_of (covers_partly offset size) slot_count) n ≡ mask_of (covers_partly (offset + 4 * n) size) slot_count
  raised_partly =
      raised_mask (mask_of (covers_partly offset size) slot_count) n (covers_partly (offset + 4 * n) size)
      (λ k h. ap (λ (b : Bool). leb n k && b) (bit_mask (covers_partly offset size) slot_count (k - n) (omega (arith, h))) ∙ moved_partly k)

-- ---- the shift that the code makes, of fewer places than there are slots
pub shifted_out : (m n : ℕ) → slot_count ≤ n → raised m n ≡ 0
unfolding raised
shifted_out m n h =
    let j = n - slot_count in
    let split : m * 2 ^ n ≡ m * 2 ^ j * 2 ^ slot_count =
    ap (λ (x : ℕ). m * 2 ^ x) (omega (arith, h)) ∙ ap (λ (x : ℕ). m * x) (pow-add 2 j slot_count) ∙ sym (mul_assoc m (2 ^ j) (2 ^ slot_count)) in
    rw split (mul-mod_left (m * 2 ^ j) (2 ^ slot_count))

pub raised-shift : (m n : ℕ) (r : Option ℕ) → SomeIff r (n < 64) ((m * 2 ^ n) % 2 ^ 64) → unwrap_or r 0 ≡ raised m n
unfolding raised
raised-shift m n (Some x) e = e.1
raised-shift m n None e = sym (shifted_out m n (omega (arith, e)))
