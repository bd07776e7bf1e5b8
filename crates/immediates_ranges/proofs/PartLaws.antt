-- The second mask of a range: a part covers a slot only in part just where one of its borders lies inside the slot.
-- Assumes nothing.
use mathlib.Core.Path.{◌≡◌, refl, sym, ◌∙◌}
use mathlib.Core.Bool.{true, false, ◌&&◌, ◌||◌, not, and-false}
use Prim.Native.Nat.{ℕ, suc, ◌+◌, ◌*◌, ◌/◌, ◌%◌, ◌^◌, ◌<◌, ◌≤◌}
use native.Mathlib.Nat.{pow-suc, one-mul, mod-eq_of_lt}
use native.Mathlib.Decide.{dec_le, ℕ_discrete}
use native.Mathlib.Omega.{arith}
use lib.Bits.{bit_or}
use lib.Dec.{eqb}
use lib.Pow.{pow-lt}
use borrow.Author.Tests.{ne_eqb, eq-eqb}
use Rattle.ir_records.proofs.ResultLaws.{T_true}
use Rattle.valid_flags.specs.Flags.{bit}
use Rattle.immediates_ranges.specs.Slots.{slot_count, slot_bytes, in_part, covers_all, covers_partly, mask_of}
use Rattle.immediates_ranges.specs.Serving.{cuts}
use Rattle.immediates_ranges.proofs.MaskLaws.{mask_same, mask_lt, bit_mask, union_word}
use Rattle.immediates_ranges.proofs.RangeLaws.{in-part, before_part, past_part, run_mask, covers_before, covers_after, covers_within}

-- ---- borders
module _ (border k : ℕ) where
  -- a border inside slot k
  cut : 4 * k < border → border < 4 * k + 4 → cuts border k ≡ true
  cut h l =
      let inside : border % 4 ≡ 0 → ⊥ = λ (e : border % 4 ≡ 0). omega arith in
      let here : border / 4 ≡ k = omega arith in
      rw (ne_eqb (border % 4) 0 inside, eq-eqb (border / 4) k here) refl

  -- a border in another slot
  not_here : (border / 4 ≡ k → ⊥) → cuts border k ≡ false
  not_here f = rw (ne_eqb (border / 4) k f) (and-false (not (eqb (border % 4) 0)))

  -- a border at the end of slot k or past it
  uncut_past : 4 * k + 4 ≤ border → cuts border k ≡ false
  uncut_past h = not_here (λ (e : border / 4 ≡ k). omega arith)

  -- a border at the start of slot k or before it
  uncut_before : border ≤ 4 * k → cuts border k ≡ false
  uncut_before h = go (ℕ_discrete border (4 * k))
    where
      go : Dec (border ≡ 4 * k) → cuts border k ≡ false
      go (yes e) = let z : border % 4 ≡ 0 = omega arith in rw (eq-eqb (border % 4) 0 z) refl
      go (no e) = not_here (λ (f : border / 4 ≡ k). omega arith)

-- the mask of a border inside a slot
pub cut_mask : (border : ℕ) → border < slot_bytes → (border % 4 ≡ 0 → ⊥) → 2 ^ (border / 4) ≡ mask_of (cuts border) slot_count
cut_mask border h inside =
    let s = border / 4 in
    let before : (k : ℕ) → k < s → cuts border k ≡ false = λ k l. uncut_past border k (omega arith) in
    let here : (k : ℕ) → s ≤ k → k < suc s → cuts border k ≡ true = λ k l i. cut border k (omega arith) (omega arith) in
    let after : (k : ℕ) → suc s ≤ k → cuts border k ≡ false = λ k l. uncut_before border k (omega arith) in
    let m = run_mask (cuts border) s (suc s) slot_count (omega arith) (omega arith) before here after in
    let p = pow-suc 2 s in
    omega arith

-- the mask of a border between slots
pub uncut_mask : (border : ℕ) → border % 4 ≡ 0 → 0 ≡ mask_of (cuts border) slot_count
unfolding mask_of
uncut_mask border e = mask_same (λ k. false) (cuts border) slot_count (λ k h. sym (rw (eq-eqb (border % 4) 0 e) refl))

-- 1 shifted by fewer than 64 digits
pub one_shifted : (k : ℕ) → k < 64 → (1 * 2 ^ k) % 2 ^ 64 ≡ 2 ^ k
one_shifted k h = rw (one-mul (2 ^ k)) (mod-eq_of_lt (pow-lt h))

-- ---- parts
-- a byte from the offset up to the end
within : (offset size b : ℕ) → offset ≤ b → b < offset + size → in_part offset size b ≡ true
within offset size b h l = T_true (in_part offset size b) (in-part offset size b h l)

module _ (offset size k : ℕ) where
  -- a slot that lies within the part
  covers-all : offset ≤ 4 * k → 4 * k + 4 ≤ offset + size → covers_all offset size k ≡ true
  unfolding covers_all
  covers-all h l =
      rw (within offset size (4 * k) h (omega arith), within offset size (4 * k + 1) (omega arith) (omega arith), within offset size (4 * k + 2) (omega arith) (omega arith), within offset size (4 * k + 3) (omega arith) (omega arith)) refl

  -- a slot whose first byte is before the part
  not_first : 4 * k < offset → covers_all offset size k ≡ false
  unfolding covers_all
  not_first h = rw (before_part offset size (4 * k) h) refl

  -- a slot whose last byte is past the part
  not_last : offset + size < 4 * k + 4 → covers_all offset size k ≡ false
  unfolding covers_all
  not_last h =
      rw (past_part offset size (4 * k + 3) (omega arith))
      (and-false (in_part offset size (4 * k) && in_part offset size (4 * k + 1) && in_part offset size (4 * k + 2)))

  -- a part covers slot k only in part just where one of its borders lies inside it
  partly_cut : 0 < size → covers_partly offset size k ≡ (cuts offset k || cuts (offset + size) k)
  partly_cut s = go (dec_le (4 * k + 4) offset) (dec_le (offset + size) (4 * k)) (dec_le offset (4 * k)) (dec_le (4 * k + 4) (offset + size))
    where
      go : Dec (4 * k + 4 ≤ offset) → Dec (offset + size ≤ 4 * k) → Dec (offset ≤ 4 * k) → Dec (4 * k + 4 ≤ offset + size)
          → covers_partly offset size k ≡ (cuts offset k || cuts (offset + size) k)
      go (yes a) b c d = rw (covers_before offset size k a, uncut_past offset k a, uncut_past (offset + size) k (omega arith)) refl
      go (no a) (yes b) c d = rw (covers_after offset size k b, uncut_before offset k (omega arith), uncut_before (offset + size) k b) refl
      go (no a) (no b) (yes c) (yes d) =
          rw (covers_within offset size k (omega arith) (omega arith) s, covers-all c d, uncut_before offset k c, uncut_past (offset + size) k d) refl
      go (no a) (no b) (yes c) (no d) =
          rw (covers_within offset size k (omega arith) (omega arith) s, not_last (omega arith), uncut_before offset k c, cut (offset + size) k (omega arith) (omega arith)) refl
      go (no a) (no b) (no c) d =
          rw (covers_within offset size k (omega arith) (omega arith) s, not_first (omega arith), cut offset k (omega arith) (omega arith)) refl

-- the second mask, from the slots of the two borders
pub partly_mask : (offset size : ℕ) → 0 < size
    → bit_or (mask_of (cuts offset) slot_count) (mask_of (cuts (offset + size)) slot_count) ≡ mask_of (covers_partly offset size) slot_count
partly_mask offset size s =
    let first = cuts offset in
    let last = cuts (offset + size) in
    union_word (mask_of first slot_count) (mask_of last slot_count) slot_count (mask_lt first slot_count) (mask_lt last slot_count)
    ∙ mask_same (λ k. bit (mask_of first slot_count) k || bit (mask_of last slot_count) k) (covers_partly offset size) slot_count
    (λ k h. rw (bit_mask first slot_count k h, bit_mask last slot_count k h) (sym (partly_cut offset size k s)))
