-- The meaning of masks slot by slot: difference, union, contains, and a range.
-- Assumes nothing.
use mathlib.Core.Path.{◌≡◌, refl, sym, ap, ◌∙◌}
use mathlib.Core.Bool.{Bool, true, false, ◌&&◌, ◌||◌, not}
use Prim.Native.Nat.{ℕ, zero, suc, ◌+◌, ◌^◌, ◌<◌}
use native.Mathlib.Nat.{not-suc-le-zero, zero-div}
use native.Mathlib.Decide.{ℕ_discrete}
use native.Mathlib.Omega.{arith}
use lib.Dec.{T, eqb, leb}
use borrow.Author.Tests.{eqb-true}
use Rattle.ir_records.specs.Result.{pick}
use Rattle.ir_records.proofs.ResultLaws.{and_left, and_right}
use Rattle.valid_flags.specs.Flags.{bit}
use Rattle.immediates_ranges.specs.Slots.{Mask, Past}
use Rattle.immediates_ranges.specs.Slots.{slot_count, slot_bytes, covers, covers_partly, covers_by, mask_by, mask_of, range_slots, contains_below, contains, difference, union}
use Rattle.immediates_ranges.proofs.MaskLaws.{bit_mask}
use Rattle.immediates_ranges.proofs.RangeLaws.{covers_nothing}

-- ---- difference, union and contains
module _ (this other k : ℕ) (h : k < slot_count) where
  -- a slot of this that is not in other
  pub difference_slot : bit (difference this other) k ≡ (bit this k && not (bit other k))
  difference_slot = bit_mask (λ i. bit this i && not (bit other i)) slot_count k h

  -- a slot of one or the other
  pub union_slot : bit (union this other) k ≡ (bit this k || bit other k)
  union_slot = bit_mask (λ i. bit this i || bit other i) slot_count k h

-- where the first n slots are contained, each slot of other is one of this
contains_each : (this other n : ℕ) → T (contains_below this other n) → (k : ℕ) → k < n → T (bit other k) → T (bit this k)
unfolding contains_below
contains_each this other zero t k h o = absurd (not-suc-le-zero h)
contains_each this other (suc n) t k h o =
    go (contains_each this other n (and_left (contains_below this other n) (not (bit other n) || bit this n) t))
    (and_right (contains_below this other n) (not (bit other n) || bit this n) t) (ℕ_discrete k n)
  where
    -- a test that another implies
    implied : (a b : Bool) → T (not a || b) → T a → T b
    implied true b t u = t
    implied false b t u = absurd u

    go : ((i : ℕ) → i < n → T (bit other i) → T (bit this i)) → T (not (bit other n) || bit this n) → Dec (k ≡ n) → T (bit this k)
    go ih last (yes e) = rw e (implied (bit other n) (bit this n) last (rw e at o))
    go ih last (no e) = ih k (omega arith) o

-- and the other way round
each_contains : (this other n : ℕ) → ((k : ℕ) → k < n → T (bit other k) → T (bit this k)) → T (contains_below this other n)
unfolding contains_below
each_contains this other zero all = tt
each_contains this other (suc n) all =
    joined (contains_below this other n) (bit other n) (bit this n) (each_contains this other n (λ k h. all k (omega arith))) (all n (omega arith))
  where
    -- the test of one more slot
    joined : (a b c : Bool) → T a → (T b → T c) → T (a && (not b || c))
    joined true true c t f = f tt
    joined true false c t f = tt
    joined false b c t f = t

-- contains: every slot of other is one of this
pub contains_slots : (this other : ℕ) → T (contains this other) → (k : ℕ) → k < slot_count → T (bit other k) → T (bit this k)
contains_slots this other = contains_each this other slot_count

-- where every slot of other is one of this, contains says so
pub slots_contains : (this other : ℕ) → ((k : ℕ) → k < slot_count → T (bit other k) → T (bit this k)) → T (contains this other)
slots_contains this other = each_contains this other slot_count

-- ---- a range
-- no bit of 0 is set
pub zero_bit : (k : ℕ) → bit 0 k ≡ false
zero_bit k = rw (zero-div (2 ^ k)) refl

-- nor one of two empty masks
pub empty_bit : (partly : Bool) (k : ℕ) → bit (mask_by partly 0 0) k ≡ false
empty_bit false k = zero_bit k
empty_bit true k = zero_bit k

-- equal parts have equal masks
pub mask_inj : {a b p q : ℕ} → Mask a p ≡ Mask b q → a ≡ b
mask_inj {a} {b} {p} {q} e = cc

pub partly_inj : {a b p q : ℕ} → Mask a p ≡ Mask b q → p ≡ q
partly_inj {a} {b} {p} {q} e = cc

-- an empty part covers no slot, whole or in part
covers_none : (partly : Bool) (offset k : ℕ) → covers_by partly offset 0 k ≡ false
covers_none false offset k = covers_nothing offset k
covers_none true offset k = rw (covers_nothing offset k) refl

-- the masks of a part, each by its test
masks_by : (partly : Bool) (offset size n : ℕ) → mask_by partly (mask_of (covers offset size) n) (mask_of (covers_partly offset size) n) ≡ mask_of (covers_by partly offset size) n
masks_by false offset size n = refl
masks_by true offset size n = refl

-- slot k of a mask of a range is set just where the part covers it; of the second mask, where it covers it only in part
pub range_slot : (partly : Bool) (offset size m p : ℕ) → range_slots offset size ≡ Mask m p → (k : ℕ) → k < slot_count
    → bit (mask_by partly m p) k ≡ covers_by partly offset size k
unfolding range_slots
range_slot partly offset size m p e k h = go (eqb size 0) refl (leb (offset + size) slot_bytes) e
  where
    go : (b : Bool) → eqb size 0 ≡ b → (d : Bool)
        → pick b (Mask 0 0) (pick d (Mask (mask_of (covers offset size) slot_count) (mask_of (covers_partly offset size) slot_count)) Past) ≡ Mask m p
        → bit (mask_by partly m p) k ≡ covers_by partly offset size k
    go true z d q = rw (← mask_inj q, ← partly_inj q, eqb-true size 0 z) (empty_bit partly k ∙ sym (covers_none partly offset k))
    go false z true q =
        rw (← mask_inj q, ← partly_inj q)
        (ap (λ (x : ℕ). bit x k) (masks_by partly offset size slot_count) ∙ bit_mask (covers_by partly offset size) slot_count k h)
    go false z false q = let x : ◌≡◌ {A = ℕ} 0 1 = cc in absurd (omega arith)
