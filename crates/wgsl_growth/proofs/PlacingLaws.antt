-- Members placed one after the other: the ends, the largest alignment and the offsets as sums over a list; rounding up in an order; and powers of two.
-- Assumes nothing.
use mathlib.Core.Path.{◌≡◌, refl, ap}
use mathlib.Core.Bool.{true, ◌&&◌}
use mathlib.Core.List.{List, [], ◌∷◌}
use Prim.Native.Nat.{ℕ, ◌+◌, ◌-◌, ◌≤◌, ◌∣◌, max}
use native.Mathlib.Nat.{dvd-add, dvd-zero}
use native.Mathlib.Omega.{arith}
use lib.Dec.{T, ltb}
use lib.Bits.{bit_and}
use borrow.Author.Tests.{ltb-true, eqb-true}
use Rattle.ir_records.proofs.ResultLaws.{true_T, T_true, and_left, and_right}
use Rattle.proc_alignment.specs.Alignment.{Power, round_up, is_mask, is_aligned}
use Rattle.proc_alignment.proofs.PowerLaws.{power_max, aligned_divides}
use Rattle.proc_alignment.proofs.RoundLaws.{round_up_multiple, round_up_next}
use Rattle.proc_alignment.proofs.MaskLaws.{power_of_mask}
use Rattle.w3c_agreement.proofs.LeastLaws.{next_least}
use Rattle.wgsl_placement.specs.declared.Shape.{Shape}
use Rattle.wgsl_members.specs.Members.{Given, Members, given_or, align_fits, size_fits, attributes_fit, with_member}
use Rattle.std.specs.Prelude.{Ok, Err, Some, None}
use Rattle.wgsl_members.specs.declared.Attributes.{Attributes}
use Rattle.wgsl_growth.specs.Written.{Each, Written, align_of, size_of, placed_after, offsets_after}

-- ---- rounding up
pub round_mono : (k m n : ℕ) → 1 ≤ k → m ≤ n → round_up k m ≤ round_up k n
round_mono k m n positive h = next_least k m (round_up k n) positive (round_up_multiple k n positive) (omega (arith, (round_up_next k n positive).0))

-- a multiple of k is added after rounding as before
pub round_shift : (k x y d : ℕ) → 1 ≤ k → k ∣ d → x ≤ y + d → round_up k x ≤ round_up k y + d
round_shift k x y d positive v h =
    next_least k x (round_up k y + d) positive (dvd-add k (round_up_multiple k y positive) v) (omega (arith, (round_up_next k y positive).0))

pub round_zero : (k : ℕ) → 1 ≤ k → round_up k 0 ≡ 0
round_zero k positive = let h = next_least k 0 0 positive (dvd-zero k) (omega arith) in omega arith

-- ---- ends, alignments and offsets, from an end and an alignment on
unfoldable pub end_from : ℕ → List Written → ℕ
end_from e [] = e
end_from e (w ∷ ws) = end_from (round_up (align_of w) e + size_of w) ws

unfoldable pub align_from : ℕ → List Written → ℕ
align_from a [] = a
align_from a (w ∷ ws) = align_from (max a (align_of w)) ws

unfoldable pub offsets_from : ℕ → List Written → List ℕ
offsets_from e [] = []
offsets_from e (w ∷ ws) = round_up (align_of w) e ∷ offsets_from (round_up (align_of w) e + size_of w) ws

pub placed_end : (m : Members) (ws : List Written) → (placed_after m ws).end ≡ end_from m.end ws
unfolding placed_after end_from with_member
placed_end m [] = refl
placed_end m (w ∷ ws) = placed_end (with_member m w.attributes w.name w.shape w.types w.rest) ws

pub placed_align : (m : Members) (ws : List Written) → (placed_after m ws).align ≡ align_from m.align ws
unfolding placed_after align_from with_member
placed_align m [] = refl
placed_align m (w ∷ ws) = placed_align (with_member m w.attributes w.name w.shape w.types w.rest) ws

pub placed_offsets : (m : Members) (ws : List Written) → offsets_after m ws ≡ offsets_from m.end ws
unfolding offsets_after offsets_from with_member
placed_offsets m [] = refl
placed_offsets m (w ∷ ws) =
    ap (λ (l : List ℕ). round_up (align_of w) m.end ∷ l) (placed_offsets (with_member m w.attributes w.name w.shape w.types w.rest) ws)

-- ---- alignments
pub align_above : (a : ℕ) (ws : List Written) → a ≤ align_from a ws
unfolding align_from
align_above a [] = omega arith
align_above a (w ∷ ws) = let h = align_above (max a (align_of w)) ws in omega arith

pub align_power : (a : ℕ) (ws : List Written) → Power a → Each (λ w. Power (align_of w)) ws → Power (align_from a ws)
unfolding align_from
align_power a [] p each = p
align_power a (w ∷ ws) p each = align_power (max a (align_of w)) ws (power_max a (align_of w) p each.0) each.1

-- what attributes that fit say
module _ (a : Attributes) (e : Shape) (fits : attributes_fit a e ≡ true) where
  pub align-fits : T (align_fits a.align e)
  align-fits = and_left (align_fits a.align e) (size_fits a.size e) (true_T fits)

  pub size-fits : T (size_fits a.size e)
  size-fits = and_right (align_fits a.align e) (size_fits a.size e) (true_T fits)

pub once_power : (k : ℕ) (e : Shape) → T (align_fits (Ok (Some k)) e) → Power k × (e.align ∣ k)
once_power k e t =
    let both = and_left (ltb 0 k && is_mask k) (is_aligned e.align k) t in
    let positive = and_left (ltb 0 k) (is_mask k) both in
    let mask = and_right (ltb 0 k) (is_mask k) both in (
      power_of_mask k (ltb-true 0 k (T_true (ltb 0 k) positive)) (eqb-true (bit_and k (k - 1)) 0 (T_true (is_mask k) mask)),
      aligned_divides e.align k (and_right (ltb 0 k && is_mask k) (is_aligned e.align k) t),
    )

given_power : (g : Given) (e : Shape) → T (align_fits g e) → Power e.align → Power (given_or g e.align)
given_power (Ok None) e t p = p
given_power (Ok (Some k)) e t p = (once_power k e t).0
given_power (Err x) e t p = p

-- AlignOfMember is a power of two where AlignOf of the type is
pub written_power : (w : Written) → attributes_fit w.attributes w.shape ≡ true → Power w.shape.align → Power (align_of w)
written_power w fits p = given_power w.attributes.align w.shape (align-fits w.attributes w.shape fits) p
