-- The runs of a mask: the bit of a slot past the last one, the slots at which runs begin, and the last slot of a run.
-- Assumes nothing.
use mathlib.Core.Path.{◌≡◌, refl, ◌∙◌, ap}
use mathlib.Core.Bool.{Bool, true, false, ◌&&◌, not, cond}
use mathlib.Core.List.{List, ◌++◌}
use Prim.Native.Nat.{ℕ, zero, suc, ◌+◌, ◌-◌, ◌*◌, ◌/◌, ◌%◌, ◌^◌, ◌<◌, ◌≤◌}
use native.Mathlib.Nat.{div-eq_of_lt, lt_of_lt_of_le, pow-le-pow_right}
use native.Mathlib.Numerals.{add-one}
use native.Mathlib.Omega.{arith}
use lib.Bits.{bit_and}
use lib.Dec.{eqb}
use lib.Pow.{field, mod-mod-pow}
use Rattle.std.specs.Prelude.{Option, Some, unwrap_or}
use Rattle.std.specs.List.{find, range_with_len}
use Rattle.std.proofs.lemmas.Nat.Bits.{bit_at-suc}
use Rattle.ir_records.specs.Result.{pick}
use Rattle.valid_flags.specs.Flags.{bit}
use Rattle.immediates_ranges.proofs.MaskLaws.{bit_meet, bit_complement}
use Rattle.program_output.specs.Bytes.{joined}
use Rattle.sheet_verdicts.specs.Slots.{set_before, begins_run, run_last}

-- no slot past the last one is set
pub bit_past : (mask k : ℕ) → mask < 2 ^ 64 → 64 ≤ k → false ≡ bit mask k
bit_past mask k h past = rw (div-eq_of_lt (lt_of_lt_of_le h (pow-le-pow_right {n = 2} (omega arith) past))) refl

-- a bit of the low digits of a number
low_bit : (mask n k : ℕ) → k < n → mask % 2 ^ n / 2 ^ k % 2 ≡ mask / 2 ^ k % 2
low_bit mask n k h =
    let m = n - k - 1 in
    let all : m + 1 + k ≡ n = omega arith in
    rw (← all, field mask (m + 1) k) (mod-mod-pow (mask / 2 ^ k) m 1)

-- a mask moved on by one slot has the bits before
moved_bit : (mask k : ℕ) → k < 64 → bit (mask * 2 % 2 ^ 64) k ≡ set_before mask k
moved_bit mask zero h = let even : mask * 2 % 2 ^ 64 / 2 ^ 0 % 2 ≡ 0 = omega arith in rw even
moved_bit mask (suc k) h =
    let half : mask * 2 % 2 ^ 64 / 2 ≡ mask % 2 ^ 63 = omega arith in
    ap (λ (n : ℕ). eqb n 1) (bit_at-suc (mask * 2 % 2 ^ 64) k ∙ ap (λ (n : ℕ). n / 2 ^ k % 2) half ∙ low_bit mask 63 k (omega arith))

-- the slots that are set and have none before them
pub starts_bit : (mask k : ℕ) → k < 64 → bit (bit_and mask ((2 ^ 64 - 1) - (mask * 2 % 2 ^ 64))) k ≡ begins_run mask k
starts_bit mask k h =
    let moved = mask * 2 % 2 ^ 64 in
    bit_meet mask ((2 ^ 64 - 1) - moved) k
    ∙ ap (λ (b : Bool). bit mask k && b) (bit_complement moved 64 k (omega arith) h ∙ ap not (moved_bit mask k h))

-- the last slot of a run by the library's search
pub last_found : (mask left k : ℕ) → k + left ≡ 63
    → unwrap_or (find (λ s. not (bit mask (s + 1))) (range_with_len k left)) 63 ≡ run_last mask left k
unfolding run_last
last_found mask zero k h = omega arith
last_found mask (suc left) k h =
    by (bit mask (k + 1)) (find (λ s. not (bit mask (s + 1))) (range_with_len (k + 1) left)) (last_found mask left (k + 1) (omega (arith, h)))
  where
    by : (b : Bool) (later : Option ℕ) {last : ℕ} → unwrap_or later 63 ≡ last → unwrap_or (cond (not b) (Some k) later) 63 ≡ pick b last k
    by true later e = e
    by false later e = refl

-- the texts of one slot more
pub joined_more : (f : ℕ → List ℕ) (k : ℕ) → joined f (k + 1) ≡ joined f k ++ f k
unfolding joined
joined_more f k = rw add-one
