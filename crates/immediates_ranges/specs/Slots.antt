-- 01, 'The slot word' (`ImmediateSlots` of naga's valid/immediates.rs), and 02, E2: bit k of a mask is slot k, bytes 4k to 4k+3. A part has
-- two masks: the slots that it touches, and those that it covers only in part.
-- Assumes nothing.
use Rattle.std.specs.Prelude.{Bool, true, false, ◌&&◌, ◌||◌, not, ℕ, zero, suc, ◌+◌, ◌*◌, ◌^◌, eqb, leb, ltb, Option, Some, None, Result, Ok, Err}
use Rattle.ir_records.specs.Result.{pick}
use Rattle.valid_flags.specs.Flags.{bit}
use Rattle.ir_records.specs.Refusal.{number_of}
use Rattle.ir_records.specs.declared.Refusal.{Refusal}
use Rattle.immediates_ranges.specs.declared.Slots as code
use Rattle.immediates_ranges.specs.Answer.{SlotsAnswer}
use Rattle.immediates_ranges.specs.Answer as answer

-- a part: the slots that it touches, and those that it covers only in part. Past: number 25, a nonempty part ends past byte 256 or an offset sum
-- leaves 32 bits
pub data Slots : Type 0 where
  Mask : (touched partly : ℕ) → Slots
  Past : Slots

-- how many slots there are
abbrev pub slot_count : ℕ
slot_count = 64

-- the bytes that the slots have
abbrev pub slot_bytes : ℕ
slot_bytes = 256

-- byte b is one of the part's
abbrev pub in_part : (offset size b : ℕ) → Bool
in_part offset size b = leb offset b && ltb b (offset + size)

-- the part covers one of bytes 4k to 4k+3
unfoldable pub covers : (offset size k : ℕ) → Bool
covers offset size k =
    in_part offset size (4 * k) || in_part offset size (4 * k + 1) || in_part offset size (4 * k + 2) || in_part offset size (4 * k + 3)

-- the part covers all of bytes 4k to 4k+3
unfoldable pub covers_all : (offset size k : ℕ) → Bool
covers_all offset size k =
    in_part offset size (4 * k) && in_part offset size (4 * k + 1) && in_part offset size (4 * k + 2) && in_part offset size (4 * k + 3)

-- the part covers slot k only in part: one of its bytes and not all
abbrev pub covers_partly : (offset size k : ℕ) → Bool
covers_partly offset size k = covers offset size k && not (covers_all offset size k)

-- the test of the first mask, or of the second
abbrev pub covers_by : (partly : Bool) → (offset size k : ℕ) → Bool
covers_by false = covers
covers_by true = covers_partly

-- the first of two masks, or the second
abbrev pub mask_by : (partly : Bool) → (first second : ℕ) → ℕ
mask_by false first second = first
mask_by true first second = second

-- the mask in which slot k, below n, is set where the test holds
unfoldable pub mask_of : (ℕ → Bool) → (n : ℕ) → ℕ
mask_of test zero = 0
mask_of test (suc k) = mask_of test k + pick (test k) (2 ^ k) 0

-- a part given as two numbers: an empty part has no slot at any offset; a nonempty part that ends past byte 256 is number 25
unfoldable pub range_slots : (offset size : ℕ) → Slots
range_slots offset size =
    pick (eqb size 0) (Mask 0 0)
    (pick (leb (offset + size) slot_bytes) (Mask (mask_of (covers offset size) slot_count) (mask_of (covers_partly offset size) slot_count)) Past)

-- ---- contains, difference and union, slot by slot
-- every slot below n that is set in `other` is set in `this`
unfoldable pub contains_below : (this other n : ℕ) → Bool
contains_below this other zero = true
contains_below this other (suc k) = contains_below this other k && (not (bit other k) || bit this k)

-- every slot of `other` is one of `this`
abbrev pub contains : (this other : ℕ) → Bool
contains this other = contains_below this other slot_count

-- the slots of `this` that are not in `other`
abbrev pub difference : (this other : ℕ) → ℕ
difference this other = mask_of (λ k. bit this k && not (bit other k)) slot_count

-- the slots of either
abbrev pub union : (this other : ℕ) → ℕ
union this other = mask_of (λ k. bit this k || bit other k) slot_count

-- two parts together: the union of each mask
abbrev pub join : Slots → Slots → Slots
join (Mask a p) (Mask b q) = Mask (union a b) (union p q)
join (Mask a p) Past = Past
join Past other = Past

-- a part as the answer of a call; 25 carries zeros only
abbrev pub part_answer : Slots → SlotsAnswer
part_answer (Mask touched partly) = answer.Slots touched partly
part_answer Past = answer.Refused 25 0 0 0

-- ---- what the code's answers say
-- slots that are found
abbrev pub mask_in : code.Slots → Slots
mask_in s = Mask s.touched s.partly

-- a part; None is number 25
abbrev pub slots_found : Option code.Slots → Slots
slots_found (Some s) = mask_in s
slots_found None = Past

-- the answer of a call
abbrev pub slots_answer_of : Result code.Slots Refusal → SlotsAnswer
slots_answer_of (Ok s) = answer.Slots s.touched s.partly
slots_answer_of (Err r) = answer.Refused (number_of r.fault) r.ty r.member r.detail
