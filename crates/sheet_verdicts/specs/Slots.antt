-- The layout sheet: the bytes of the slots of a mask, in runs.
-- Assumes nothing.
use Rattle.std.specs.Prelude.{Bool, false, ◌&&◌, not, List, [], ◌++◌, ℕ, zero, suc, ◌+◌, ◌-◌, eqb}
use Rattle.ir_records.specs.Result.{pick}
use Rattle.valid_flags.specs.Flags.{bit}
use Rattle.immediates_ranges.specs.Slots.{slot_count}
use Rattle.immediates_ranges.specs.declared.Slots.{Slots}
use Rattle.program_output.specs.Bytes.{ascii, decimal, joined}

-- the slot before slot k is set; before slot 0 there is none
abbrev pub set_before : (mask k : ℕ) → Bool
set_before mask zero = false
set_before mask (suc k) = bit mask k

-- a run begins at slot k
abbrev pub begins_run : (mask k : ℕ) → Bool
begins_run mask k = bit mask k && not (set_before mask k)

-- the last of the slots that follow slot k without one that is not set, as far as so many slots after it
unfoldable pub run_last : (mask left k : ℕ) → ℕ
run_last mask zero k = k
run_last mask (suc left) k = pick (bit mask (k + 1)) (run_last mask left (k + 1)) k

-- slots a to b, ` a-b`, and one slot, ` a`
abbrev pub slots_from_to : (a b : ℕ) → List ℕ
slots_from_to a b = ascii " " ++ decimal a ++ pick (eqb a b) [] (ascii "-" ++ decimal b)

-- the run from slot k on, which ends at slot 63 at the latest
abbrev pub run_text : (mask k : ℕ) → List ℕ
run_text mask k = slots_from_to k (run_last mask (63 - k) k)

-- a run where it begins, and nothing at the other slots
abbrev pub run_at : (mask k : ℕ) → List ℕ
run_at mask k = pick (begins_run mask k) (run_text mask k) []

-- the slots of a mask, in runs
abbrev pub mask_text : (mask : ℕ) → List ℕ
mask_text mask = joined (run_at mask) slot_count

-- slots that are touched, and those of them that are covered only in part, where there are any
abbrev pub slots_text : Slots → List ℕ
slots_text slots = mask_text slots.touched ++ pick (eqb slots.partly 0) [] (ascii "; only a part of" ++ mask_text slots.partly)
