-- The layout sheet: the instruction at which a module is refused, found by halves.
-- Assumes nothing.
use Rattle.std.specs.Prelude.{ℕ, zero, suc, Bool, List, length, replicate, ◌+◌, ◌-◌, ◌/◌, leb}
use Rattle.ir_records.specs.Result.{pick}
use Rattle.spirv_read.specs.Read.{read_into, section_of}
use Rattle.sheet_places.specs.Places.{words_before, is_refusal}

-- the words are refused as a module
abbrev pub is_refused : (ws : List ℕ) → Bool
is_refused ws = is_refusal (section_of (read_into ws (replicate 6144 0) (replicate 16384 0)))

-- the words before the instruction with number k are
abbrev pub refused_before : (ws : List ℕ) (k : ℕ) → Bool
refused_before ws k = is_refused (words_before ws k)

-- ---- halves of the numbers from a start on and before an end
abbrev pub middle : (start end : ℕ) → ℕ
middle start end = start + (end - start) / 2

-- the lower half where the test holds at its end, and else the upper one
abbrev pub half_start : (ℕ → Bool) → (start end : ℕ) → ℕ
half_start test start end = pick (test (middle start end)) start (middle start end)

abbrev pub half_end : (ℕ → Bool) → (start end : ℕ) → ℕ
half_end test start end = pick (test (middle start end)) (middle start end) end

-- the first number that is left after one half of another, until there is one at most; and so many times at most
unfoldable pub halving : (ℕ → Bool) → (most start end : ℕ) → ℕ
halving test zero start end = start
halving test (suc most) start end =
    pick (leb (end - start) 1) start (halving test most (half_start test start end) (half_end test start end))

-- the number of an instruction. A half is smaller than its whole, so that as many times as there are words are enough
abbrev pub refused_at : (ws : List ℕ) → ℕ
refused_at ws = halving (refused_before ws) (length ws) 0 (length ws)
