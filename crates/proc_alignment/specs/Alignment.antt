-- 01, 'The layout': an alignment is a power of two (naga's Alignment, carried as its number).
-- Assumes nothing.
use Rattle.std.specs.Prelude.{◌≡◌, ℕ, ◌+◌, ◌-◌, ◌*◌, ◌/◌, ◌%◌, ◌^◌, Bool, ◌||◌, ◌==◌, bit_and}
use Rattle.ir_records.specs.Result.{pick}

-- the powers of two among the widths, 0 to 255
abbrev pub power_of_two : ℕ → Bool
power_of_two w = w == 1 || w == 2 || w == 4 || w == 8 || w == 16 || w == 32 || w == 64 || w == 128

-- n is a power of two
pub record Power (n : ℕ) : Type 0 where
  pub exponent : ℕ
  pub is : n ≡ 2 ^ exponent

-- of a vector's size 2, 3 or 4, to be multiplied by the width
abbrev pub vector_alignment : ℕ → ℕ
vector_alignment n = pick (n == 2) 2 4

-- n is a multiple of the alignment
abbrev pub is_aligned : (alignment n : ℕ) → Bool
is_aligned alignment n = n % alignment == 0

-- a power of two, or 0: it shares no binary digit with the number before it
abbrev pub is_mask : ℕ → Bool
is_mask n = bit_and n (n - 1) == 0

-- ---- rounding up, in the standard's three steps: roundUp(k, n) = ⌈n ÷ k⌉ × k, for a positive k
-- n ÷ k: the quotient, and what is left over
pub record Division : Type 0 where
  pub quotient : ℕ
  pub remainder : ℕ

-- divide
abbrev pub divide : (n k : ℕ) → Division
divide n k = record { quotient = n / k; remainder = n % k }

-- take the ceiling
abbrev pub ceiling : Division → ℕ
ceiling d = pick (d.remainder == 0) d.quotient (d.quotient + 1)

-- multiply
abbrev pub round_up : (k n : ℕ) → ℕ
round_up k n = ceiling (divide n k) * k

-- the largest number of 32 bits
abbrev pub most : ℕ
most = 4294967295
