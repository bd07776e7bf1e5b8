-- The string of an instruction: its bytes up to a byte 0.
-- Assumes nothing.
use Rattle.std.proofs.Common.{◌≡◌, refl, ℕ, ◌+◌, ◌≤◌, Bool, false, not, List, length, eqb, ltb, slice_range, cond, Option, None, Some}
use Rattle.std.proofs.Common.{arith, le-leb, lt-ltb, le-ltb}
use native.Mathlib.Decide.{dec_le}
use Rattle.std.specs.List.{position_or_len}
use Rattle.std.specs.Option.{unwrap_or}
use Rattle.std.proofs.lemmas.List.Sums.{prefix_len-le-length}
use Rattle.sheet_names.specs.Names.{part_of}
use Rattle.sheet_names.specs.Module.{string_in}

-- what a search for a byte finds, or else the length
pub until_or_all : (test : ℕ → Bool) (xs : List ℕ) (p : Option ℕ)
    → p ≡ cond (ltb (position_or_len test xs) (length xs)) (Some (position_or_len test xs)) None → unwrap_or p (length xs) ≡ position_or_len test xs
until_or_all test xs p e = go (dec_le (length xs) (position_or_len test xs)) where
  go : Dec (length xs ≤ position_or_len test xs) → unwrap_or p (length xs) ≡ position_or_len test xs
  go (yes m) = rw (e, le-ltb (position_or_len test xs) (length xs) m) (omega (arith, m, prefix_len-le-length (λ x. not (test x)) xs))
  go (no m) = rw (e, lt-ltb (position_or_len test xs) (length xs) (omega (arith, m))) refl

pub string_here : (bytes : List ℕ) (start end : ℕ) (words : List ℕ) (n : ℕ) → start ≤ end → end ≤ length bytes → words ≡ slice_range bytes start end
    → eqb (length words) 0 ≡ false → n ≡ position_or_len (λ b. eqb b 0) words
    → Some (record { start = start; end = start + n }) ≡ string_in start (part_of bytes start end)
string_here bytes start end words n order inside same some until =
    rw (le-leb start end order, le-leb end (length bytes) inside, ← same, some, until) refl
