-- The bytes that no line may hold, not even in its comment: a NUL, a byte order mark, a carriage return before the line's last byte.
-- Assumes nothing.
use Rattle.std.specs.Prelude.{Bool, cond, ◌&&◌, ◌||◌, List, ℕ, zero, suc, ◌+◌, eqb, ltb, length, get_or, Option, None, Some}
use Rattle.program_words.specs.declared.Stray.{Stray}
use Rattle.program_words.specs.declared.Stray.TheVariants.{ByteOrderMark, Nul, Return}

-- three bytes in UTF-8; two in UTF-16, of either order
abbrev pub is_mark : (a b c : ℕ) → Bool
is_mark a b c = eqb a 239 && eqb b 187 && eqb c 191 || eqb a 254 && eqb b 255 || eqb a 255 && eqb b 254

-- by a byte, the two after it, and whether it is not the last
unfoldable pub stray_of : (a b c : ℕ) → Bool → Option Stray
stray_of a b c more = cond (eqb a 0) (Some Nul) (cond (eqb a 13 && more) (Some Return) (cond (is_mark a b c) (Some ByteOrderMark) None))

abbrev pub stray_at : List ℕ → ℕ → Option Stray
stray_at s i = stray_of (get_or s i 0) (get_or s (i + 1) 0) (get_or s (i + 2) 0) (ltb (i + 1) (length s))

abbrev pub or_else : Option Stray → Option Stray → Option Stray
or_else None later = later
or_else (Some found) later = Some found

-- the first of the `left` bytes from i on
unfoldable pub stray_from : List ℕ → (left i : ℕ) → Option Stray
stray_from s zero i = None
stray_from s (suc left) i = or_else (stray_at s i) (stray_from s left (suc i))

abbrev pub stray_in : List ℕ → Option Stray
stray_in s = stray_from s (length s) 0
