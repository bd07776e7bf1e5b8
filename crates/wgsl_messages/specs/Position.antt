-- Line and column of a byte of a WGSL text. Both count from 1, columns in bytes.
-- Assumes nothing.
use Rattle.std.specs.Prelude.{Bool, not, ◌&&◌, List, ℕ, zero, suc, ◌+◌, eqb, get_or}
use Rattle.ir_records.specs.Result.{pick}
use Rattle.wgsl_tokens.specs.Tokens.{ends_line}
use Rattle.wgsl_messages.specs.declared.Position.{Position}

-- W3C: a carriage return and a line feed right after it are one line break, any other byte that ends a line is one by itself
abbrev pub breaks_line : (c next : ℕ) → Bool
breaks_line c next = ends_line c && not (eqb c 13 && eqb next 10)

abbrev pub break_at : List ℕ → (i : ℕ) → Bool
break_at s i = breaks_line (get_or s i 0) (get_or s (i + 1) 0)

-- one more than the line breaks before the byte
unfoldable pub line_of : List ℕ → (at : ℕ) → ℕ
line_of s zero = 1
line_of s (suc i) = pick (break_at s i) (line_of s i + 1) (line_of s i)

-- one more than the bytes between the last line break and the byte
unfoldable pub column_of : List ℕ → (at : ℕ) → ℕ
column_of s zero = 1
column_of s (suc i) = pick (break_at s i) 1 (column_of s i + 1)

abbrev pub position_of : List ℕ → (at : ℕ) → Position
position_of s at = record { line = line_of s at; column = column_of s at }
