-- Bytes in the buffer of the answers: what is put there, numbers in decimal, and texts.
-- Assumes nothing.
use Rattle.std.specs.Prelude.{◌≡◌, List, [], ◌∷◌, ◌++◌, ℕ, zero, suc, ◌+◌, ◌*◌, ◌/◌, ◌%◌, min, max, ltb, length, get_or, take, drop}
use Prim.Native.Char.{code}
use Prim.Native.String.{String, [] as none, ◌∷◌ as ◌then◌}
use Rattle.ir_records.specs.Result.{pick}
use Rattle.program_output.specs.declared.Output.{Output}

-- ---- the buffer
-- how many bytes it has room for
abbrev pub room : ℕ
room = 1114112

-- the position after n more bytes: it stays where it is once it is past the end
abbrev pub after : (at n : ℕ) → ℕ
after at n = min (at + n) (max at 1114113)

-- the bytes stand after the first `at` bytes, as far as there is room, and `end` is the position after them.
-- A function does not see the length of an array that it is lent, so it is asked for where it matters.
pub record Puts (was : List ℕ) (at : ℕ) (bytes is : List ℕ) (end : ℕ) : Type 0 where
  pub ends : end ≡ after at (length bytes)
  pub keeps : length is ≡ length was
  pub holds : length was ≡ room → take end is ≡ take room (take at was ++ bytes)

-- the same of an output: the bytes stand after those that wait
abbrev pub Adds : Output → List ℕ → Output → Type 0
Adds was bytes is = Puts was.bytes was.end bytes is.bytes is.end

-- ---- texts
-- the bytes of a text in ASCII
abbrev pub ascii : String → List ℕ
ascii none = []
ascii (c then s) = code c ∷ ascii s

-- f 0, f 1, .. up to f (n - 1), one after the other
unfoldable pub joined : (ℕ → List ℕ) → ℕ → List ℕ
joined f zero = []
joined f (suc n) = joined f n ++ f n

-- ---- numbers
abbrev pub digit : ℕ → ℕ
digit d = 48 + d

-- in decimal with the fewest digits, which are at most `most`
unfoldable pub decimal_in : (most : ℕ) → ℕ → List ℕ
decimal_in zero n = []
decimal_in (suc most) n = pick (ltb n 10) (digit n ∷ []) (decimal_in most (n / 10) ++ (digit (n % 10) ∷ []))

-- a number below 2 to the 64 has at most 20 digits
abbrev pub decimal : ℕ → List ℕ
decimal n = decimal_in 20 n

-- after a blank or another byte
abbrev pub number : (before n : ℕ) → List ℕ
number before n = before ∷ decimal n

abbrev pub named : List ℕ → ℕ → List ℕ
named name n = name ++ number 32 n

abbrev pub number_at : List ℕ → ℕ → List ℕ
number_at ws k = number 32 (get_or ws k 0)

-- each after a blank
abbrev pub numbers : List ℕ → List ℕ
numbers ws = joined (number_at ws) (length ws)

-- ---- lines
abbrev pub newline : List ℕ
newline = 10 ∷ []

-- words after their head
unfoldable pub words_line : List ℕ → List ℕ → List ℕ
words_line head ws = head ++ numbers ws ++ newline

-- the fourteen words of row i after its number
unfoldable pub row_line : List ℕ → ℕ → List ℕ
row_line rows i = decimal i ++ numbers (take 14 (drop (i * 14) rows)) ++ newline

abbrev pub row_lines : List ℕ → List ℕ
row_lines rows = joined (row_line rows) (length rows / 14)

-- the two counts of type i after its number
unfoldable pub report_line : List ℕ → ℕ → List ℕ
report_line report i = decimal i ++ number 32 (get_or report (i * 2) 0) ++ number 32 (get_or report (i * 2 + 1) 0) ++ newline

abbrev pub report_lines : List ℕ → List ℕ
report_lines report = joined (report_line report) (length report / 2)
