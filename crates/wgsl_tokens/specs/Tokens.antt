-- 02, E7: WGSL text as tokens, in ASCII: blankspace and comments, words, decimal numbers without suffix, marks. What is none of them is `bad`.
-- The rules are those of the W3C WGSL specification.
-- Assumes nothing.
use Rattle.std.specs.Prelude.{Bool, ◌&&◌, ◌||◌, List, [], ◌∷◌, ◌++◌, ℕ, zero, suc, ◌+◌, ◌-◌, eqb, leb, ltb, length, get_or, take, drop, Result, Ok, Err}
use Rattle.ir_records.specs.Result.{pick}
use Rattle.program_words.specs.Words.{run_of}
use Rattle.program_words.specs.Number.{is_digit, number_of}
use Rattle.program_words.specs.declared.NumberError.{NumberError}
use Rattle.program_words.specs.declared.NumberError.TheVariants.{NotANumber, TooLarge}

pub data Token : Type 0 where
  -- an identifier or a keyword, by its bytes
  word : List ℕ → Token
  -- a decimal number, at most 4,294,967,295
  number : ℕ → Token
  -- a decimal number above that
  large : Token
  -- one of { } < > ( ) : , ; @
  mark : ℕ → Token
  bad : Token

-- ---- bytes
abbrev pub within : (least most c : ℕ) → Bool
within least most c = leb least c && leb c most

-- space; tab, line feed, vertical tab, form feed, carriage return
abbrev pub is_blank : ℕ → Bool
is_blank c = eqb c 32 || within 9 13 c

-- line feed, vertical tab, form feed, carriage return
abbrev pub ends_line : ℕ → Bool
ends_line c = within 10 13 c

-- the text has no U+0000
abbrev pub is_ascii : ℕ → Bool
is_ascii c = within 1 127 c

-- a letter or `_`
abbrev pub starts_word : ℕ → Bool
starts_word c = within 65 90 c || within 97 122 c || eqb c 95

abbrev pub in_word : ℕ → Bool
in_word c = starts_word c || is_digit c

-- { } < > ( ) : , ; @
abbrev pub is_mark : ℕ → Bool
is_mark c = eqb c 123 || eqb c 125 || eqb c 60 || eqb c 62 || eqb c 40 || eqb c 41 || eqb c 58 || eqb c 44 || eqb c 59 || eqb c 64

-- `//`, `/*` and `*/`, by a byte and the next one
abbrev pub opens_line : (c next : ℕ) → Bool
opens_line c next = eqb c 47 && eqb next 47

abbrev pub opens_block : (c next : ℕ) → Bool
opens_block c next = eqb c 47 && eqb next 42

abbrev pub closes_block : (c next : ℕ) → Bool
closes_block c next = eqb c 42 && eqb next 47

-- the first byte, 0 where there is none
abbrev pub head : List ℕ → ℕ
head s = get_or s 0 0

-- ---- words and numbers
-- never `_` alone, never a start of two underscores
unfoldable pub word_of : List ℕ → Token
word_of w = pick (eqb (get_or w 0 0) 95 && (eqb (length w) 1 || eqb (get_or w 1 0) 95)) bad (word w)

abbrev pub number_token : Result ℕ NumberError → Token
number_token (Ok n) = number n
number_token (Err TooLarge) = large
number_token (Err NotANumber) = bad

-- digits, with the byte that follows them: no leading zero, no suffix, no point
unfoldable pub digits_of : (digits : List ℕ) (next : ℕ) → Token
digits_of w next = pick (eqb (get_or w 0 0) 48 && ltb 1 (length w) || in_word next || eqb next 46) bad (number_token (number_of w))

-- ---- tokens, byte by byte
pub data Mode : Type 0 where
  -- between tokens, after so many bytes more of the last one
  code : (more : ℕ) → Mode
  -- in a line comment
  line : Mode
  -- after so many bytes more, in so many block comments, the one within the other
  block : (more depth : ℕ) → Mode
  stopped : Mode

-- what a byte makes, and the mode after it
pub data Step : Type 0 where
  step : List Token → Mode → Step

-- byte c between tokens; s follows it
unfoldable pub code_step : (c : ℕ) → List ℕ → Step
code_step c s =
    pick (is_blank c) (step [] (code 0))
    (pick (opens_line c (head s)) (step [] line)
    (pick (opens_block c (head s)) (step [] (block 1 1))
    (pick (starts_word c) (step (word_of (c ∷ take (run_of in_word s) s) ∷ []) (code (run_of in_word s)))
    (pick (is_digit c) (step (digits_of (c ∷ take (run_of is_digit s) s) (get_or s (run_of is_digit s) 0) ∷ []) (code (run_of is_digit s)))
    (pick (is_mark c) (step (mark c ∷ []) (code 0))
    (step (bad ∷ []) stopped))))))

-- byte c in block comments, which nest
unfoldable pub block_step : (depth c next : ℕ) → Step
block_step depth c next =
    pick (is_ascii c)
    (pick (closes_block c next) (pick (eqb depth 1) (step [] (code 1)) (step [] (block 1 (depth - 1))))
    (pick (opens_block c next) (step [] (block 1 (depth + 1)))
    (step [] (block 0 depth))))
    (step (bad ∷ []) stopped)

unfoldable pub step_of : Mode → (c : ℕ) → List ℕ → Step
step_of (code zero) c s = code_step c s
step_of (code (suc more)) c s = step [] (code more)
step_of line c s = pick (is_ascii c) (pick (ends_line c) (step [] (code 0)) (step [] line)) (step (bad ∷ []) stopped)
step_of (block zero depth) c s = block_step depth c (head s)
step_of (block (suc more) depth) c s = step [] (block more depth)
step_of stopped c s = step [] stopped

abbrev pub followed : Step → (Mode → List Token) → List Token
followed (step made mode) rest = made ++ rest mode

-- a line comment may end with the text, a block comment may not
abbrev pub at_end : Mode → List Token
at_end (code more) = []
at_end line = []
at_end (block more depth) = bad ∷ []
at_end stopped = []

unfoldable pub tokens : Mode → List ℕ → List Token
tokens mode [] = at_end mode
tokens mode (c ∷ s) = followed (step_of mode c s) (λ m. tokens m s)

-- the tokens of a text from a byte between them on
abbrev pub from : List ℕ → (at : ℕ) → List Token
from s at = tokens (code 0) (drop at s)
