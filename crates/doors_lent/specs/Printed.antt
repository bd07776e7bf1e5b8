-- What is printed of a call: lines of words.
-- Assumes nothing.
use Rattle.std.specs.Prelude.{◌≡◌, List, [], ◌∷◌, ◌++◌, ℕ}
use Rattle.std.specs.List.{AllZip}
use Rattle.program_output.specs.Bytes.{ascii, number, newline}

-- each number after a blank
unfoldable pub numbers_text : List ℕ → List ℕ
numbers_text [] = []
numbers_text (n ∷ ns) = number 32 n ++ numbers_text ns

-- a name, a colon and the numbers
abbrev pub line : (name ns : List ℕ) → List ℕ
line name ns = name ++ ascii ":" ++ numbers_text ns ++ newline

-- the line of words of any width, by the numbers that they are
abbrev pub WordsLine : {T : Type 0} → (converts : T → ℕ → Type 0) → (name : List ℕ) (words : List T) (bytes : List ℕ) → Type 0
WordsLine converts name words bytes = (ns : List ℕ) × AllZip converts words ns × (bytes ≡ line name ns)

-- the answer of an arena that is made for a number
abbrev pub refusal_line : (n : ℕ) (answer : List ℕ) → List ℕ
refusal_line n answer = ascii "made for" ++ number 32 n ++ line [] answer
