-- The words of a line: what stands before its comment, split at blanks.
-- Assumes nothing.
use Rattle.std.specs.Prelude.{◌≡◌, Bool, cond, not, ◌||◌, List, [], ◌∷◌, ℕ, zero, suc, ◌-◌, ◌≤◌, ◌<◌, eqb, length, get_or, take, drop, Option, None, Some}
use Rattle.program_words.specs.declared.Span.{Span}

-- a space or a tab
abbrev pub is_blank : ℕ → Bool
is_blank b = eqb b 32 || eqb b 9

-- a byte of a word
abbrev pub in_word : ℕ → Bool
in_word b = not (is_blank b)

-- a byte before a comment
abbrev pub in_text : ℕ → Bool
in_text b = not (eqb b 35)

-- what a function answers of a byte is a test of it
abbrev pub Tells : (post : ℕ → Bool → Type 0) (test : ℕ → Bool) → Type 0
Tells post test = (b : ℕ) (r : Bool) → post b r → r ≡ test b

-- how many bytes at the start pass the test
unfoldable pub run_of : (ℕ → Bool) → List ℕ → ℕ
run_of p [] = zero
run_of p (b ∷ s) = cond (p b) (suc (run_of p s)) zero

unfoldable pub before_comment : List ℕ → List ℕ
before_comment s = take (run_of in_text s) s

-- a carriage return at the end is dropped
unfoldable pub without_return : List ℕ → List ℕ
without_return s = cond (eqb (get_or s (length s - 1) 0) 13) (take (length s - 1) s) s

abbrev pub text_of : List ℕ → List ℕ
text_of s = before_comment (without_return s)

-- ---- words
abbrev pub on_first : ℕ → List (List ℕ) → List (List ℕ)
on_first b [] = (b ∷ []) ∷ []
on_first b (w ∷ ws) = (b ∷ w) ∷ ws

-- what stands between blanks, empty pieces too
unfoldable pub pieces : List ℕ → List (List ℕ)
pieces [] = [] ∷ []
pieces (b ∷ s) = cond (is_blank b) ([] ∷ pieces s) (on_first b (pieces s))

abbrev pub non_empty : List (List ℕ) → List (List ℕ)
non_empty [] = []
non_empty ([] ∷ ws) = non_empty ws
non_empty ((b ∷ w) ∷ ws) = (b ∷ w) ∷ non_empty ws

unfoldable pub words : List ℕ → List (List ℕ)
words s = non_empty (pieces s)

-- the bytes from a up to e
abbrev pub part : List ℕ → ℕ → ℕ → List ℕ
part s a e = take (e - a) (drop a s)

-- the answer is the first word from `at` on, and the others follow it
abbrev pub WordAt : List ℕ → ℕ → Option Span → Type 0
WordAt s at None = words (drop at s) ≡ []
WordAt s at (Some word) =
    (word.start < word.end) × (word.end ≤ length s) × (words (drop at s) ≡ part s word.start word.end ∷ words (drop word.end s))
