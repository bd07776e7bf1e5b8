-- The number that a word is: decimal, at most 4294967295.
-- Assumes nothing.
use Rattle.std.specs.Prelude.{Bool, cond, ◌&&◌, List, [], ◌∷◌, ℕ, ◌+◌, ◌-◌, ◌*◌, leb, ltb, length, Result, Ok, Err}
use Rattle.std.specs.List.{list_all}
use Rattle.program_words.specs.declared.NumberError.{NumberError}
use Rattle.program_words.specs.declared.NumberError.TheVariants.{NotANumber, TooLarge}

abbrev pub is_digit : ℕ → Bool
is_digit b = leb 48 b && leb b 57

unfoldable pub all_digits : List ℕ → Bool
all_digits s = list_all is_digit s

-- n followed by the digits of s
unfoldable pub decimal : ℕ → List ℕ → ℕ
decimal n [] = n
decimal n (b ∷ s) = decimal (n * 10 + (b - 48)) s

abbrev pub largest : ℕ
largest = 4294967295

unfoldable pub number_of : List ℕ → Result ℕ NumberError
number_of w =
    cond (ltb 0 (length w) && all_digits w)
    (cond (leb (decimal 0 w) largest) (Ok (decimal 0 w)) (Err TooLarge))
    (Err NotANumber)
