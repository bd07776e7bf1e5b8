-- Words of four bytes, the lowest first.
-- Assumes nothing.
use Rattle.std.specs.Prelude.{List, [], ◌∷◌, ◌++◌, ℕ, zero, suc, ◌+◌, ◌*◌, get_or}

abbrev pub word_of : (bytes : List ℕ) (k : ℕ) → ℕ
word_of bytes k =
    get_or bytes (k * 4) 0 + 256 * get_or bytes (k * 4 + 1) 0 + 65536 * get_or bytes (k * 4 + 2) 0 + 16777216 * get_or bytes (k * 4 + 3) 0

-- the first n words
unfoldable pub words_in : (bytes : List ℕ) (n : ℕ) → List ℕ
words_in bytes zero = []
words_in bytes (suc n) = words_in bytes n ++ (word_of bytes n ∷ [])
