-- The words of the bytes, one by one.
-- Assumes nothing.
use mathlib.Core.Path.{◌≡◌, refl, sym, ap, ◌∙◌}
use mathlib.Core.List.{List, [], ◌∷◌, ◌++◌}
use Prim.Native.Nat.{ℕ, zero, suc, ◌+◌, ◌≤◌, ◌<◌}
use native.Mathlib.Nat.{not-suc-le-zero}
use native.Mathlib.Decide.{dec_le}
use native.Mathlib.Omega.{arith}
use lib.ListN.{length, get_or, length-append, get_or-append}
use lib.Seq.{get_or-append-add}
use Rattle.spirv_input.specs.Bytes.{word_of, words_in}

module _ (bytes : List ℕ) where
  pub words_length : (n : ℕ) → length (words_in bytes n) ≡ n
  unfolding words_in
  words_length zero = refl
  words_length (suc n) = length-append (words_in bytes n) (word_of bytes n ∷ []) ∙ omega (arith, words_length n)

  pub words_at : (n k : ℕ) → k < n → get_or (words_in bytes n) k 0 ≡ word_of bytes k
  unfolding words_in
  words_at zero k h = absurd (not-suc-le-zero h)
  words_at (suc n) k h = by (dec_le n k) (words_at n k)
    where
      by : Dec (n ≤ k) → (k < n → get_or (words_in bytes n) k 0 ≡ word_of bytes k) → get_or (words_in bytes n ++ (word_of bytes n ∷ [])) k 0 ≡ word_of bytes k
      by (no m) rest =
          let less : k < n = omega (arith, m) in
          get_or-append (words_in bytes n) (word_of bytes n ∷ []) 0 k (omega (arith, words_length n, less)) ∙ rest less
      by (yes m) rest =
          let same : k ≡ n = omega (arith, m, h) in
          let end : k ≡ length (words_in bytes n) + 0 = omega (arith, words_length n, same) in
          ap (λ (i : ℕ). get_or (words_in bytes n ++ (word_of bytes n ∷ [])) i 0) end
          ∙ get_or-append-add (words_in bytes n) (word_of bytes n ∷ []) 0 0
          ∙ ap (word_of bytes) (sym same)
