-- Tokens, byte by byte: what stands at a position, by the byte there and the next one. Assumes nothing.
use mathlib.Core.Path.{◌≡◌, refl, sym, ap, ◌∙◌}
use mathlib.Core.List.{List, [], ◌∷◌}
use Prim.Native.Nat.{ℕ, zero, suc, ◌+◌, ◌≤◌, ◌<◌}
use native.Mathlib.Numerals.{add-one}
use native.Mathlib.Nat.{add-zero}
use native.Mathlib.Omega.{arith}
use native.Mathlib.Decide.{dec_le}
use lib.ListN.{length, get_or, drop, drop_of_length-le, get_or-eq_default}
use lib.Seq.{drop-cons, drop-drop, get_or-drop}
use Rattle.wgsl_tokens.specs.Tokens.{Mode, code, block, head, step_of, followed, tokens, from}

-- a position with a byte other than 0 is inside
pub inside : (s : List ℕ) (i b : ℕ) → get_or s i 0 ≡ suc b → i < length s
inside s i b e = go (dec_le (length s) i)
  where
    go : Dec (length s ≤ i) → i < length s
    go (yes h) = let z = get_or-eq_default s 0 h in absurd (omega arith)
    go (no h) = omega arith

-- the byte after position i
pub head_next : (s : List ℕ) (i : ℕ) → head (drop (suc i) s) ≡ get_or s (i + 1) 0
head_next s i = get_or-drop (suc i) s 0 0 ∙ ap (λ (k : ℕ). get_or s k 0) (add-zero (suc i) ∙ sym (add-one i))

pub drop_two : (s : List ℕ) (i : ℕ) → drop 1 (drop (suc i) s) ≡ drop (i + 2) s
drop_two s i = let n : suc i + 1 ≡ i + 2 = omega arith in drop-drop 1 (suc i) s ∙ ap (λ (k : ℕ). drop k s) n

-- the rest of a token is passed over
pub code_skip : (n : ℕ) (s : List ℕ) → tokens (code n) s ≡ tokens (code 0) (drop n s)
unfolding tokens step_of
code_skip zero s = refl
code_skip (suc n) [] = refl
code_skip (suc n) (c ∷ s) = code_skip n s

pub block_skip : (depth : ℕ) (s : List ℕ) → tokens (block 1 depth) s ≡ tokens (block 0 depth) (drop 1 s)
unfolding tokens step_of
block_skip depth [] = refl
block_skip depth (c ∷ s) = refl

-- the tokens from a position inside on, by its byte
pub tokens_at : (s : List ℕ) (i : ℕ) → i < length s → (mode : Mode)
    → tokens mode (drop i s) ≡ followed (step_of mode (get_or s i 0) (drop (suc i) s)) (λ m. tokens m (drop (suc i) s))
unfolding tokens
tokens_at s i h mode = rw (drop-cons s i 0 h)

pub tokens_end : (s : List ℕ) (i : ℕ) → length s ≤ i → from s i ≡ []
unfolding tokens
tokens_end s i h = rw (drop_of_length-le s h)
