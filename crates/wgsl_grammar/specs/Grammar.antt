-- 02, E7: how tokens are read, one after the other. Every test stands at the place in the text that E7 gives it, so the first that fails is the answer.
-- Assumes nothing.
use Rattle.std.specs.Prelude.{Bool, true, false, not, List, [], ◌∷◌, ℕ, eqb}
use Rattle.ir_records.specs.Result.{pick}
use Rattle.wgsl_names.specs.Names.{is_keyword}
use Rattle.wgsl_tokens.specs.Tokens.{Token, word, number, large, mark, bad}

-- ---- what was read, or the number of a refusal
pub data Reading {ℓ} (A : Type ℓ) : Type ℓ where
  refused : ℕ → Reading A
  read : A → Reading A

abbrev pub and_then {ℓ κ} : {A : Type ℓ} {B : Type κ} → Reading A → (A → Reading B) → Reading B
and_then (refused n) f = refused n
and_then (read a) f = f a

-- the rest, where the test holds; else the refusal
abbrev pub demand {ℓ} : {A : Type ℓ} → Bool → ℕ → Reading A → Reading A
demand true n rest = rest
demand false n rest = refused n

-- ---- marks
-- the tokens after a mark that must stand here
abbrev pub expect : (byte : ℕ) → List Token → Reading (List Token)
expect byte [] = refused 31
expect byte (mark c ∷ ts) = pick (eqb c byte) (read ts) (refused 31)
expect byte (word w ∷ ts) = refused 31
expect byte (number n ∷ ts) = refused 31
expect byte (large ∷ ts) = refused 31
expect byte (bad ∷ ts) = refused 31

-- without the mark at the start, where it stands there
abbrev pub skipping : (byte : ℕ) → List Token → List Token
skipping byte [] = []
skipping byte (mark c ∷ ts) = pick (eqb c byte) ts (mark c ∷ ts)
skipping byte (word w ∷ ts) = word w ∷ ts
skipping byte (number n ∷ ts) = number n ∷ ts
skipping byte (large ∷ ts) = large ∷ ts
skipping byte (bad ∷ ts) = bad ∷ ts

-- ---- a name: a word that is no keyword
pub record Name : Type 0 where
  pub name : List ℕ
  pub rest : List Token

abbrev pub name_of : List Token → Reading Name
name_of [] = refused 31
name_of (word w ∷ ts) = demand (not (is_keyword w)) 31 (read (record { name = w; rest = ts }))
name_of (number n ∷ ts) = refused 31
name_of (large ∷ ts) = refused 31
name_of (mark c ∷ ts) = refused 31
name_of (bad ∷ ts) = refused 31

-- ---- a number, at most 4,294,967,295
pub record Value : Type 0 where
  pub value : ℕ
  pub rest : List Token

abbrev pub number_of : List Token → Reading Value
number_of [] = refused 31
number_of (number n ∷ ts) = read (record { value = n; rest = ts })
number_of (large ∷ ts) = refused 33
number_of (word w ∷ ts) = refused 31
number_of (mark c ∷ ts) = refused 31
number_of (bad ∷ ts) = refused 31
