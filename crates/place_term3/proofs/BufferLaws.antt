-- A buffer in which the bytes of a leaf are rewritten: every other byte stays.
-- Assumes nothing.
use mathlib.Core.Path.{◌≡◌, refl, ◌∙◌}
use mathlib.Core.Logic.{◌⊎◌, inl, inr, ◌≢◌}
use mathlib.Core.List.{List, [], ◌∷◌}
use Prim.Native.Nat.{ℕ, zero, suc, ◌+◌, ◌≤◌, ◌<◌}
use native.Mathlib.Omega.{arith}
use lib.ListN.{length, take, set, get_elem?, length-take}
use lib.Seq.{sets}
use Rattle.place_term3.specs.Term3.{rewrite}

-- one byte set: the others stay
byte_set : (l : List ℕ) (i k v : ℕ) → k ≢ i → get_elem? (set l i v) k ≡ get_elem? l k
byte_set [] i k v h = refl
byte_set (x ∷ l) zero zero v h = absurd (h refl)
byte_set (x ∷ l) zero (suc k) v h = refl
byte_set (x ∷ l) (suc i) zero v h = refl
byte_set (x ∷ l) (suc i) (suc k) v h = byte_set l i k v (omega arith)

-- bytes set from i on: those before and after stay
bytes_set : (vs l : List ℕ) (i k : ℕ) → (k < i) ⊎ (i + length vs ≤ k) → get_elem? (sets l i vs) k ≡ get_elem? l k
bytes_set [] l i k h = refl
bytes_set (v ∷ vs) l i k (inl h) = bytes_set vs (set l i v) (suc i) k (inl (omega arith)) ∙ byte_set l i k v (omega arith)
bytes_set (v ∷ vs) l i k (inr h) = bytes_set vs (set l i v) (suc i) k (inr (omega arith)) ∙ byte_set l i k v (omega arith)

-- a byte outside the leaf stays
pub rewrite_other : (buffer bytes : List ℕ) (byte size k : ℕ) → (k < byte) ⊎ (byte + size ≤ k)
    → get_elem? (rewrite buffer byte size bytes) k ≡ get_elem? buffer k
rewrite_other buffer bytes byte size k (inl h) = bytes_set (take size bytes) buffer byte k (inl h)
rewrite_other buffer bytes byte size k (inr h) = bytes_set (take size bytes) buffer byte k (inr (omega (arith, length-take size bytes)))
