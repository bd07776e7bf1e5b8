-- What an accepted alignment says of its parts.
-- Assumes nothing.
use mathlib.Core.Path.{◌≡◌}
use mathlib.Core.List.{List}
use Prim.Native.Nat.{ℕ, zero, suc, ◌*◌, ◌<◌, max}
use native.Mathlib.Nat.{not-suc-le-zero}
use native.Mathlib.Decide.{ℕ_discrete}
use native.Mathlib.Omega.{arith}
use lib.Dec.{T, ltb, ltb→lt}
use Rattle.ir_records.specs.Result.{ok, require}
use Rattle.ir_records.specs.Record.{member_type}
use Rattle.ir_records.specs.declared.Leaf.{Leaf}
use Rattle.ir_records.proofs.ResultLaws.{required, and_then_ok, ok_inj}
use Rattle.proc_alignment.specs.Alignment.{power_of_two}
use Rattle.proc_type_alignment.specs.declared.TypeLayout.{TypeLayout}
use Rattle.proc_type_alignment.specs.TypeAlignment.{leaf_width, leaf_factor, leaf_alignment, base_alignment, members_alignment}

-- the width of an accepted leaf is a power of two, and its alignment the factor times the width
pub leaf_accepted : (leaf : Leaf) (a : ℕ) → leaf_alignment leaf ≡ ok a → T (power_of_two (leaf_width leaf)) × (leaf_factor leaf * leaf_width leaf ≡ a)
leaf_accepted leaf a e =
    let r = required (power_of_two (leaf_width leaf)) 7 0 0 (ok (leaf_factor leaf * leaf_width leaf)) a e in
    (r.0, ok_inj r.1)

module _ (layouts : ℕ → TypeLayout) (i : ℕ) where
  -- the element of an accepted array is an earlier type, and the alignment is the element's
  pub base_accepted : (base a : ℕ) → base_alignment layouts i base ≡ ok a → (base < i) × ((layouts base).alignment ≡ a)
  base_accepted base a e =
      let r = required (ltb base i) 5 0 0 (ok (layouts base).alignment) a e in
      (ltb→lt base i r.0, ok_inj r.1)

  -- the largest alignment of j + 1 accepted members is that of the first j, or that of the last member's type, which is an earlier type
  pub member_accepted : (members : List ℕ) (j a : ℕ) → members_alignment layouts i members (suc j) ≡ ok a
      → (b : ℕ) × (members_alignment layouts i members j ≡ ok b) × (member_type members j < i) × (max b (layouts (member_type members j)).alignment ≡ a)
  unfolding members_alignment
  member_accepted members j a e =
      let last = (layouts (member_type members j)).alignment in
      let before = ltb (member_type members j) i in
      let s = and_then_ok (members_alignment layouts i members j) (λ b. require before 6 j 0 (ok (max b last))) a e in
      let r = required before 6 j 0 (ok (max s.0 last)) a s.2 in
      (s.0, s.1, ltb→lt (member_type members j) i r.0, ok_inj r.1)

-- each member of an accepted struct is of an earlier type
pub members_earlier : (layouts : ℕ → TypeLayout) (i : ℕ) (members : List ℕ) (n a : ℕ) → members_alignment layouts i members n ≡ ok a
    → (j : ℕ) → j < n → member_type members j < i
members_earlier layouts i members zero a e j h = absurd (not-suc-le-zero h)
members_earlier layouts i members (suc n) a e j h =
    let m = member_accepted layouts i members n a e in
    go (members_earlier layouts i members n m.0 m.1) m.2 (ℕ_discrete j n)
  where
    go : ((k : ℕ) → k < n → member_type members k < i) → member_type members n < i → Dec (j ≡ n) → member_type members j < i
    go before last (yes q) = rw q last
    go before last (no q) = before j (omega arith)
