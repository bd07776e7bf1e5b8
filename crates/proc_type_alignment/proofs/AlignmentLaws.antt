-- Laws of alignments: the factor of a leaf, the loop over members.
-- Assumes nothing.
use mathlib.Core.Path.{◌≡◌}
use mathlib.Core.List.{List}
use Prim.Native.Nat.{ℕ, ◌+◌, ◌≤◌, ◌<◌, max}
use native.Mathlib.Omega.{arith}
use native.Mathlib.Numerals.{add-one}
use native.Mathlib.Decide.{le_ind, ℕ_discrete}
use lib.Bits.{bit_or, or_add_and, and_le_l, and_le_r}
use borrow.Author.Tests.{lt-ltb, le-ltb}
use Rattle.ir_records.specs.Result.{err, ok}
use Rattle.ir_records.specs.Record.{member_type, member_source, Sourceless}
use Rattle.proc_alignment.specs.Alignment.{vector_alignment}
use Rattle.proc_alignment.proofs.PowerLaws.{vector_within}
use Rattle.proc_type_alignment.specs.declared.TypeLayout.{TypeLayout}
use Rattle.proc_type_alignment.specs.TypeAlignment.{members_alignment}

-- what `leaf_alignment` asks of a factor
pub factor_within : (n : ℕ) → vector_alignment n ≤ 16
factor_within n = omega (arith, vector_within n)

-- ---- the loop over members
-- words in one that is 0
or_none : (a b : ℕ) → bit_or a b ≡ 0 → (a ≡ 0) × (b ≡ 0)
or_none a b e = (omega (arith, e, or_add_and a b, and_le_r a b), omega (arith, e, or_add_and a b, and_le_l a b))

pub one_more_sourceless : (part : List ℕ) (j sources : ℕ) → (sources ≡ 0 → Sourceless part j)
    → bit_or sources (member_source part j) ≡ 0 → Sourceless part (j + 1)
one_more_sourceless part j sources before e k h = go (ℕ_discrete k j)
  where
    none : (sources ≡ 0) × (member_source part j ≡ 0)
    none = or_none sources (member_source part j) e

    go : Dec (k ≡ j) → member_source part k ≡ 0
    go (yes q) = rw q none.1
    go (no q) = before none.0 k (omega (arith, h))

module _ (layouts : ℕ → TypeLayout) (i : ℕ) (part : List ℕ) (j a : ℕ) (so_far : members_alignment layouts i part j ≡ ok a) where
  pub member_earlier : member_type part j < i → members_alignment layouts i part (j + 1) ≡ ok (max a (layouts (member_type part j)).alignment)
  unfolding members_alignment
  member_earlier h = rw (add-one j, so_far, lt-ltb (member_type part j) i h)

  pub member_late : i ≤ member_type part j → (n : ℕ) → j < n → members_alignment layouts i part n ≡ err 6 j 0
  unfolding members_alignment
  member_late h n l =
      le_ind (λ (m : ℕ). members_alignment layouts i part m ≡ err 6 j 0) (rw (so_far, le-ltb (member_type part j) i h)) (λ m k p. rw p) n l
