-- The alignment of an accepted type is a power of two, where those before it are.
-- Assumes nothing.
use mathlib.Core.Path.{◌≡◌, refl}
use mathlib.Core.List.{List}
use Prim.Native.Nat.{ℕ, zero, suc, ◌*◌, ◌<◌}
use Rattle.ir_records.specs.Result.{ok}
use Rattle.ir_records.specs.Record.{member_type}
use Rattle.ir_records.specs.Serving.{LeafBounds, InnerBounds}
use Rattle.ir_records.specs.declared.Leaf.{Leaf}
use Rattle.ir_records.specs.declared.Leaf.TheVariants.{Scalar, Vector, Matrix, CooperativeMatrix, Atomic, RayQuery}
use Rattle.ir_records.specs.declared.TypeInner.{TypeInner}
use Rattle.ir_records.specs.declared.TypeInner.TheVariants.{Plain, Array, RuntimeArray, Struct, Other}
use Rattle.ir_records.proofs.ResultLaws.{ok_inj}
use Rattle.proc_alignment.specs.Alignment.{Power}
use Rattle.proc_alignment.proofs.PowerLaws.{power_of_width, power_vector, power_product, power_cooperative, power_max}
use Rattle.proc_type_alignment.specs.declared.TypeLayout.{TypeLayout}
use Rattle.proc_type_alignment.specs.TypeAlignment.{leaf_width, leaf_factor, leaf_alignment, base_alignment, members_alignment, alignment_of}
use Rattle.proc_type_alignment.proofs.AcceptedAlignment.{leaf_accepted, base_accepted, member_accepted}

-- one is a power of two
pub power_one : Power 1
power_one = record { exponent = 0; is = refl }

-- a power of two, times the factor of a leaf within its bounds, is a power of two
power_leaf : (leaf : Leaf) → LeafBounds leaf → Power (leaf_width leaf) → Power (leaf_factor leaf * leaf_width leaf)
power_leaf (Scalar k w) b p = power_product 1 w power_one p
power_leaf (Vector n k w) b p = power_vector n w p
power_leaf (Matrix c r k w) b p = power_vector r w p
power_leaf (CooperativeMatrix c r k w o) b p = power_product r w (power_cooperative r b.1) p
power_leaf (Atomic k w) b p = power_product 1 w power_one p
power_leaf (RayQuery v) b p = power_one

-- the alignment of an accepted leaf is a power of two
leaf_power : (leaf : Leaf) (a : ℕ) → LeafBounds leaf → leaf_alignment leaf ≡ ok a → Power a
leaf_power leaf a b e = let r = leaf_accepted leaf a e in rw r.1 at (power_leaf leaf b (power_of_width (leaf_width leaf) r.0))

module _ (layouts : ℕ → TypeLayout) (i : ℕ) (earlier : (k : ℕ) → k < i → Power (layouts k).alignment) where
  -- the alignment of an accepted array is a power of two
  base_power : (base a : ℕ) → base_alignment layouts i base ≡ ok a → Power a
  base_power base a e = let r = base_accepted layouts i base a e in rw r.1 at (earlier base r.0)

  -- the largest alignment of the first j members is a power of two
  members_power : (members : List ℕ) (j a : ℕ) → members_alignment layouts i members j ≡ ok a → Power a
  unfolding members_alignment
  members_power members zero a e = rw (ok_inj e) at power_one
  members_power members (suc j) a e =
      let m = member_accepted layouts i members j a e in
      rw m.3 at
      (power_max m.0 (layouts (member_type members j)).alignment (members_power members j m.0 m.1) (earlier (member_type members j) m.2))

  -- the alignment of an accepted type is a power of two
  pub alignment_power : (inner : TypeInner) (members : List ℕ) (a : ℕ) → InnerBounds inner → alignment_of layouts i inner members ≡ ok a → Power a
  unfolding alignment_of
  alignment_power (Plain leaf) members a b e = leaf_power leaf a b e
  alignment_power (Array base count stride) members a b e = base_power base a e
  alignment_power (RuntimeArray base stride) members a b e = base_power base a e
  alignment_power (Struct count span) members a b e = members_power members count a e
  alignment_power (Other o) members a b e = rw (ok_inj e) at power_one
