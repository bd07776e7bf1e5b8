-- Laws of columns: a column with the gap after it takes a column step, and a matrix is made of those.
-- Assumes nothing.
use mathlib.Core.Path.{◌≡◌, refl}
use mathlib.Core.Bool.{Bool, true, false}
use Prim.Native.Nat.{ℕ, ◌*◌, ◌≤◌, ◌<◌}
use native.Mathlib.Nat.{mul-le-mul_right, le_refl}
use native.Mathlib.Omega.{arith}
use lib.Dec.{T, eqb}
use borrow.Author.Tests.{eqb-true}
use Rattle.ir_records.specs.Result.{pick}
use Rattle.ir_records.specs.Serving.{InnerBounds}
use Rattle.ir_records.specs.declared.Leaf.{Leaf}
use Rattle.ir_records.specs.declared.Leaf.TheVariants.{Scalar, Vector, Matrix, CooperativeMatrix, Atomic, RayQuery}
use Rattle.ir_records.specs.declared.TypeInner.{TypeInner}
use Rattle.ir_records.specs.declared.TypeInner.TheVariants.{Plain, Array, RuntimeArray, Struct, Other}
use Rattle.proc_alignment.specs.Alignment.{vector_alignment}
use Rattle.proc_type_methods.specs.TypeMethods.{column_step, leaf_size, leaf_column_step}
use Rattle.valid_types.specs.ValidateType.{leaf_verdict_alignment}
use Rattle.place_steps.specs.Columns.{is_whole, column_count}
use Rattle.place_steps.specs.Steps.{is_leaf}
use Rattle.place_term3.specs.Term3.{length_in}

-- how far a leaf reaches: a column with the gap after it, a whole one as far as the type measures
abbrev pub leaf_reach : Leaf → (size : ℕ) → ℕ
leaf_reach leaf size = pick (is_whole leaf) size (leaf_column_step leaf)

abbrev pub reach_in : TypeInner → (size : ℕ) → ℕ
reach_in (Plain leaf) size = leaf_reach leaf size
reach_in (Array base count stride) size = size
reach_in (RuntimeArray base stride) size = size
reach_in (Struct count span) size = size
reach_in (Other o) size = size

-- a column has no more rows than its step has room for
rows_within : (rows : ℕ) → rows ≤ 4 → rows ≤ vector_alignment rows
rows_within rows h = go (eqb rows 2) refl
  where
    go : (b : Bool) → eqb rows 2 ≡ b → rows ≤ pick b 2 4
    go true e = omega (arith, eqb-true rows 2 e)
    go false e = h

-- a leaf is no longer than it reaches
pub length_reach : (this : TypeInner) → InnerBounds this → (size : ℕ) → length_in this size ≤ reach_in this size
length_reach (Plain (Scalar k w)) b size = le_refl size
length_reach (Plain (Vector n k w)) b size = le_refl size
length_reach (Plain (Matrix cs rs k w)) b size = mul-le-mul_right w (rows_within rs b.1)
length_reach (Plain (CooperativeMatrix cs rs k w o)) b size = le_refl size
length_reach (Plain (Atomic k w)) b size = le_refl size
length_reach (Plain (RayQuery v)) b size = le_refl size
length_reach (Array base count stride) b size = le_refl size
length_reach (RuntimeArray base stride) b size = le_refl size
length_reach (Struct count span) b size = le_refl size
length_reach (Other o) b size = le_refl size

-- a whole leaf reaches as far as the type measures
pub whole_reach : (this : TypeInner) → T (is_leaf this) → (size : ℕ) → reach_in this size ≡ size
whole_reach (Plain leaf) t size = go (is_whole leaf) t
  where
    go : (b : Bool) → T b → pick b size (leaf_column_step leaf) ≡ size
    go true t = refl
    go false t = absurd t
whole_reach (Array base count stride) t size = refl
whole_reach (RuntimeArray base stride) t size = refl
whole_reach (Struct count span) t size = refl
whole_reach (Other o) t size = refl

-- what a type with a column s says: the column reaches a column step, the columns are all of the type, and the step is its alignment
pub record Columned (leaf : Leaf) : Type 0 where
  pub reach : (size : ℕ) → leaf_reach leaf size ≡ leaf_column_step leaf
  pub size : leaf_size leaf ≡ leaf_column_step leaf * column_count leaf
  pub alignment : leaf_verdict_alignment leaf ≡ leaf_column_step leaf

pub columned : (leaf : Leaf) (s : ℕ) → s < column_count leaf → Columned leaf
columned (Scalar k w) s h = absurd (omega arith)
columned (Vector n k w) s h = absurd (omega arith)
columned (Matrix cs rs k w) s h = record { reach = λ size. refl; size = refl; alignment = refl }
columned (CooperativeMatrix cs rs k w o) s h = absurd (omega arith)
columned (Atomic k w) s h = absurd (omega arith)
columned (RayQuery v) s h = absurd (omega arith)

-- a column is rows times width long, and reaches a column step
pub matrix_column : (this : TypeInner) (columns rows kind width : ℕ) → this ≡ Plain (Matrix columns rows kind width) → (size : ℕ)
    → (length_in this size ≡ rows * width) × (reach_in this size ≡ column_step rows width)
matrix_column this columns rows kind width e size = rw e (refl, refl)
