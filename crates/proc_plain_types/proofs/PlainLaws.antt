-- What the call answers is what the layouter makes of a type of that shape and width, whatever its scalar kind, and its column step.
-- Assumes nothing.
use mathlib.Core.Path.{◌≡◌, refl, ◌∙◌}
use mathlib.Core.Bool.{Bool, true, false, ◌&&◌}
use mathlib.Core.List.{List}
use Prim.Native.Nat.{ℕ, ◌+◌, ◌*◌}
use native.Mathlib.Omega.{arith}
use lib.Dec.{eqb, leb}
use Rattle.ir_records.specs.Result.{ok, pick}
use Rattle.ir_records.specs.declared.Leaf.{Leaf}
use Rattle.ir_records.specs.declared.Leaf.TheVariants.{Scalar, Vector, Matrix}
use Rattle.ir_records.specs.declared.TypeInner.TheVariants.{Plain}
use Rattle.proc_alignment.specs.Alignment.{power_of_two}
use Rattle.proc_type_methods.specs.TypeMethods.{leaf_size, leaf_column_step, try_size}
use Rattle.proc_type_alignment.specs.declared.TypeLayout.{TypeLayout}
use Rattle.proc_type_alignment.specs.TypeAlignment.{leaf_width, leaf_factor, alignment_of}
use Rattle.proc_type_layout.specs.TypeLayout.{layout_of}
use Rattle.proc_plain_types.specs.PlainTypes.{Found, Refused}
use Rattle.proc_plain_types.specs.PlainTypes.{most_shape, leaf_with, plain_width, worked_out, plain_answer}

-- three numbers are answered for one of the four widths alone, and are the worked-out ones
found_worked : (shape width size alignment step : ℕ) → plain_answer shape width ≡ Found size alignment step
    → (plain_width width ≡ true) × (worked_out (leaf_with shape 2 width) ≡ Found size alignment step)
unfolding plain_answer
found_worked shape width size alignment step = go (leb shape most_shape) (plain_width width)
  where
    go : (a b : Bool) → pick (a && b) (worked_out (leaf_with shape 2 width)) (Refused 2 0 0 0) ≡ Found size alignment step
        → (b ≡ true) × (worked_out (leaf_with shape 2 width) ≡ Found size alignment step)
    go true true e = (refl, e)
    go true false e = let z : ◌≡◌ {A = ℕ} 0 1 = cc in absurd (omega arith)
    go false b e = let z : ◌≡◌ {A = ℕ} 0 1 = cc in absurd (omega arith)

-- the width of a shape's type is the width, and its scalar kind is in none of the three numbers
module _ (kind width : ℕ) where
  abbrev leaf_by : (is_scalar is_vector : Bool) (size columns rows k : ℕ) → Leaf
  leaf_by is_scalar is_vector size columns rows k = pick is_scalar (Scalar k width) (pick is_vector (Vector size k width) (Matrix columns rows k width))

  by_shape : (is_scalar is_vector : Bool) (size columns rows : ℕ)
      → (leaf_width (leaf_by is_scalar is_vector size columns rows kind) ≡ width)
      × (worked_out (leaf_by is_scalar is_vector size columns rows kind) ≡ worked_out (leaf_by is_scalar is_vector size columns rows 2))
  by_shape true is_vector size columns rows = (refl, refl)
  by_shape false true size columns rows = (refl, refl)
  by_shape false false size columns rows = (refl, refl)

  any_kind : (shape : ℕ) → (leaf_width (leaf_with shape kind width) ≡ width) × (worked_out (leaf_with shape kind width) ≡ worked_out (leaf_with shape 2 width))
  any_kind shape = by_shape (eqb shape 0) (leb shape 3) (shape + 1) _ _

-- a leaf whose width is a power of two is laid out with its size and alignment, whatever stands before it
leaf_layout : (layouts : ℕ → TypeLayout) (i : ℕ) (leaf : Leaf) (members : List ℕ) → power_of_two (leaf_width leaf) ≡ true
    → layout_of layouts i (Plain leaf) members ≡ ok (record { size = leaf_size leaf; alignment = leaf_factor leaf * leaf_width leaf })
unfolding layout_of try_size alignment_of
leaf_layout layouts i leaf members e = rw e refl

pub plain_layout : (shape width size alignment step : ℕ) → plain_answer shape width ≡ Found size alignment step
    → (kind : ℕ) (layouts : ℕ → TypeLayout) (i : ℕ) (members : List ℕ)
    → (layout_of layouts i (Plain (leaf_with shape kind width)) members ≡ ok (record { size = size; alignment = alignment }))
    × (leaf_column_step (leaf_with shape kind width) ≡ step)
plain_layout shape width size alignment step e kind layouts i members =
    let leaf = leaf_with shape kind width in
    let found = found_worked shape width size alignment step e in
    let any = any_kind kind width shape in
    let power : power_of_two (leaf_width leaf) ≡ true = rw (any.0, found.0) refl in
    let worked = any.1 ∙ found.1 in
    let s : leaf_size leaf ≡ size = cc in
    let a : leaf_factor leaf * leaf_width leaf ≡ alignment = cc in
    (leaf_layout layouts i leaf members power ∙ rw (s, a) refl, cc)
