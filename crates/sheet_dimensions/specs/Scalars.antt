-- The layout sheet: the scalars that a leaf is made of.
-- Assumes nothing.
use Rattle.std.specs.Prelude.{◌≡◌, Option, None}
use Rattle.ir_records.specs.declared.Leaf.{Leaf}
use Rattle.ir_records.specs.declared.Leaf.TheVariants.{Scalar, Vector, Matrix, CooperativeMatrix, Atomic, RayQuery}
use Rattle.sheet_types.specs.declared.Scalar as of_scalar
use Rattle.sheet_types.specs.Types.{ScalarIs}

-- by the kind and the width that it names; none for what C and Rust have no scalars for
abbrev pub LeafScalar : Leaf → Option of_scalar.Scalar → Type 0
LeafScalar (Scalar kind width) scalar = ScalarIs kind width scalar
LeafScalar (Vector size kind width) scalar = ScalarIs kind width scalar
LeafScalar (Matrix columns rows kind width) scalar = ScalarIs kind width scalar
LeafScalar (CooperativeMatrix columns rows kind width role) scalar = scalar ≡ None
LeafScalar (Atomic kind width) scalar = ScalarIs kind width scalar
LeafScalar (RayQuery vertexReturn) scalar = scalar ≡ None
