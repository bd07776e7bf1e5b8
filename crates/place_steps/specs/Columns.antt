-- 02, E6: the columns of a matrix, which are its leaves. A cooperative matrix remains whole.
-- Assumes nothing.
use Rattle.std.specs.Prelude.{Bool, true, false, ℕ, ◌*◌, ltb}
use Rattle.ir_records.specs.Result.{pick}
use Rattle.ir_records.specs.declared.Leaf.{Leaf}
use Rattle.ir_records.specs.declared.Leaf.TheVariants.{Scalar, Vector, Matrix, CooperativeMatrix, Atomic, RayQuery}
use Rattle.proc_type_methods.specs.TypeMethods.{leaf_column_step}
use Rattle.place_steps.specs.Step.{Step}
use Rattle.place_steps.specs.Step.{Column, NoStep}

-- whether the type is itself a leaf, and not its columns
abbrev pub is_whole : Leaf → Bool
is_whole (Scalar kind width) = true
is_whole (Vector size kind width) = true
is_whole (Matrix columns rows kind width) = false
is_whole (CooperativeMatrix columns rows kind width role) = true
is_whole (Atomic kind width) = true
is_whole (RayQuery vertexReturn) = true

-- how many columns it has
abbrev pub column_count : Leaf → ℕ
column_count (Scalar kind width) = 0
column_count (Vector size kind width) = 0
column_count (Matrix columns rows kind width) = columns
column_count (CooperativeMatrix columns rows kind width role) = 0
column_count (Atomic kind width) = 0
column_count (RayQuery vertexReturn) = 0

-- how long a leaf of the type is: a column rows times width, a whole one as long as the type measures
abbrev pub leaf_length : Leaf → (size : ℕ) → ℕ
leaf_length (Scalar kind width) size = size
leaf_length (Vector count kind width) size = size
leaf_length (Matrix columns rows kind width) size = rows * width
leaf_length (CooperativeMatrix columns rows kind width role) size = size
leaf_length (Atomic kind width) size = size
leaf_length (RayQuery vertexReturn) size = size

-- a step at a matrix: below the columns it adds step times column step and ends at that column
abbrev pub column_of : Leaf → (step : ℕ) → Step
column_of leaf step = pick (ltb step (column_count leaf)) (Column (step * leaf_column_step leaf)) NoStep
