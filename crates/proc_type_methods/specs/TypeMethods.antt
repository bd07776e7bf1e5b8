-- 01, 'The layout': what each type measures (`try_size` of naga's proc/type_methods.rs), and number 4.
-- Assumes nothing.
use Rattle.std.specs.Prelude.{◌&&◌, ℕ, ◌*◌, leb}
use Rattle.ir_records.specs.Result.{Result, ok, require}
use Rattle.ir_records.specs.declared.Leaf.{Leaf}
use Rattle.ir_records.specs.declared.Leaf.TheVariants.{Scalar, Vector, Matrix, CooperativeMatrix, Atomic, RayQuery}
use Rattle.ir_records.specs.declared.NonData.{NonData}
use Rattle.ir_records.specs.declared.NonData.TheVariants.{Pointer, ValuePointer, Image, Sampler, AccelerationStructure, BindingArray}
use Rattle.ir_records.specs.declared.TypeInner.{TypeInner}
use Rattle.ir_records.specs.declared.TypeInner.TheVariants.{Plain, Array, RuntimeArray, Struct, Other}
use Rattle.proc_alignment.specs.Alignment.{vector_alignment}

-- naga's MAX_TYPE_SIZE
abbrev pub most_size : ℕ
most_size = 2147483647

-- from a column of a matrix to the next: as far apart as a vector of its rows is aligned (02, E6)
abbrev pub column_step : (rows width : ℕ) → ℕ
column_step rows width = vector_alignment rows * width

-- a matrix has a column step for each of its columns
abbrev pub leaf_size : Leaf → ℕ
leaf_size (Scalar kind width) = width
leaf_size (Vector size kind width) = size * width
leaf_size (Matrix columns rows kind width) = column_step rows width * columns
leaf_size (CooperativeMatrix columns rows kind width role) = columns * rows * width
leaf_size (Atomic kind width) = width
leaf_size (RayQuery vertexReturn) = 0

-- the column step of a leaf; 0 for what has no columns. A cooperative matrix is one whole
abbrev pub leaf_column_step : Leaf → ℕ
leaf_column_step (Scalar kind width) = 0
leaf_column_step (Vector size kind width) = 0
leaf_column_step (Matrix columns rows kind width) = column_step rows width
leaf_column_step (CooperativeMatrix columns rows kind width role) = 0
leaf_column_step (Atomic kind width) = 0
leaf_column_step (RayQuery vertexReturn) = 0

-- pointers measure 4, handles 0
abbrev pub non_data_size : NonData → ℕ
non_data_size (Pointer base space) = 4
non_data_size (ValuePointer kind width space) = 4
non_data_size (Image dim arrayed class) = 0
non_data_size Sampler = 0
non_data_size (AccelerationStructure vertexReturn) = 0
non_data_size (BindingArray base form count) = 0

-- arrays measure count times stride, dynamic ones a single stride; structs measure their span
abbrev pub size_of : TypeInner → ℕ
size_of (Plain leaf) = leaf_size leaf
size_of (Array base count stride) = count * stride
size_of (RuntimeArray base stride) = stride
size_of (Struct count span) = span
size_of (Other o) = non_data_size o

-- number 4: an array's count, or its measure, above the limit, at stride 0 too; a struct's span has no such limit
abbrev pub array_size : (count stride : ℕ) → Result ℕ
array_size count stride = require (leb count most_size && leb (count * stride) most_size) 4 0 0 (ok (count * stride))

abbrev pub runtime_array_size : (stride : ℕ) → Result ℕ
runtime_array_size stride = require (leb stride most_size) 4 0 0 (ok stride)

unfoldable pub try_size : TypeInner → Result ℕ
try_size (Plain leaf) = ok (leaf_size leaf)
try_size (Array base count stride) = array_size count stride
try_size (RuntimeArray base stride) = runtime_array_size stride
try_size (Struct count span) = ok span
try_size (Other o) = ok (non_data_size o)
