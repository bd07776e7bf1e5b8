-- The layout sheet: the dimensions of a type as C and Rust have them, outermost first, and what stands inside them.
-- Assumes nothing.
use Rattle.std.specs.Prelude.{List, [], ◌∷◌, ◌++◌, ℕ, zero, suc, ◌/◌, ◌%◌, eqb, leb, Option, None, Some}
use Rattle.ir_records.specs.Result.{pick}
use Rattle.ir_records.specs.Record.{type_word, type_inner, array_kind}
use Rattle.ir_records.specs.declared.Leaf.{Leaf}
use Rattle.ir_records.specs.declared.Leaf.TheVariants as leaf
use Rattle.ir_records.specs.declared.TypeInner.{TypeInner}
use Rattle.ir_records.specs.declared.TypeInner.TheVariants as inner
use Rattle.ir_rows.specs.Rows.{row_word}
use Rattle.proc_type_methods.specs.TypeMethods.{column_step}
use Rattle.program_output.specs.Bytes.{ascii}
use Rattle.sheet_types.specs.Types.{most_depth}

-- ---- shapes
-- inside all dimensions: a scalar by the number of its kind and its width in bytes, or a struct by its number
pub data Inside : Type 0 where
  scalar : (kind width : ℕ) → Inside
  struct : (i : ℕ) → Inside

-- how many elements each dimension has, where their number is fixed, and what stands inside all
pub record Shape : Type 0 where
  pub extents : List (Option ℕ)
  pub inside : Inside

-- more dimensions outside of all others
abbrev pub onto : (more : List (Option ℕ)) → Option Shape → Option Shape
onto more None = None
onto more (Some shape) = Some (record { extents = more ++ shape.extents; inside = shape.inside })

-- the same, where there are such
abbrev pub over : (more : Option (List (Option ℕ))) → Option Shape → Option Shape
over None shape = None
over (Some more) shape = onto more shape

-- ---- numbers of elements
-- how often a unit goes into a step, where it goes evenly
abbrev pub divided : (step unit : ℕ) → Option ℕ
divided step unit = pick (eqb unit 0) None (pick (eqb (step % unit) 0) (Some (step / unit)) None)

-- so many parts by itself; in an array, whose elements lie a step apart, as many of these bytes as go into a step
abbrev pub fitting : (step : Option ℕ) (parts bytes : ℕ) → Option ℕ
fitting None parts bytes = Some parts
fitting (Some step) parts bytes = divided step bytes

-- one dimension of that number of elements, where there is one
abbrev pub one : Option ℕ → Option (List (Option ℕ))
one None = None
one (Some n) = Some (Some n ∷ [])

-- the dimensions of both, where both have some
abbrev pub joined : (outer inner : Option (List (Option ℕ))) → Option (List (Option ℕ))
joined None ns = None
joined (Some ms) None = None
joined (Some ms) (Some ns) = Some (ms ++ ns)

-- ---- scalars, vectors and matrices
-- a scalar by itself has no dimension, nor has one that is as long as a step; else there are as many as go into the step
abbrev pub scalar_extents : (step : Option ℕ) (width : ℕ) → Option (List (Option ℕ))
scalar_extents None width = Some []
scalar_extents (Some step) width = pick (eqb step width) (Some []) (one (divided step width))

abbrev pub vector_extents : (step : Option ℕ) (size width : ℕ) → Option (List (Option ℕ))
vector_extents step size width = one (fitting step size width)

-- a matrix by itself: its columns, and the scalars of a column step. In an array, a step apart: the columns of a step
abbrev pub matrix_extents : (step : Option ℕ) (columns column width : ℕ) → Option (List (Option ℕ))
matrix_extents step columns column width = joined (one (fitting step columns column)) (one (divided column width))

-- no scalar where no kind has that number
abbrev pub scalar_shape : (kind width : ℕ) → Option Shape
scalar_shape kind width = pick (leb kind 5) (Some (record { extents = []; inside = scalar kind width })) None

-- none for what C and Rust have no scalars for
abbrev pub leaf_shape : (step : Option ℕ) → Leaf → Option Shape
leaf_shape step (leaf.Scalar kind width) = over (scalar_extents step width) (scalar_shape kind width)
leaf_shape step (leaf.Vector size kind width) = over (vector_extents step size width) (scalar_shape kind width)
leaf_shape step (leaf.Matrix columns rows kind width) = over (matrix_extents step columns (column_step rows width) width) (scalar_shape kind width)
leaf_shape step (leaf.CooperativeMatrix columns rows kind width role) = None
leaf_shape step (leaf.Atomic kind width) = over (scalar_extents step width) (scalar_shape kind width)
leaf_shape step (leaf.RayQuery vertex_return) = None

-- ---- structs and arrays
-- a struct has no dimension; in an array it is as long as a step
abbrev pub struct_shape : (step : Option ℕ) (i size : ℕ) → Option Shape
struct_shape None i size = Some (record { extents = []; inside = struct i })
struct_shape (Some step) i size = pick (eqb step size) (Some (record { extents = []; inside = struct i })) None

-- type i, which is no array
abbrev pub base_shape : (step : Option ℕ) (i size : ℕ) → TypeInner → Option Shape
base_shape step i size (inner.Plain leaf) = leaf_shape step leaf
base_shape step i size (inner.Array element count stride) = None
base_shape step i size (inner.RuntimeArray element stride) = None
base_shape step i size (inner.Struct count span) = struct_shape step i size
base_shape step i size (inner.Other o) = None

-- the count of an array, where it has one
abbrev pub count_of : TypeInner → Option ℕ
count_of (inner.Plain leaf) = None
count_of (inner.Array element count stride) = Some count
count_of (inner.RuntimeArray element stride) = None
count_of (inner.Struct count span) = None
count_of (inner.Other o) = None

-- an array by itself has its count; inside another, as many of its strides as the outer one's step has
abbrev pub array_extents : (step : Option ℕ) → TypeInner → (stride : ℕ) → Option (List (Option ℕ))
array_extents None array stride = pick (eqb stride 0) None (Some (count_of array ∷ []))
array_extents (Some step) array stride = pick (eqb stride 0) None (one (divided step stride))

-- type i, with fewer than so many arrays in one another; inside an array its copies lie a step apart
unfoldable pub shape_in : (types rows : List ℕ) (most : ℕ) (step : Option ℕ) (i : ℕ) → Option Shape
shape_in types rows zero step i = None
shape_in types rows (suc most) step i =
    let stride = type_word types i 4 in
    pick (eqb (type_word types i 0) array_kind)
    (over (array_extents step (type_inner types i) stride) (shape_in types rows most (Some stride) (type_word types i 1)))
    (base_shape step i (row_word rows i 0) (type_inner types i))

-- type i by itself; none where dimensions do not keep the steps
abbrev pub shape_of : (types rows : List ℕ) (i : ℕ) → Option Shape
shape_of types rows i = shape_in types rows most_depth None i

-- ---- no shape
-- what is said after the name of a struct that has no form for a host
abbrev pub no_form : List ℕ
no_form = ascii " has no form here: it is not host-shareable, or its storage verdict is not ok."
