-- Plain WGSL types: scalars, vectors, matrices and atomics. AlignOf and SizeOf by the table of the W3C WGSL specification; and their records.
-- roundUp(k, n) = ⌈n ÷ k⌉ × k is the one of the alignment crate.
-- Assumes nothing.
use Rattle.std.specs.Prelude.{ℕ, ◌*◌}
use Rattle.ir_records.specs.declared.Leaf.{Leaf}
use Rattle.ir_records.specs.declared.Leaf.TheVariants.{Scalar as ScalarLeaf, Vector as VectorLeaf, Matrix as MatrixLeaf, Atomic as AtomicLeaf}
use Rattle.proc_alignment.specs.Alignment.{round_up}

-- ---- types
pub data Integer : Type 0 where
  i32 u32 : Integer

pub data Float : Type 0 where
  f32 f16 : Float

pub data Scalar : Type 0 where
  bool : Scalar
  integer : Integer → Scalar
  float : Float → Scalar

-- of a vector, and of a matrix's columns and rows
pub data Dimension : Type 0 where
  two three four : Dimension

pub data Plain : Type 0 where
  scalar : Scalar → Plain
  -- vec2, vec3 or vec4 of a scalar
  vector : Dimension → Scalar → Plain
  -- matCxR: C columns, R rows
  matrix : (columns rows : Dimension) → Float → Plain
  -- atomic<i32>, atomic<u32>
  atomic : Integer → Plain

-- ---- the table of AlignOf and SizeOf
abbrev pub number : Dimension → ℕ
number two = 2
number three = 3
number four = 4

-- a line 'of bool, i32, u32, f32' and its line 'of f16'
abbrev pub by_scalar : Scalar → (others half : ℕ) → ℕ
by_scalar bool others half = others
by_scalar (integer i) others half = others
by_scalar (float f32) others half = others
by_scalar (float f16) others half = half

-- bool, i32, u32, f32: 4 and 4. f16: 2 and 2
abbrev pub align_of_scalar : Scalar → ℕ
align_of_scalar s = by_scalar s 4 2

abbrev pub size_of_scalar : Scalar → ℕ
size_of_scalar s = by_scalar s 4 2

abbrev pub align_of_vector : Dimension → Scalar → ℕ
align_of_vector two s = by_scalar s 8 4
align_of_vector three s = by_scalar s 16 8
align_of_vector four s = by_scalar s 16 8

abbrev pub size_of_vector : Dimension → Scalar → ℕ
size_of_vector two s = by_scalar s 8 4
size_of_vector three s = by_scalar s 12 6
size_of_vector four s = by_scalar s 16 8

abbrev pub align_of_plain : Plain → ℕ
align_of_plain (scalar s) = align_of_scalar s
align_of_plain (vector n s) = align_of_vector n s
-- AlignOf(vecR)
align_of_plain (matrix columns rows f) = align_of_vector rows (float f)
align_of_plain (atomic i) = 4

abbrev pub size_of_plain : Plain → ℕ
size_of_plain (scalar s) = size_of_scalar s
size_of_plain (vector n s) = size_of_vector n s
-- SizeOf(array<vecR, C>)
size_of_plain (matrix columns rows f) = number columns * round_up (align_of_vector rows (float f)) (size_of_vector rows (float f))
size_of_plain (atomic i) = 4

-- ---- host-shareable: no bool
abbrev pub Numeric : Scalar → Type 0
Numeric bool = ⊥
Numeric (integer i) = Unit {0}
Numeric (float f) = Unit {0}

abbrev pub NumericPlain : Plain → Type 0
NumericPlain (scalar s) = Numeric s
NumericPlain (vector n s) = Numeric s
NumericPlain (matrix columns rows f) = Unit {0}
NumericPlain (atomic i) = Unit {0}

-- ---- records
-- a record's scalar kinds: 0 Sint, 1 Uint, 2 Float, 3 Bool
abbrev pub kind_of : Scalar → ℕ
kind_of (integer i32) = 0
kind_of (integer u32) = 1
kind_of (float f) = 2
kind_of bool = 3

-- a record's widths; the arena has a bool of one byte
abbrev pub width_of : Scalar → ℕ
width_of (integer i) = 4
width_of (float f32) = 4
width_of (float f16) = 2
width_of bool = 1

-- the record of a plain type
abbrev pub leaf_of : Plain → Leaf
leaf_of (scalar s) = ScalarLeaf (kind_of s) (width_of s)
leaf_of (vector n s) = VectorLeaf (number n) (kind_of s) (width_of s)
leaf_of (matrix columns rows f) = MatrixLeaf (number columns) (number rows) (kind_of (float f)) (width_of (float f))
leaf_of (atomic i) = AtomicLeaf (kind_of (integer i)) (width_of (integer i))
