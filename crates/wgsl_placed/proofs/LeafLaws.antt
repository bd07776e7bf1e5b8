-- Plain types and arrays of a text, as the standard has them.
-- Assumes nothing.
use mathlib.Core.Path.{◌≡◌, refl}
use mathlib.Core.Bool.{true}
use mathlib.Core.Option.{Option, none, some}
use Prim.Native.Nat.{ℕ, ◌*◌}
use Rattle.ir_records.specs.Record.{inner_of, inner_in, Decoded}
use Rattle.ir_records.specs.declared.TypeInner.TheVariants.{Plain as PlainRecord}
use Rattle.w3c_agreement.specs.Plain as plain
use Rattle.w3c_agreement.specs.Plain.{leaf_of, by_scalar, size_of_plain, align_of_plain}
use Rattle.w3c_agreement.specs.Wgsl as wgsl
use Rattle.w3c_agreement.specs.Wgsl.{WgslType}
use Rattle.w3c_agreement.specs.Placed.{IsPlaced}
use Rattle.w3c_agreement.specs.Placement.{placement}
use Rattle.wgsl_names.specs.Names.{kind_of, width_of, bytes_of, number_of}
use Rattle.wgsl_names.specs.declared.Scalar.{Scalar}
use Rattle.wgsl_names.specs.declared.Scalar.TheVariants.{Bool as BoolScalar, I32, U32, F32, F16}
use Rattle.wgsl_names.specs.declared.Dimension.{Dimension}
use Rattle.wgsl_names.specs.declared.Dimension.TheVariants.{Two, Three, Four}
use Rattle.wgsl_names.specs.declared.Template.{Template}
use Rattle.wgsl_names.specs.declared.Template.TheVariants.{Vector, Matrix, Atomic}
use Rattle.wgsl_placement.specs.Placement.{shape, align_of_vector, size_of_vector, align_of_template, size_of_template, array_shape, scalar_record, template_record, array_record}
use Rattle.wgsl_placement.specs.declared.Shape.{Shape}
use Rattle.std.specs.Prelude.{Some, None}
use Rattle.wgsl_placement.specs.Placement.{Count}
use Rattle.wgsl_growth.specs.Tree.{scalar_tree, dimension_tree, template_tree, array_tree}
use Rattle.wgsl_placed.specs.Denoted.{Measured, MeasuredTree}

-- ---- scalars and dimensions of the text in the standard's
same_number : (n : Dimension) → plain.number (dimension_tree n) ≡ number_of n
same_number Two = refl
same_number Three = refl
same_number Four = refl

same_kind : (s : Scalar) → plain.kind_of (scalar_tree s) ≡ kind_of s
same_kind BoolScalar = refl
same_kind I32 = refl
same_kind U32 = refl
same_kind F32 = refl
same_kind F16 = refl

same_width : (s : Scalar) → plain.width_of (scalar_tree s) ≡ width_of s
same_width BoolScalar = refl
same_width I32 = refl
same_width U32 = refl
same_width F32 = refl
same_width F16 = refl

-- k times a scalar's bytes, by the standard's table
by_bytes : (s : Scalar) (k : ℕ) → by_scalar (scalar_tree s) (k * 4) (k * 2) ≡ k * bytes_of s
by_bytes BoolScalar k = refl
by_bytes I32 k = refl
by_bytes U32 k = refl
by_bytes F32 k = refl
by_bytes F16 k = refl

vector_size : (n : Dimension) (s : Scalar) → plain.size_of_vector (dimension_tree n) (scalar_tree s) ≡ size_of_vector n s
vector_size Two s = by_bytes s 2
vector_size Three s = by_bytes s 3
vector_size Four s = by_bytes s 4

vector_align : (n : Dimension) (s : Scalar) → plain.align_of_vector (dimension_tree n) (scalar_tree s) ≡ align_of_vector n s
vector_align Two s = by_bytes s 2
vector_align Three s = by_bytes s 4
vector_align Four s = by_bytes s 4

-- ---- plain types
plain_measured : (p : plain.Plain) (types : ℕ → Decoded) (e : Shape) → (types e.number).inner ≡ PlainRecord (leaf_of p) → size_of_plain p ≡ e.size → align_of_plain p ≡ e.align
    → Measured types e (wgsl.plain p)
unfolding IsPlaced placement wgsl.size_of wgsl.align_of wgsl.WellFormed
plain_measured p types e inner size align = record { is = inner; formed = tt; size = size; align = align; fixed = λ t. tt }

module _ (types : ℕ → Decoded) (number : ℕ) where
  pub scalar_measured : (s : Scalar) → (types number).inner ≡ inner_in (scalar_record s)
      → Measured types (shape number (bytes_of s) (bytes_of s) true) (wgsl.plain (plain.scalar (scalar_tree s)))
  unfolding inner_of
  scalar_measured BoolScalar i = plain_measured (plain.scalar plain.bool) types (shape number 4 4 true) i refl refl
  scalar_measured I32 i = plain_measured (plain.scalar (plain.integer plain.i32)) types (shape number 4 4 true) i refl refl
  scalar_measured U32 i = plain_measured (plain.scalar (plain.integer plain.u32)) types (shape number 4 4 true) i refl refl
  scalar_measured F32 i = plain_measured (plain.scalar (plain.float plain.f32)) types (shape number 4 4 true) i refl refl
  scalar_measured F16 i = plain_measured (plain.scalar (plain.float plain.f16)) types (shape number 2 2 true) i refl refl

  vector_measured : (n : Dimension) (s : Scalar) → (types number).inner ≡ inner_in (template_record (Vector n) s)
      → Measured types (shape number (size_of_vector n s) (align_of_vector n s) true) (wgsl.plain (plain.vector (dimension_tree n) (scalar_tree s)))
  unfolding inner_of
  vector_measured n s inner =
      plain_measured (plain.vector (dimension_tree n) (scalar_tree s)) types (shape number (size_of_vector n s) (align_of_vector n s) true)
      (rw (same_number n, same_kind s, same_width s) inner) (vector_size n s) (vector_align n s)

  -- matrices and atomics of a scalar that WGSL has there
  matrix_measured : (columns rows : Dimension) (s : Scalar) → (types number).inner ≡ inner_in (template_record (Matrix columns rows) s)
      → MeasuredTree types (shape number (size_of_template (Matrix columns rows) s) (align_of_template (Matrix columns rows) s) true) (template_tree (Matrix columns rows) s)
  unfolding inner_of
  matrix_measured columns rows BoolScalar inner = tt
  matrix_measured columns rows I32 inner = tt
  matrix_measured columns rows U32 inner = tt
  matrix_measured columns rows F32 inner =
      plain_measured (plain.matrix (dimension_tree columns) (dimension_tree rows) plain.f32) types
      (shape number (size_of_template (Matrix columns rows) F32) (align_of_template (Matrix columns rows) F32) true) (rw (same_number columns, same_number rows) inner)
      (rw (same_number columns, vector_align rows F32, vector_size rows F32)) (vector_align rows F32)
  matrix_measured columns rows F16 inner =
      plain_measured (plain.matrix (dimension_tree columns) (dimension_tree rows) plain.f16) types
      (shape number (size_of_template (Matrix columns rows) F16) (align_of_template (Matrix columns rows) F16) true) (rw (same_number columns, same_number rows) inner)
      (rw (same_number columns, vector_align rows F16, vector_size rows F16)) (vector_align rows F16)

  atomic_measured : (s : Scalar) → (types number).inner ≡ inner_in (template_record Atomic s)
      → MeasuredTree types (shape number (bytes_of s) (bytes_of s) true) (template_tree Atomic s)
  unfolding inner_of
  atomic_measured BoolScalar inner = tt
  atomic_measured I32 inner = plain_measured (plain.atomic plain.i32) types (shape number 4 4 true) inner refl refl
  atomic_measured U32 inner = plain_measured (plain.atomic plain.u32) types (shape number 4 4 true) inner refl refl
  atomic_measured F32 inner = tt
  atomic_measured F16 inner = tt

  pub template_measured : (x : Template) (s : Scalar) → (types number).inner ≡ inner_in (template_record x s)
      → MeasuredTree types (shape number (size_of_template x s) (align_of_template x s) true) (template_tree x s)
  template_measured (Vector n) s inner = vector_measured n s inner
  template_measured (Matrix columns rows) s inner = matrix_measured columns rows s inner
  template_measured Atomic s inner = atomic_measured s inner

  -- ---- arrays
  pub array_measured : (c : Count) (e : Shape) (x : Option WgslType) → (types number).inner ≡ inner_in (array_record c e) → MeasuredTree types e x
      → MeasuredTree types (array_shape number c e) (array_tree c x)
  unfolding inner_of IsPlaced placement wgsl.size_of wgsl.align_of wgsl.WellFormed
  array_measured (Some n) e none inner m = tt
  array_measured (Some n) e (some type) inner m =
      record { is = (e.number, rw (m.align, m.size) inner, m.is); formed = m.formed; size = rw (m.align, m.size); align = m.align; fixed = λ t. tt }
  array_measured None e none inner m = tt
  array_measured None e (some type) inner m =
      record { is = (e.number, rw (m.align, m.size) inner, m.is); formed = m.formed; size = rw (m.align, m.size); align = m.align; fixed = λ t. absurd t }
