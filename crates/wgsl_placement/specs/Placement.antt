-- The placement of the W3C WGSL specification, in its words, as the reader of WGSL text works it out: AlignOf, SizeOf and StrideOf of types.
-- roundUp(k, n) = ⌈n ÷ k⌉ × k is the one of the alignment crate.
-- Assumes nothing.
use Rattle.std.specs.Prelude.{Bool, ◌&&◌, List, [], ◌∷◌, Option, Some, None, ℕ, ◌*◌, leb}
use Rattle.std.specs.Option.{is_some, unwrap_or}
use Rattle.ir_records.specs.declared.Words.{Words}
use Rattle.ir_records.specs.Record.{record_of, array_words}
use Rattle.proc_alignment.specs.Alignment.{vector_alignment, round_up, most}
use Rattle.wgsl_names.specs.Names.{kind_of, width_of, bytes_of, number_of}
use Rattle.wgsl_names.specs.declared.Scalar.{Scalar}
use Rattle.wgsl_names.specs.declared.Dimension.{Dimension}
use Rattle.wgsl_names.specs.declared.Template.{Template}
use Rattle.wgsl_names.specs.declared.Template.TheVariants.{Vector, Matrix, Atomic}
use Rattle.wgsl_placement.specs.declared.Shape.{Shape}

-- the record's number, SizeOf, AlignOf, and whether the footprint is creation-fixed
abbrev pub shape : (number size align : ℕ) → Bool → Shape
shape number size align fixed = record { number = number; size = size; align = align; fixed = fixed }

-- ---- vectors, matrices and atomics of a scalar
-- vec3 is aligned as vec4
abbrev pub align_of_vector : Dimension → Scalar → ℕ
align_of_vector n s = vector_alignment (number_of n) * bytes_of s

abbrev pub size_of_vector : Dimension → Scalar → ℕ
size_of_vector n s = number_of n * bytes_of s

abbrev pub align_of_template : Template → Scalar → ℕ
align_of_template (Vector n) s = align_of_vector n s
-- AlignOf(vecR)
align_of_template (Matrix columns rows) s = align_of_vector rows s
align_of_template Atomic s = bytes_of s

abbrev pub size_of_template : Template → Scalar → ℕ
size_of_template (Vector n) s = size_of_vector n s
-- SizeOf(array<vecR, C>)
size_of_template (Matrix columns rows) s = number_of columns * round_up (align_of_vector rows s) (size_of_vector rows s)
size_of_template Atomic s = bytes_of s

-- ---- arrays
-- StrideOf(array<E, N>) = roundUp(AlignOf(E), SizeOf(E))
abbrev pub stride_of : Shape → ℕ
stride_of e = round_up e.align e.size

-- N; none of a runtime-sized array
abbrev pub Count : Type 0
Count = Option ℕ

-- such an array measures one element
abbrev pub elements : Count → ℕ
elements n = unwrap_or n 1

abbrev pub is_counted : Count → Bool
is_counted n = is_some n

-- number 33
abbrev pub array_fits : Count → Shape → Bool
array_fits n e = leb (stride_of e) most && leb (elements n * stride_of e) most

-- AlignOf(E), and N × StrideOf(array<E, N>)
abbrev pub array_shape : (number : ℕ) → Count → Shape → Shape
array_shape number n e = shape number (elements n * stride_of e) e.align (is_counted n && e.fixed)

-- ---- type records: the kind and the five words after it
abbrev pub words_of : Words → List ℕ
words_of w = w.kind ∷ w.a ∷ w.b ∷ w.c ∷ w.d ∷ w.e ∷ []

abbrev pub scalar_record : Scalar → Words
scalar_record s = record_of 0 (kind_of s) (width_of s) 0 0

abbrev pub template_record : Template → Scalar → Words
template_record (Vector n) s = record_of 1 (number_of n) (kind_of s) (width_of s) 0
template_record (Matrix columns rows) s = record_of 2 (number_of columns) (number_of rows) (kind_of s) (width_of s)
template_record Atomic s = record_of 4 (kind_of s) (width_of s) 0 0

abbrev pub array_record : Count → Shape → Words
array_record n e = array_words n e.number (stride_of e)

abbrev pub struct_record : (first count span : ℕ) → Words
struct_record first count span = record_of 8 first count span 0
