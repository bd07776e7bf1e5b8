-- 01, 'The result row': the row of one type (`validate_type` of naga's valid/type.rs). c is the capability word, `inner` what each record
-- of the arena says, `rows` the rows of the types before type i, `sizes` and `flags` theirs. Flags, or the refusal, on one side, which read
-- sizes and flags alone; verdicts on the other.
-- Assumes nothing.
use Rattle.std.specs.Prelude.{List, ℕ, ◌*◌, ltb}
use Rattle.ir_records.specs.Result.{Result, ok, require, and_then}
use Rattle.ir_records.specs.Record.{value_pointer_kind, sampler_kind}
use Rattle.ir_records.specs.declared.Leaf.{Leaf}
use Rattle.ir_records.specs.declared.Leaf.TheVariants.{Scalar, Vector, Matrix, CooperativeMatrix, Atomic, RayQuery}
use Rattle.ir_records.specs.declared.NonData.{NonData}
use Rattle.ir_records.specs.declared.NonData.TheVariants.{Pointer, ValuePointer, Image, Sampler, AccelerationStructure, BindingArray}
use Rattle.ir_records.specs.declared.TypeInner.{TypeInner}
use Rattle.ir_records.specs.declared.TypeInner.TheVariants.{Plain, Array, RuntimeArray, Struct, Other}
use Rattle.proc_alignment.specs.Alignment.{vector_alignment}
use Rattle.proc_type_alignment.specs.declared.TypeLayout.{TypeLayout}
use Rattle.valid_flags.specs.Flags.{bit, starting_flags, pointer_flags, array_flags, runtime_array_flags, is_sized_data}
use Rattle.valid_width.specs.Width.{dual_source_blending, check_width, immediates_word}
use Rattle.valid_type_flags.specs.TypeFlags.{with_width, leaf_flags, image_flags, pointer_to, acceleration_flags, binding_array_of}
use Rattle.valid_type_info.specs.declared.Verdict.{Verdict}
use Rattle.valid_type_info.specs.declared.Row.{Row}
use Rattle.valid_type_info.specs.Verdict.{min_storage, ok_verdict, array_verdict, span_verdict}
use Rattle.valid_type_info.specs.TypeInfo.{row_sizes, row_flags, no_verdict}
use Rattle.valid_blend.specs.Blend.{blended_after, struct_blend}
use Rattle.valid_member_rules.specs.MemberRules.{uniform_after, storage_after, immediates_after}

-- ---- flags of what is no data
unfoldable pub non_data_flags : (c : ℕ) (inner : ℕ → TypeInner) (flags : ℕ → ℕ) → NonData → Result ℕ
non_data_flags c inner flags (Pointer base space) = pointer_to (flags base) space
non_data_flags c inner flags (ValuePointer kind width space) = with_width (check_width c kind width) (pointer_flags space (starting_flags value_pointer_kind))
non_data_flags c inner flags (Image dim arrayed class) = image_flags c dim arrayed class
non_data_flags c inner flags Sampler = ok (starting_flags sampler_kind)
non_data_flags c inner flags (AccelerationStructure vertexReturn) = acceleration_flags c vertexReturn
non_data_flags c inner flags (BindingArray base form count) = binding_array_of (inner base) (flags base) form

-- ---- the flags of type i, or its refusal
unfoldable pub flags_of : (c : ℕ) (inner : ℕ → TypeInner) (sizes flags : ℕ → ℕ) → TypeInner → (members : List ℕ) → Result ℕ
flags_of c inner sizes flags (Plain leaf) members = leaf_flags c leaf
flags_of c inner sizes flags (Array base count stride) members = require (is_sized_data (flags base)) 15 0 0 (ok (array_flags (flags base)))
flags_of c inner sizes flags (RuntimeArray base stride) members =
    require (is_sized_data (flags base)) 15 0 0 (ok (runtime_array_flags (flags base)))
flags_of c inner sizes flags (Struct count span) members =
    require (ltb 0 count) 16 0 0
    (and_then (blended_after (bit c dual_source_blending) inner sizes flags count span members count) (λ b. struct_blend inner flags members count b.flags))
flags_of c inner sizes flags (Other o) members = non_data_flags c inner flags o

-- ---- verdicts
-- the alignment in both verdicts of a leaf; a cooperative matrix has that of its width
abbrev pub leaf_verdict_alignment : Leaf → ℕ
leaf_verdict_alignment (Scalar kind width) = width
leaf_verdict_alignment (Vector size kind width) = vector_alignment size * width
leaf_verdict_alignment (Matrix columns rows kind width) = vector_alignment rows * width
leaf_verdict_alignment (CooperativeMatrix columns rows kind width role) = width
leaf_verdict_alignment (Atomic kind width) = width
leaf_verdict_alignment (RayQuery vertexReturn) = 1

abbrev pub leaf_immediates : Leaf → ℕ
leaf_immediates (Scalar kind width) = immediates_word kind width
leaf_immediates (Vector size kind width) = immediates_word kind width
leaf_immediates (Matrix columns rows kind width) = immediates_word kind width
leaf_immediates (CooperativeMatrix columns rows kind width role) = 0
leaf_immediates (Atomic kind width) = 0
leaf_immediates (RayQuery vertexReturn) = 0

-- alignment: the layout alignment of type i
unfoldable pub uniform_of : (least : ℕ) (inner : ℕ → TypeInner) (rows : ℕ → Row) (i alignment : ℕ) → TypeInner → (members : List ℕ) → Verdict
uniform_of least inner rows i alignment (Plain leaf) members = ok_verdict (leaf_verdict_alignment leaf)
uniform_of least inner rows i alignment (Array base count stride) members =
    array_verdict least i stride (rows base).alignment (rows base).uniform
uniform_of least inner rows i alignment (RuntimeArray base stride) members =
    array_verdict least i stride (rows base).alignment (rows base).uniform
uniform_of least inner rows i alignment (Struct count span) members =
    span_verdict i span alignment (uniform_after least inner rows i members count)
uniform_of least inner rows i alignment (Other o) members = ok_verdict 1

unfoldable pub storage_of : (rows : ℕ → Row) (i alignment : ℕ) → TypeInner → (members : List ℕ) → Verdict
storage_of rows i alignment (Plain leaf) members = ok_verdict (leaf_verdict_alignment leaf)
storage_of rows i alignment (Array base count stride) members =
    array_verdict min_storage i stride (rows base).alignment (rows base).storage
storage_of rows i alignment (RuntimeArray base stride) members =
    array_verdict min_storage i stride (rows base).alignment (rows base).storage
storage_of rows i alignment (Struct count span) members = span_verdict i span alignment (storage_after rows i members count)
storage_of rows i alignment (Other o) members = ok_verdict 1

unfoldable pub immediates_of : (rows : ℕ → Row) → TypeInner → (members : List ℕ) → ℕ
immediates_of rows (Plain leaf) members = leaf_immediates leaf
immediates_of rows (Array base count stride) members = (rows base).immediates
immediates_of rows (RuntimeArray base stride) members = (rows base).immediates
immediates_of rows (Struct count span) members = immediates_after rows members count
immediates_of rows (Other o) members = 0

-- ---- the row
-- of an accepted type with this uniform verdict and these flags
abbrev pub row_with : (uniform : Verdict) (rows : ℕ → Row) (i : ℕ) → TypeLayout → TypeInner → (members : List ℕ) → (flags : ℕ) → Row
row_with uniform rows i layout this members flags =
    record {
      size = layout.size;
      alignment = layout.alignment;
      flags = flags;
      uniform = uniform;
      storage = storage_of rows i layout.alignment this members;
      immediates = immediates_of rows this members;
    }

-- by the minimum alignment of uniform verdicts
unfoldable pub row_of : (least : ℕ) (inner : ℕ → TypeInner) (rows : ℕ → Row) (i : ℕ) → TypeLayout → TypeInner → (members : List ℕ) → (flags : ℕ) → Row
row_of least inner rows i layout this members flags =
    row_with (uniform_of least inner rows i layout.alignment this members) rows i layout this members flags

unfoldable pub judge : (least c : ℕ) (inner : ℕ → TypeInner) (rows : ℕ → Row) (i : ℕ) → TypeLayout → TypeInner → (members : List ℕ) → Result Row
judge least c inner rows i layout this members =
    and_then (flags_of c inner (row_sizes rows) (row_flags rows) this members) (λ flags. ok (row_of least inner rows i layout this members flags))

-- what rows by either uniform rule have in common: the same without a uniform verdict. `rows` are such rows
unfoldable pub judge_common : (c : ℕ) (inner : ℕ → TypeInner) (rows : ℕ → Row) (i : ℕ) → TypeLayout → TypeInner → (members : List ℕ) → Result Row
judge_common c inner rows i layout this members =
    and_then (flags_of c inner (row_sizes rows) (row_flags rows) this members) (λ flags. ok (row_with no_verdict rows i layout this members flags))
