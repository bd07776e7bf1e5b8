-- 01, 'The result row': the flags of one type, or its refusal (`validate_type` of naga's valid/type.rs), by its kind and its base's flags. c is
-- the capability word.
-- Assumes nothing.
use Rattle.std.specs.Prelude.{Bool, true, false, not, ◌&&◌, ◌||◌, ℕ, eqb}
use Rattle.ir_records.specs.Result.{Result, ok, require, and_then}
use Rattle.ir_records.specs.Record.{scalar_kind, vector_kind, matrix_kind, cooperative_matrix_kind, atomic_kind, pointer_kind, image_kind, acceleration_structure_kind, ray_query_kind}
use Rattle.ir_records.specs.declared.Leaf.{Leaf}
use Rattle.ir_records.specs.declared.Leaf.TheVariants.{Scalar, Vector, Matrix, CooperativeMatrix, Atomic, RayQuery}
use Rattle.ir_records.specs.declared.NonData.TheVariants.{Pointer, ValuePointer, Image, Sampler, AccelerationStructure, BindingArray}
use Rattle.ir_records.specs.declared.TypeInner.{TypeInner}
use Rattle.ir_records.specs.declared.TypeInner.TheVariants.{Plain, Array, RuntimeArray, Struct, Other}
use Rattle.valid_flags.specs.Flags.{bit, data_bit, sized_bit, creation_resolved_bit, starting_flags, scalar_flags, pointer_flags, binding_array_flags}
use Rattle.valid_width.specs.Width.{float, capability, check_width, atomic_width, cooperative_matrix, cube_array_textures, texture_external, ray_query, ray_tracing_pipeline, ray_hit_vertex_position}

-- ---- flags of a leaf, numbers 8 to 12
-- where the width is allowed
abbrev pub with_width : Result (Unit {0}) → (flags : ℕ) → Result ℕ
with_width width flags = and_then width (λ _. ok flags)

abbrev pub cooperative_flags : (c kind width : ℕ) → Result ℕ
cooperative_flags c kind width =
    capability c cooperative_matrix
    (require (eqb kind float && (eqb width 2 || eqb width 4)) 11 0 0 (ok (starting_flags cooperative_matrix_kind)))

-- vertex_return asks for a capability of its own
abbrev pub vertex_flags : (c vertexReturn flags : ℕ) → Result ℕ
vertex_flags c vertexReturn flags = require (eqb vertexReturn 0 || bit c ray_hit_vertex_position) 8 0 ray_hit_vertex_position (ok flags)

-- a matrix is of floats
abbrev pub matrix_flags : (c kind width : ℕ) → Result ℕ
matrix_flags c kind width = require (eqb kind float) 11 0 0 (with_width (check_width c kind width) (starting_flags matrix_kind))

abbrev pub ray_query_flags : (c vertexReturn : ℕ) → Result ℕ
ray_query_flags c vertexReturn = capability c ray_query (vertex_flags c vertexReturn (starting_flags ray_query_kind))

unfoldable pub leaf_flags : (c : ℕ) → Leaf → Result ℕ
leaf_flags c (Scalar kind width) = with_width (check_width c kind width) (scalar_flags kind (starting_flags scalar_kind))
leaf_flags c (Vector size kind width) = with_width (check_width c kind width) (scalar_flags kind (starting_flags vector_kind))
leaf_flags c (Matrix columns rows kind width) = matrix_flags c kind width
leaf_flags c (CooperativeMatrix columns rows kind width role) = cooperative_flags c kind width
leaf_flags c (Atomic kind width) = with_width (atomic_width c kind width) (starting_flags atomic_kind)
leaf_flags c (RayQuery vertexReturn) = ray_query_flags c vertexReturn

-- ---- flags of what is no data
-- dims 0 to 3 are D1, D2, D3 and Cube; class 2 is External. Number 22, and 8
abbrev pub is_flat : (dim arrayed : ℕ) → Bool
is_flat dim arrayed = not (eqb arrayed 1 && eqb dim 2)

abbrev pub cube_allowed : (c dim arrayed : ℕ) → Bool
cube_allowed c dim arrayed = not (eqb arrayed 1 && eqb dim 3) || bit c cube_array_textures

abbrev pub is_external_form : (dim arrayed class : ℕ) → Bool
is_external_form dim arrayed class = not (eqb class 2) || eqb dim 1 && eqb arrayed 0

abbrev pub external_allowed : (c class : ℕ) → Bool
external_allowed c class = not (eqb class 2) || bit c texture_external

abbrev pub image_flags : (c dim arrayed class : ℕ) → Result ℕ
image_flags c dim arrayed class =
    require (is_flat dim arrayed) 22 0 0
    (require (cube_allowed c dim arrayed) 8 0 cube_array_textures
    (require (is_external_form dim arrayed class) 22 0 0
    (require (external_allowed c class) 8 0 texture_external (ok (starting_flags image_kind)))))

abbrev pub is_struct : TypeInner → Bool
is_struct (Plain leaf) = false
is_struct (Array base count stride) = false
is_struct (RuntimeArray base stride) = false
is_struct (Struct count span) = true
is_struct (Other o) = false

abbrev pub is_external_image : TypeInner → Bool
is_external_image (Plain leaf) = false
is_external_image (Array base count stride) = false
is_external_image (RuntimeArray base stride) = false
is_external_image (Struct count span) = false
is_external_image (Other (Pointer base space)) = false
is_external_image (Other (ValuePointer kind width space)) = false
is_external_image (Other (Image dim arrayed class)) = eqb class 2
is_external_image (Other Sampler) = false
is_external_image (Other (AccelerationStructure vertexReturn)) = false
is_external_image (Other (BindingArray base form count)) = false

-- numbers 13 and 14, by the flags of the base; space 4 is Storage
abbrev pub pointer_to : (base space : ℕ) → Result ℕ
pointer_to base space =
    require (bit base data_bit) 13 0 0
    (require (bit base sized_bit || eqb space 4) 14 0 0 (ok (pointer_flags space (starting_flags pointer_kind))))

-- one of the two ray capabilities; the missing one that is reported is RAY_QUERY
abbrev pub acceleration_flags : (c vertexReturn : ℕ) → Result ℕ
acceleration_flags c vertexReturn =
    require (bit c ray_tracing_pipeline || bit c ray_query) 8 0 ray_query (vertex_flags c vertexReturn (starting_flags acceleration_structure_kind))

-- numbers 23, 24 and 17, by what the base is and its flags
abbrev pub is_binding_base : TypeInner → (base : ℕ) → Bool
is_binding_base inner base = not (bit base data_bit) || is_struct inner

abbrev pub binding_array_of : TypeInner → (base form : ℕ) → Result ℕ
binding_array_of inner base form =
    require (is_binding_base inner base) 23 0 0
    (require (not (is_external_image inner)) 24 0 0
    (require (bit base creation_resolved_bit) 17 0 0 (ok (binding_array_flags form base))))
