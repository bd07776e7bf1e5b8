-- The numbers of the kinds of types and of scalars, as records have them. They serve contracts: no definition of the papers reads them.
-- Assumes nothing.
use Rattle.std.specs.Prelude.{◌≡◌, ◌<◌, ℕ, Result, MatchResult}
use Rattle.ir_records.specs.declared.Kind.{Kind}
use Rattle.ir_records.specs.declared.Kind.TheVariants as kind
use Rattle.ir_records.specs.declared.ScalarKind.{ScalarKind}
use Rattle.ir_records.specs.declared.ScalarKind.TheVariants as scalar
use Rattle.ir_records.specs.declared.Fault.TheVariants.{FieldOutside}
use Rattle.ir_records.specs.declared.TypeRefusal.{TypeRefusal}
use Rattle.ir_records.specs.Record.{scalar_kind, vector_kind, matrix_kind, cooperative_matrix_kind, atomic_kind, pointer_kind, value_pointer_kind, array_kind, struct_kind, image_kind, sampler_kind, acceleration_structure_kind, ray_query_kind, binding_array_kind}
use Rattle.ir_records.specs.Refusal.{type_refusal}

-- the number in a record that stands for a kind of type
abbrev pub kind_number : Kind → ℕ
kind_number kind.Scalar = scalar_kind
kind_number kind.Vector = vector_kind
kind_number kind.Matrix = matrix_kind
kind_number kind.CooperativeMatrix = cooperative_matrix_kind
kind_number kind.Atomic = atomic_kind
kind_number kind.Pointer = pointer_kind
kind_number kind.ValuePointer = value_pointer_kind
kind_number kind.Array = array_kind
kind_number kind.Struct = struct_kind
kind_number kind.Image = image_kind
kind_number kind.Sampler = sampler_kind
kind_number kind.AccelerationStructure = acceleration_structure_kind
kind_number kind.RayQuery = ray_query_kind
kind_number kind.BindingArray = binding_array_kind

-- the kind with this number, or number 2 for a number above all kinds
abbrev pub NamesKind : ℕ → Result Kind TypeRefusal → Type 0
NamesKind number named = MatchResult named (λ k. kind_number k ≡ number) (λ r. (r ≡ type_refusal FieldOutside 0 0) × (binding_array_kind < number))

-- the number of a scalar kind
abbrev pub scalar_number : ScalarKind → ℕ
scalar_number scalar.Sint = 0
scalar_number scalar.Uint = 1
scalar_number scalar.Float = 2
scalar_number scalar.Bool = 3
scalar_number scalar.AbstractInt = 4
scalar_number scalar.AbstractFloat = 5

-- the scalar kind with this number, or number 2 for a number above all of them
abbrev pub NamesScalarKind : ℕ → Result ScalarKind TypeRefusal → Type 0
NamesScalarKind number named = MatchResult named (λ k. scalar_number k ≡ number) (λ r. (r ≡ type_refusal FieldOutside 0 0) × (5 < number))
