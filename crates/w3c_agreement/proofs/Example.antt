-- Tables whose records are WGSL types, so that the theorem of Agreement has what it asks for; lines of the standard's table; where arena and standard differ.
-- Assumes nothing.
use mathlib.Core.Path.{◌≡◌, refl, ◌∙◌}
use mathlib.Core.Option.{none, some}
use mathlib.Core.List.{List, [], ◌∷◌}
use Prim.Native.Nat.{ℕ, suc, ◌*◌, ◌+◌}
use native.Mathlib.Omega.{arith}
use Rattle.ir_records.specs.Record.{decoded, inner_of, type_inner, struct_members, member_type, member_offset}
use Rattle.ir_records.specs.Fields.{fields_ok, record_at, located_to}
use Rattle.ir_records.specs.Table.{result_at, value_at}
use Rattle.ir_records.specs.Outcome.{Accepted}
use Rattle.proc_alignment.specs.Alignment.{round_up}
use Rattle.proc_type_methods.specs.TypeMethods.{try_size}
use Rattle.proc_type_alignment.specs.TypeAlignment.{members_alignment, alignment_of}
use Rattle.proc_type_layout.specs.TypeLayout.{layout_of}
use Rattle.proc_layouter.specs.Layouter.{layout, layout_outcome}
use Rattle.w3c_agreement.specs.Plain.{u32, Float, f32, f16, float, bool, Dimension, two, three, four, scalar, vector, matrix, atomic, number}
use Rattle.w3c_agreement.specs.Wgsl.{WgslType, plain, array, runtime_array, struct, Members, last, member, last_member, max_over, offset_by, align_of, size_of, align_of_member, size_of_member, offset_of_member, HostShareable, Unaligned}
use Rattle.w3c_agreement.specs.Placed as placed
use Rattle.w3c_agreement.specs.Placement.{place_at, IsType}
use Rattle.w3c_agreement.proofs.Agreement.{tables_agreement}
use Rattle.w3c_agreement.proofs.ExampleParts.{measure, below_three}

-- ---- struct { a: vec3<f32>, b: f32, c: array<mat3x3<f32>, 2> }, and an array of three of them
abbrev body_members : Members
body_members = member (plain (vector three (float f32))) none none (member (plain (scalar (float f32))) none none (last (array (plain (matrix three three f32)) 2) none none))

abbrev body : WgslType
body = struct body_members

-- its records: f32, vec3<f32>, mat3x3<f32>, array<mat3x3<f32>, 2>, the struct, the array of structs
abbrev body_types : List ℕ
body_types =
    0 ∷ 2 ∷ 4 ∷ 0 ∷ 0 ∷ 0
    ∷ 1 ∷ 3 ∷ 2 ∷ 4 ∷ 0 ∷ 0
    ∷ 2 ∷ 3 ∷ 3 ∷ 2 ∷ 4 ∷ 0
    ∷ 7 ∷ 2 ∷ 0 ∷ 2 ∷ 48 ∷ 0
    ∷ 8 ∷ 0 ∷ 3 ∷ 112 ∷ 0 ∷ 0
    ∷ 7 ∷ 4 ∷ 0 ∷ 3 ∷ 112 ∷ 0 ∷ []

abbrev body_rows : List ℕ
body_rows = 1 ∷ 0 ∷ 0 ∷ 0 ∷ 0 ∷ 12 ∷ 0 ∷ 0 ∷ 3 ∷ 16 ∷ 0 ∷ 0 ∷ []

-- the standard's offsets, sizes and alignments
body_offsets : (offset_of_member body_members 0 ≡ 0) × (offset_of_member body_members 1 ≡ 12) × (offset_of_member body_members 2 ≡ 16)
unfolding offset_by align_of size_of
body_offsets = (refl, refl, refl)

body_layout : (size_of body ≡ 112) × (align_of body ≡ 16) × (size_of (array body 3) ≡ 336) × (align_of (array body 3) ≡ 16)
unfolding offset_by align_of size_of last_member max_over
body_layout = (refl, refl, refl, refl)

-- record 4 is the struct, record 5 the array of structs
body_is : IsType body (decoded body_types body_rows) 4
unfolding measure
body_is = (
  refl,
  below_three (λ i. member_offset body_rows i ≡ placed.offset_of_member (place_at body_members (offset_of_member body_members)) i) refl refl refl,
  below_three (λ i. placed.IsMember (place_at body_members (offset_of_member body_members)) (decoded body_types body_rows) i (member_type body_rows i)) refl refl (2, refl, refl),
)

bodies_are : IsType (array body 3) (decoded body_types body_rows) 5
unfolding measure
bodies_are = (4, refl, body_is)

body_shareable : HostShareable (array body 3)
unfolding HostShareable
body_shareable = (tt, (tt, tt))

body_unaligned : Unaligned (array body 3)
unfolding Unaligned
body_unaligned = (tt, tt, (tt, tt, (tt, tt)))

body_accepted : layout_outcome body_types body_rows ≡ Accepted
unfolding layout_outcome record_at located_to fields_ok type_inner inner_of struct_members result_at layout_of try_size alignment_of members_alignment
body_accepted = refl

-- so the layouter has 336 and 16 for the array of structs
bodies_laid_out : ((layout (decoded body_types body_rows) 5).size ≡ 336) × ((layout (decoded body_types body_rows) 5).alignment ≡ 16)
bodies_laid_out =
    let a = tables_agreement body_types body_rows body_accepted (array body 3) body_shareable 5 (omega arith) bodies_are in
    (a.0 ∙ body_layout.2, a.2 body_unaligned ∙ body_layout.3)

-- ---- struct { @size(6) a: f16, b: atomic<u32>, c: array<vec3<f16>> }
abbrev queue_members : Members
queue_members = member (plain (scalar (float f16))) none (some 6) (member (plain (atomic u32)) none none (last (runtime_array (plain (vector three (float f16)))) none none))

abbrev queue : WgslType
queue = struct queue_members

-- its records: f16, atomic<u32>, vec3<f16>, array<vec3<f16>>, the struct
abbrev queue_types : List ℕ
queue_types =
    0 ∷ 2 ∷ 2 ∷ 0 ∷ 0 ∷ 0
    ∷ 4 ∷ 1 ∷ 4 ∷ 0 ∷ 0 ∷ 0
    ∷ 1 ∷ 3 ∷ 2 ∷ 2 ∷ 0 ∷ 0
    ∷ 7 ∷ 2 ∷ 1 ∷ 0 ∷ 8 ∷ 0
    ∷ 8 ∷ 0 ∷ 3 ∷ 24 ∷ 0 ∷ 0 ∷ []

abbrev queue_rows : List ℕ
queue_rows = 0 ∷ 0 ∷ 0 ∷ 0 ∷ 1 ∷ 8 ∷ 0 ∷ 0 ∷ 3 ∷ 16 ∷ 0 ∷ 0 ∷ []

queue_layout : (size_of queue ≡ 24) × (align_of queue ≡ 8)
unfolding offset_by align_of size_of last_member max_over
queue_layout = (refl, refl)

queue_is : IsType queue (decoded queue_types queue_rows) 4
unfolding measure
queue_is = (
  refl,
  below_three (λ i. member_offset queue_rows i ≡ placed.offset_of_member (place_at queue_members (offset_of_member queue_members)) i) refl refl refl,
  below_three (λ i. placed.IsMember (place_at queue_members (offset_of_member queue_members)) (decoded queue_types queue_rows) i (member_type queue_rows i)) refl refl (2, refl, refl),
)

queue_shareable : HostShareable queue
unfolding HostShareable
queue_shareable = (tt, (tt, tt))

queue_unaligned : Unaligned (queue)
unfolding Unaligned
queue_unaligned = (tt, tt, (tt, tt, (tt, tt)))

queue_accepted : layout_outcome queue_types queue_rows ≡ Accepted
unfolding layout_outcome record_at located_to fields_ok type_inner inner_of struct_members result_at layout_of try_size alignment_of members_alignment
queue_accepted = refl

queue_laid_out : ((layout (decoded queue_types queue_rows) 4).size ≡ 24) × ((layout (decoded queue_types queue_rows) 4).alignment ≡ 8)
queue_laid_out =
    let a = tables_agreement queue_types queue_rows queue_accepted queue queue_shareable 4 (omega arith) queue_is in
    (a.0 ∙ queue_layout.0, a.2 queue_unaligned ∙ queue_layout.1)

-- ---- lines of the standard's table
-- a matrix is measured as an array of its columns
matrix_as_array : (columns rows : Dimension) (f : Float) → size_of (plain (matrix columns rows f)) ≡ size_of (array (plain (vector rows (float f))) (number columns))
unfolding size_of align_of
matrix_as_array columns rows f = refl

-- AlignOf and SizeOf of the matrices of f32
measures : WgslType → ℕ → ℕ → Type 0
measures type align size = (align_of type ≡ align) × (size_of type ≡ size)

matrices : measures (plain (matrix two two f32)) 8 16 × measures (plain (matrix three two f32)) 8 24 × measures (plain (matrix four two f32)) 8 32
    × measures (plain (matrix two three f32)) 16 32 × measures (plain (matrix three three f32)) 16 48 × measures (plain (matrix four three f32)) 16 64
    × measures (plain (matrix two four f32)) 16 32 × measures (plain (matrix three four f32)) 16 48 × measures (plain (matrix four four f32)) 16 64
unfolding measures align_of size_of
matrices = ((refl, refl), (refl, refl), (refl, refl), (refl, refl), (refl, refl), (refl, refl), (refl, refl), (refl, refl), (refl, refl))

-- those of f16 have half of each
half_matrices : (columns rows : Dimension)
    → (align_of (plain (matrix columns rows f32)) ≡ align_of (plain (matrix columns rows f16)) * 2) × (size_of (plain (matrix columns rows f32)) ≡ size_of (plain (matrix columns rows f16)) * 2)
unfolding align_of size_of
half_matrices two two = (refl, refl)
half_matrices two three = (refl, refl)
half_matrices two four = (refl, refl)
half_matrices three two = (refl, refl)
half_matrices three three = (refl, refl)
half_matrices three four = (refl, refl)
half_matrices four two = (refl, refl)
half_matrices four three = (refl, refl)
half_matrices four four = (refl, refl)

-- OffsetOfMember(S, i) = roundUp(AlignOfMember(S, i), OffsetOfMember(S, i-1) + SizeOfMember(S, i-1))
offset-next : (members : Members) (i : ℕ)
    → offset_of_member members (suc i) ≡ round_up (align_of_member members (suc i)) (offset_of_member members i + size_of_member members i)
unfolding offset_by
offset-next members i = refl

-- SizeOf(S) = roundUp(AlignOf(S), OffsetOfMember(S, N) + SizeOfMember(S, N))
struct_size : (members : Members)
    → size_of (struct members) ≡ round_up (align_of (struct members)) (offset_of_member members (last_member members) + size_of_member members (last_member members))
unfolding size_of
struct_size members = refl

-- ---- the listed difference: a bool measures 4 in the standard and 1 in the arena
bool_types : List ℕ
bool_types = 0 ∷ 3 ∷ 1 ∷ 0 ∷ 0 ∷ 0 ∷ []

bool_differs : IsType (plain (scalar bool)) (decoded bool_types []) 0 × (size_of (plain (scalar bool)) ≡ 4) × (layout_outcome bool_types [] ≡ Accepted)
    × ((layout (decoded bool_types []) 0).size ≡ 1)
unfolding bool_types measure type_inner inner_of struct_members size_of layout_outcome record_at located_to fields_ok result_at value_at layout_of try_size alignment_of
bool_differs = (refl, refl, refl, refl)

-- ---- records that are accepted and are no WGSL types of this tree
-- an array of one f32 with stride 0: it measures 0, and 4 in the standard
stride_types : List ℕ
stride_types = 0 ∷ 2 ∷ 4 ∷ 0 ∷ 0 ∷ 0 ∷ 7 ∷ 0 ∷ 0 ∷ 1 ∷ 0 ∷ 0 ∷ []

stride_differs : (layout_outcome stride_types [] ≡ Accepted) × ((layout (decoded stride_types []) 1).size ≡ 0) × (size_of (array (plain (scalar (float f32))) 1) ≡ 4)
unfolding stride_types type_inner inner_of struct_members size_of align_of layout_outcome record_at located_to fields_ok result_at value_at layout_of try_size alignment_of
stride_differs = (refl, refl, refl)

-- a struct of no member: its alignment is 1; the standard has no such struct
empty_types : List ℕ
empty_types = 8 ∷ 0 ∷ 0 ∷ 0 ∷ 0 ∷ 0 ∷ []

empty_struct : (layout_outcome empty_types [] ≡ Accepted) × ((layout (decoded empty_types []) 0).size ≡ 0) × ((layout (decoded empty_types []) 0).alignment ≡ 1)
unfolding empty_types type_inner inner_of struct_members layout_outcome record_at located_to fields_ok result_at value_at layout_of try_size alignment_of members_alignment
empty_struct = (refl, refl, refl)

-- struct { @align(16) a: f32 }, of span 16: its alignment is 4, and 16 in the standard
align_types : List ℕ
align_types = 0 ∷ 2 ∷ 4 ∷ 0 ∷ 0 ∷ 0 ∷ 8 ∷ 0 ∷ 1 ∷ 16 ∷ 0 ∷ 0 ∷ []

align_differs : (layout_outcome align_types (0 ∷ 0 ∷ 0 ∷ 0 ∷ []) ≡ Accepted) × ((layout (decoded align_types (0 ∷ 0 ∷ 0 ∷ 0 ∷ [])) 1).alignment ≡ 4)
unfolding align_types type_inner inner_of struct_members layout_outcome record_at located_to fields_ok result_at value_at layout_of try_size alignment_of members_alignment
align_differs = (refl, refl)
