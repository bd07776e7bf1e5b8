-- The hypotheses of term 3 can be met: a struct with an array of structs, a struct and a runtime array, and a struct with a matrix, their
-- places computed, by either uniform rule.
-- Assumes nothing.
use mathlib.Core.Path.{◌≡◌, refl}
use mathlib.Core.Logic.{◌≢◌}
use mathlib.Core.List.{List, [], ◌∷◌}
use Prim.Native.Nat.{ℕ, zero, suc, ◌+◌, ◌≤◌, ◌<◌, ◌∣◌}
use native.Mathlib.Nat.{le_refl}
use native.Mathlib.Omega.{arith}
use lib.ListN.{get_elem?}
use Rattle.ir_records.specs.Record.{decoded, inner_of, type_inner, struct_members}
use Rattle.ir_records.specs.Fields.{tables_fit, fields_ok, record_at, located_to}
use Rattle.ir_records.specs.Table.{result_at, value_at}
use Rattle.ir_records.specs.Outcome.{Accepted}
use Rattle.proc_type_methods.specs.TypeMethods.{try_size}
use Rattle.proc_type_alignment.specs.TypeAlignment.{members_alignment, alignment_of}
use Rattle.proc_type_layout.specs.TypeLayout.{layout_of}
use Rattle.proc_layouter.specs.Layouter.{layout_outcome}
use Rattle.valid_width.specs.Width.{integer_width, float_width, check_width}
use Rattle.valid_type_flags.specs.TypeFlags.{leaf_flags}
use Rattle.valid_type_info.specs.declared.UniformRule.{UniformRule}
use Rattle.valid_type_info.specs.Verdict.{alignment_in, array_verdict, share_verdict, member_verdict, distance_verdict, distance_ok, unsized_verdict, span_verdict}
use Rattle.valid_type_info.specs.Verdict.{previous_of}
use Rattle.valid_member_bounds.specs.MemberBounds.{member_bounds}
use Rattle.valid_blend.specs.Blend.{source_at, source_result, blended_after, other_location, struct_blend}
use Rattle.valid_member_rules.specs.MemberRules.{uniform_after, storage_after, immediates_after}
use Rattle.valid_types.specs.ValidateType.{flags_of, uniform_of, storage_of, immediates_of, row_of, judge, judge_common}
use Rattle.valid_arena.specs.Arena.{judge_outcome, arena_outcome, arena}
use Rattle.valid_arena.proofs.ArenaLaws.{accepted_types}
use Rattle.place_descent.specs.Place.{At, NoPlace}
use Rattle.place_steps.specs.Steps.{step_of}
use Rattle.place_descent.specs.Place.{place_of}
use Rattle.place_term3.specs.Term3.{row_in, LeafAt, InLeaf, HostShareableData, stride_covers, StridesCover, rewrite}
use Rattle.place_term3.proofs.ReachedLaws.{strides_cover}
use Rattle.place_term3.proofs.Term3Proof.{term3}

-- ---- the arena: 0 is f32, 1 is vec3<f32>, 2 is struct { vec3<f32> at 0, f32 at 12 }, 3 is array<2, 2>, 4 is array<f32>,
-- 5 is struct { 3 at 0, 2 at 32, 4 at 48 }, 6 is mat3x3<f32>, 7 is struct { f32 at 0, 6 at 16 }
abbrev pub types : List ℕ
types =
    0 ∷ 2 ∷ 4 ∷ 0 ∷ 0 ∷ 0
    ∷ 1 ∷ 3 ∷ 2 ∷ 4 ∷ 0 ∷ 0
    ∷ 8 ∷ 0 ∷ 2 ∷ 16 ∷ 0 ∷ 0
    ∷ 7 ∷ 2 ∷ 0 ∷ 2 ∷ 16 ∷ 0
    ∷ 7 ∷ 0 ∷ 1 ∷ 0 ∷ 4 ∷ 0
    ∷ 8 ∷ 2 ∷ 3 ∷ 64 ∷ 0 ∷ 0
    ∷ 2 ∷ 3 ∷ 3 ∷ 2 ∷ 4 ∷ 0
    ∷ 8 ∷ 5 ∷ 2 ∷ 64 ∷ 0 ∷ 0
    ∷ []

-- two rows of struct 2, three of struct 5, two of struct 7
abbrev pub members : List ℕ
members = 1 ∷ 0 ∷ 0 ∷ 0 ∷ 0 ∷ 12 ∷ 0 ∷ 0 ∷ 3 ∷ 0 ∷ 0 ∷ 0 ∷ 2 ∷ 32 ∷ 0 ∷ 0 ∷ 4 ∷ 48 ∷ 0 ∷ 0 ∷ 0 ∷ 0 ∷ 0 ∷ 0 ∷ 6 ∷ 16 ∷ 0 ∷ 0 ∷ []

-- it is accepted with no capability
pub accepted : arena 0 types members ≡ Accepted
unfolding arena arena_outcome layout_outcome judge_outcome tables_fit record_at located_to fields_ok type_inner inner_of struct_members result_at value_at try_size members_alignment alignment_of layout_of integer_width float_width check_width array_verdict share_verdict member_verdict distance_verdict distance_ok unsized_verdict span_verdict previous_of member_bounds blended_after source_result source_at other_location struct_blend uniform_after storage_after immediates_after leaf_flags flags_of uniform_of storage_of immediates_of row_of judge judge_common
accepted = refl

-- the sizes of types 0, 1, 2 and 5
pub sizes : (rule : UniformRule) → ((row_in rule 0 types members 0).size ≡ 4) × ((row_in rule 0 types members 1).size ≡ 12) × ((row_in rule 0 types members 2).size ≡ 16) × ((row_in rule 0 types members 5).size ≡ 64)
unfolding type_inner inner_of struct_members result_at value_at try_size members_alignment alignment_of layout_of integer_width float_width check_width array_verdict share_verdict member_verdict distance_verdict distance_ok unsized_verdict span_verdict previous_of member_bounds blended_after source_result source_at other_location struct_blend uniform_after storage_after immediates_after leaf_flags flags_of uniform_of storage_of immediates_of row_of judge
sizes rule = (refl, refl, refl, refl)

-- the flags of the struct: DATA, COPY, HOST_SHAREABLE and CREATION_RESOLVED
pub flags : (rule : UniformRule) → (row_in rule 0 types members 5).flags ≡ 149
unfolding type_inner inner_of struct_members result_at value_at try_size members_alignment alignment_of layout_of integer_width float_width check_width array_verdict share_verdict member_verdict distance_verdict distance_ok unsized_verdict span_verdict previous_of member_bounds blended_after source_result source_at other_location struct_blend uniform_after storage_after immediates_after leaf_flags flags_of uniform_of storage_of immediates_of row_of judge
flags rule = refl

pub flags_7 : (rule : UniformRule) → (row_in rule 0 types members 7).flags ≡ 247
unfolding type_inner inner_of struct_members result_at value_at try_size members_alignment alignment_of layout_of integer_width float_width check_width array_verdict share_verdict member_verdict distance_verdict distance_ok unsized_verdict span_verdict previous_of member_bounds blended_after source_result source_at other_location struct_blend uniform_after storage_after immediates_after leaf_flags flags_of uniform_of storage_of immediates_of row_of judge
flags_7 rule = refl

-- its storage verdict: Ok with alignment 16
pub storage : (rule : UniformRule) → ((row_in rule 0 types members 5).storage.code ≡ 0) × ((row_in rule 0 types members 5).storage.ty ≡ 16)
unfolding type_inner inner_of struct_members result_at value_at try_size members_alignment alignment_of layout_of integer_width float_width check_width array_verdict share_verdict member_verdict distance_verdict distance_ok unsized_verdict span_verdict previous_of member_bounds blended_after source_result source_at other_location struct_blend uniform_after storage_after immediates_after leaf_flags flags_of uniform_of storage_of immediates_of row_of judge
storage rule = (refl, refl)

-- the struct is a host-shareable data type of an accepted arena
pub shareable : (rule : UniformRule) → HostShareableData rule 0 types members 5
shareable rule =
    record {
      accepted = accepted;
      within = omega arith;
      is_data = rw (flags rule) tt;
      host_shareable = rw (flags rule) tt;
    }

pub shareable_7 : (rule : UniformRule) → HostShareableData rule 0 types members 7
shareable_7 rule =
    record {
      accepted = accepted;
      within = omega arith;
      is_data = rw (flags_7 rule) tt;
      host_shareable = rw (flags_7 rule) tt;
    }

-- each array of the arena has a stride of at least its element's size
each_covers : (rule : UniformRule) (a : ℕ) → a < 8 → stride_covers (row_in rule 0 types members) (decoded types members a).inner
unfolding type_inner inner_of
each_covers rule zero h = tt
each_covers rule (suc zero) h = tt
each_covers rule (suc (suc zero)) h = tt
each_covers rule (suc (suc (suc zero))) h = rw (sizes rule).2 (le_refl 16)
each_covers rule (suc (suc (suc (suc zero)))) h = rw (sizes rule).0 (le_refl 4)
each_covers rule (suc (suc (suc (suc (suc zero))))) h = tt
each_covers rule (suc (suc (suc (suc (suc (suc zero)))))) h = tt
each_covers rule (suc (suc (suc (suc (suc (suc (suc zero))))))) h = tt
each_covers rule (suc (suc (suc (suc (suc (suc (suc (suc a)))))))) h = absurd (omega arith)

-- so has each array that is reached from the structs
pub covers : (rule : UniformRule) → StridesCover (row_in rule 0 types members) (decoded types members) 5
covers rule = strides_cover rule 0 (decoded types members) 8 (accepted_types 0 types members accepted) (each_covers rule) 5 (omega arith)

pub covers_7 : (rule : UniformRule) → StridesCover (row_in rule 0 types members) (decoded types members) 7
covers_7 rule = strides_cover rule 0 (decoded types members) 8 (accepted_types 0 types members accepted) (each_covers rule) 7 (omega arith)

-- ---- places
-- the f32 of the second struct of the array; the vec3<f32> of the struct after it; the fourth element of the runtime array
pub in_array : place_of types members 5 (0 ∷ 1 ∷ 1 ∷ []) ≡ At 28 0
unfolding place_of step_of type_inner inner_of struct_members
in_array = refl

pub in_struct : place_of types members 5 (1 ∷ 0 ∷ []) ≡ At 32 1
unfolding place_of step_of type_inner inner_of struct_members
in_struct = refl

pub in_tail : place_of types members 5 (2 ∷ 3 ∷ []) ≡ At 60 0
unfolding place_of step_of type_inner inner_of struct_members
in_tail = refl

-- the second and the third column of the matrix
pub second_column : place_of types members 7 (1 ∷ 1 ∷ []) ≡ At 32 6
unfolding place_of step_of type_inner inner_of struct_members
second_column = refl

pub third_column : place_of types members 7 (1 ∷ 2 ∷ []) ≡ At 48 6
unfolding place_of step_of type_inner inner_of struct_members
third_column = refl

-- the same as leaves
abbrev the_f32 : LeafAt (place_of types members 5)
the_f32 = record { steps = 0 ∷ 1 ∷ 1 ∷ []; byte = 28; ty = 0; place = in_array }

abbrev the_vec3 : LeafAt (place_of types members 5)
the_vec3 = record { steps = 1 ∷ 0 ∷ []; byte = 32; ty = 1; place = in_struct }

abbrev the_second : LeafAt (place_of types members 7)
the_second = record { steps = 1 ∷ 1 ∷ []; byte = 32; ty = 6; place = second_column }

abbrev the_third : LeafAt (place_of types members 7)
the_third = record { steps = 1 ∷ 2 ∷ []; byte = 48; ty = 6; place = third_column }

-- the matrix without a column, a fourth column and a step after a column are no places
pub no_places : (place_of types members 7 (1 ∷ []) ≡ NoPlace) × (place_of types members 7 (1 ∷ 3 ∷ []) ≡ NoPlace) × (place_of types members 7 (1 ∷ 1 ∷ 0 ∷ []) ≡ NoPlace)
unfolding place_of step_of type_inner inner_of struct_members
no_places = (refl, refl, refl)

-- the steps of the first two differ, and those of the columns
pub different : ◌≢◌ {A = List ℕ} (0 ∷ 1 ∷ 1 ∷ []) (1 ∷ 0 ∷ [])
different e = let z : ◌≡◌ {A = ℕ} 0 1 = cc in omega arith

pub different_columns : ◌≢◌ {A = List ℕ} (1 ∷ 1 ∷ []) (1 ∷ 2 ∷ [])
different_columns e = let z : ◌≡◌ {A = ℕ} 1 2 = cc in omega arith

-- ---- what term 3 says of them
-- whatever is written to the f32, the twelve bytes of the vec3<f32> stay
pub stays : (rule : UniformRule) (buffer bytes : List ℕ) (k : ℕ) → 32 ≤ k → k < 44 → get_elem? (rewrite buffer 28 4 bytes) k ≡ get_elem? buffer k
unfolding type_inner inner_of
stays rule buffer bytes k low high =
    rw (sizes rule).0 at
    (term3.others rule 0 types members 5 (shareable rule) (covers rule) the_f32 the_vec3 different k (low, rw (sizes rule).1 high) buffer bytes)

-- the vec3<f32> lies within the struct's size, and at a multiple of its own storage alignment
pub inside : (rule : UniformRule) → 32 + (row_in rule 0 types members 1).size ≤ (row_in rule 0 types members 5).size
unfolding step_of type_inner inner_of struct_members
inside rule = term3.within rule 0 types members 5 (shareable rule) (covers rule) the_vec3 (tt, (tt, tt))

pub multiple : (rule : UniformRule) → alignment_in (row_in rule 0 types members 1).storage ∣ 32
multiple rule = (term3.aligned rule 0 types members 5 (shareable rule) (rw (storage rule).0 tt) the_vec3).1

-- a column has 12 bytes: whatever is written to those of the second, those of the third stay
pub column_stays : (rule : UniformRule) (buffer bytes : List ℕ) (k : ℕ) → 48 ≤ k → k < 60 → get_elem? (rewrite buffer 32 12 bytes) k ≡ get_elem? buffer k
unfolding type_inner inner_of
column_stays rule buffer bytes k low high =
    term3.others rule 0 types members 7 (shareable_7 rule) (covers_7 rule) the_second the_third different_columns k (low, high) buffer bytes

-- the four bytes between the two are in no leaf of the struct
pub gap : (rule : UniformRule) (k : ℕ) → 44 ≤ k → k < 48 → ¬ InLeaf rule 0 types members 7 k
unfolding type_inner inner_of
gap rule k low high =
    (term3.gaps rule 0 types members 7 k).1 (shareable_7 rule) (covers_7 rule)
    (record { leaf = the_second; columns = 3; rows = 3; kind = 2; width = 4; matrix = refl; past = low; below = high })

-- so they stay too
pub gap_stays : (rule : UniformRule) (buffer bytes : List ℕ) (k : ℕ) → 44 ≤ k → k < 48 → get_elem? (rewrite buffer 32 12 bytes) k ≡ get_elem? buffer k
unfolding type_inner inner_of
gap_stays rule buffer bytes k low high = (term3.gaps rule 0 types members 7 k).0 (gap rule k low high) the_second buffer bytes
