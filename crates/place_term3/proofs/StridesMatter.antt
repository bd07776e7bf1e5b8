-- Why term 3 asks for the strides: without that condition its first part is false. An array of two vec3 of f32 with stride 4 is accepted
-- and host-shareable, and its leaves overlap.
-- Assumes nothing.
use mathlib.Core.Path.{◌≡◌, refl}
use mathlib.Core.Logic.{◌≢◌}
use mathlib.Core.List.{List, [], ◌∷◌}
use Prim.Native.Nat.{ℕ, ◌+◌, ◌≤◌, ◌<◌}
use native.Mathlib.Omega.{arith}
use lib.ListN.{get_elem?}
use Rattle.ir_records.specs.Record.{inner_of, type_inner, struct_members}
use Rattle.ir_records.specs.Fields.{tables_fit, fields_ok, record_at, located_to}
use Rattle.ir_records.specs.Table.{result_at, value_at}
use Rattle.ir_records.specs.Outcome.{Accepted}
use Rattle.proc_type_methods.specs.TypeMethods.{try_size}
use Rattle.proc_type_alignment.specs.TypeAlignment.{members_alignment, alignment_of}
use Rattle.proc_type_layout.specs.TypeLayout.{layout_of}
use Rattle.proc_layouter.specs.Layouter.{layout_outcome}
use Rattle.valid_width.specs.Width.{integer_width, float_width, check_width}
use Rattle.valid_type_flags.specs.TypeFlags.{leaf_flags}
use Rattle.valid_type_info.specs.declared.UniformRule.{UniformRule}
use Rattle.valid_type_info.specs.declared.UniformRule.TheVariants.{Older}
use Rattle.valid_type_info.specs.Verdict.{array_verdict, share_verdict, member_verdict, distance_verdict, distance_ok, unsized_verdict, span_verdict}
use Rattle.valid_type_info.specs.Verdict.{previous_of}
use Rattle.valid_member_bounds.specs.MemberBounds.{member_bounds}
use Rattle.valid_blend.specs.Blend.{source_at, source_result, blended_after, other_location, struct_blend}
use Rattle.valid_member_rules.specs.MemberRules.{uniform_after, storage_after, immediates_after}
use Rattle.valid_types.specs.ValidateType.{flags_of, uniform_of, storage_of, immediates_of, row_of, judge, judge_common}
use Rattle.valid_arena.specs.Arena.{judge_outcome, arena_outcome, arena}
use Rattle.place_descent.specs.Place.{At}
use Rattle.place_steps.specs.Steps.{step_of}
use Rattle.place_descent.specs.Place.{place_of}
use Rattle.place_term3.specs.Term3.{row_in, LeafAt, Has, HostShareableData, Spares, leaf_measure}

abbrev types : List ℕ
types = 1 ∷ 3 ∷ 2 ∷ 4 ∷ 0 ∷ 0 ∷ 7 ∷ 0 ∷ 0 ∷ 2 ∷ 4 ∷ 0 ∷ []

accepted : arena 0 types [] ≡ Accepted
unfolding arena arena_outcome layout_outcome judge_outcome tables_fit record_at located_to fields_ok type_inner inner_of struct_members result_at value_at try_size members_alignment alignment_of layout_of integer_width float_width check_width array_verdict share_verdict member_verdict distance_verdict distance_ok unsized_verdict span_verdict previous_of member_bounds blended_after source_result source_at other_location struct_blend uniform_after storage_after immediates_after leaf_flags flags_of uniform_of storage_of immediates_of row_of judge judge_common
accepted = refl

size : (row_in Older 0 types [] 0).size ≡ 12
unfolding type_inner inner_of struct_members result_at value_at try_size members_alignment alignment_of layout_of integer_width float_width check_width array_verdict share_verdict member_verdict distance_verdict distance_ok unsized_verdict span_verdict previous_of member_bounds blended_after source_result source_at other_location struct_blend uniform_after storage_after immediates_after leaf_flags flags_of uniform_of storage_of immediates_of row_of judge
size = refl

flags : (row_in Older 0 types [] 1).flags ≡ 247
unfolding type_inner inner_of struct_members result_at value_at try_size members_alignment alignment_of layout_of integer_width float_width check_width array_verdict share_verdict member_verdict distance_verdict distance_ok unsized_verdict span_verdict previous_of member_bounds blended_after source_result source_at other_location struct_blend uniform_after storage_after immediates_after leaf_flags flags_of uniform_of storage_of immediates_of row_of judge
flags = refl

shareable : HostShareableData Older 0 types [] 1
shareable = record { accepted = accepted; within = omega arith; is_data = rw flags tt; host_shareable = rw flags tt }

first : place_of types [] 1 (0 ∷ []) ≡ At 0 0
unfolding place_of step_of type_inner inner_of struct_members
first = refl

second : place_of types [] 1 (1 ∷ []) ≡ At 4 0
unfolding place_of step_of type_inner inner_of struct_members
second = refl

different : ◌≢◌ {A = List ℕ} (0 ∷ []) (1 ∷ [])
different e = let z : ◌≡◌ {A = ℕ} 0 1 = cc in omega arith

Others : Type 0
Others = (rule : UniformRule) (c : ℕ) (ts ms : List ℕ) (t : ℕ) → HostShareableData rule c ts ms t
    → (one other : LeafAt (place_of ts ms t)) → one.steps ≢ other.steps
    → (k : ℕ) → Has (leaf_measure rule c ts ms) other k → Spares (leaf_measure rule c ts ms) one k

false_without : Others → ⊥
unfolding Others type_inner inner_of
false_without f =
    let one : LeafAt (place_of types [] 1) = record { steps = 0 ∷ []; byte = 0; ty = 0; place = first } in
    let other : LeafAt (place_of types [] 1) = record { steps = 1 ∷ []; byte = 4; ty = 0; place = second } in
    let h = f Older 0 types [] 1 shareable one other different 4 (omega arith, rw size (omega arith)) (7 ∷ 7 ∷ 7 ∷ 7 ∷ 7 ∷ []) (8 ∷ 8 ∷ 8 ∷ 8 ∷ 8 ∷ []) in
    let g = rw size at h in
    let z : ◌≡◌ {A = ℕ} 8 7 = cc in omega arith
