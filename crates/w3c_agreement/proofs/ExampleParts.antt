-- What the examples compute with: names whose unfolding unfolds all that a computed example needs, and statements about few numbers.
-- Assumes nothing.
use mathlib.Core.List.{List}
use Prim.Native.Nat.{ℕ, zero, suc, ◌<◌}
use native.Mathlib.Omega.{arith}
use Rattle.ir_records.specs.Record.{inner_of, type_inner, struct_members}
use Rattle.ir_records.specs.Fields.{tables_fit, fields_ok, record_at, located_to}
use Rattle.ir_records.specs.Table.{result_at, value_at}
use Rattle.ir_records.specs.Outcome.{Outcome}
use Rattle.proc_type_methods.specs.TypeMethods.{try_size}
use Rattle.proc_type_alignment.specs.TypeAlignment.{members_alignment, alignment_of}
use Rattle.proc_type_layout.specs.TypeLayout.{layout_of}
use Rattle.proc_layouter.specs.Layouter.{layout_outcome}
use Rattle.valid_width.specs.Width.{integer_width, float_width, check_width}
use Rattle.valid_type_flags.specs.TypeFlags.{leaf_flags}
use Rattle.valid_type_info.specs.Verdict.{array_verdict, share_verdict, member_verdict, distance_verdict, distance_ok, unsized_verdict, span_verdict}
use Rattle.valid_type_info.specs.Verdict.{previous_of}
use Rattle.valid_member_bounds.specs.MemberBounds.{member_bounds}
use Rattle.valid_blend.specs.Blend.{source_at, source_result, blended_after, other_location, struct_blend}
use Rattle.valid_member_rules.specs.MemberRules.{uniform_after, storage_after, immediates_after}
use Rattle.valid_types.specs.ValidateType.{flags_of, uniform_of, storage_of, immediates_of, row_of, judge, judge_common}
use Rattle.valid_arena.specs.Arena.{judge_outcome, arena_outcome, arena}
use Rattle.w3c_agreement.specs.Wgsl.{WgslType, last_member, type_of_member, max_over, offset_by, align_of, size_of}
use Rattle.w3c_agreement.specs.Placed as placed
use Rattle.w3c_agreement.specs.Placed.{Placed, IsPlaced}
use Rattle.w3c_agreement.specs.Placement.{placement}

-- unfolding this name unfolds all that an arena check computes with
unfoldable pub check : ℕ → List ℕ → List ℕ → Outcome
unfolding arena tables_fit arena_outcome layout_outcome record_at located_to fields_ok type_inner inner_of struct_members result_at value_at layout_of try_size alignment_of members_alignment judge_outcome judge judge_common flags_of leaf_flags check_width integer_width float_width row_of uniform_of storage_of immediates_of blended_after source_result source_at other_location struct_blend member_bounds previous_of distance_ok uniform_after storage_after immediates_after array_verdict share_verdict member_verdict distance_verdict unsized_verdict span_verdict
check c ts ms = arena c ts ms

-- unfolding this name unfolds all that a placed type computes with
unfoldable pub fit : Placed → ℕ
unfolding IsPlaced type_inner inner_of struct_members placed.type_of_member placed.offset_of_member placed.last_member placed.align_of placed.required_align_of max_over placed.Constraints
fit type = placed.align_of type

-- and a type with its own placement
unfoldable pub measure : WgslType → Placed
unfolding IsPlaced type_inner inner_of struct_members placed.type_of_member placed.offset_of_member placed.last_member placed.align_of placed.required_align_of max_over placed.Constraints placement last_member type_of_member offset_by align_of size_of
measure type = placement type

-- a statement about the numbers below 1
pub below_one : (P : ℕ → Type 0) → P 0 → (i : ℕ) → i < 1 → P i
below_one P p zero h = p
below_one P p (suc i) h = absurd (omega arith)

-- below 2
pub below_two : (P : ℕ → Type 0) → P 0 → P 1 → (i : ℕ) → i < 2 → P i
below_two P p q zero h = p
below_two P p q (suc zero) h = q
below_two P p q (suc (suc i)) h = absurd (omega arith)

-- below 3
pub below_three : (P : ℕ → Type 0) → P 0 → P 1 → P 2 → (i : ℕ) → i < 3 → P i
below_three P p q r zero h = p
below_three P p q r (suc zero) h = q
below_three P p q r (suc (suc zero)) h = r
below_three P p q r (suc (suc (suc i))) h = absurd (omega arith)

-- a statement about the numbers below 5
pub below_five : (P : ℕ → Type 0) → P 0 → P 1 → P 2 → P 3 → P 4 → (i : ℕ) → i < 5 → P i
below_five P p q r s t zero h = p
below_five P p q r s t (suc zero) h = q
below_five P p q r s t (suc (suc zero)) h = r
below_five P p q r s t (suc (suc (suc zero))) h = s
below_five P p q r s t (suc (suc (suc (suc zero)))) h = t
below_five P p q r s t (suc (suc (suc (suc (suc i))))) h = absurd (omega arith)
