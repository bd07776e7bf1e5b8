-- Instances of the last two parts of term 3: an arena with half floats stays accepted when a capability is added, and what its types have stays
-- when types and member records are appended.
-- Assumes nothing.
use mathlib.Core.Path.{◌≡◌, refl, sym, ◌∙◌}
use mathlib.Core.List.{List, [], ◌∷◌, ◌++◌}
use Prim.Native.Nat.{ℕ}
use native.Mathlib.Omega.{arith}
use Rattle.ir_records.specs.Record.{inner_of, type_inner, struct_members}
use Rattle.ir_records.specs.Fields.{tables_fit, fields_ok, record_at, located_to}
use Rattle.ir_records.specs.Table.{result_at, value_at}
use Rattle.ir_records.specs.Outcome.{Accepted, Refused}
use Rattle.proc_type_methods.specs.TypeMethods.{try_size}
use Rattle.proc_type_alignment.specs.TypeAlignment.{members_alignment, alignment_of}
use Rattle.proc_type_layout.specs.TypeLayout.{layout_of}
use Rattle.proc_layouter.specs.Layouter.{layout_outcome}
use Rattle.valid_width.specs.Width.{integer_width, float_width, check_width}
use Rattle.valid_type_flags.specs.TypeFlags.{leaf_flags}
use Rattle.valid_type_info.specs.declared.UniformRule.TheVariants.{Older, Newer}
use Rattle.valid_type_info.specs.Verdict.{array_verdict, share_verdict, member_verdict, distance_verdict, distance_ok, unsized_verdict, span_verdict}
use Rattle.valid_type_info.specs.Verdict.{previous_of}
use Rattle.valid_member_bounds.specs.MemberBounds.{member_bounds}
use Rattle.valid_blend.specs.Blend.{source_at, source_result, blended_after, other_location, struct_blend}
use Rattle.valid_member_rules.specs.MemberRules.{uniform_after, storage_after, immediates_after}
use Rattle.valid_types.specs.ValidateType.{flags_of, uniform_of, storage_of, immediates_of, row_of, judge, judge_common}
use Rattle.valid_arena.specs.Arena.{judge_outcome, arena_outcome, arena}
use Rattle.valid_flags.proofs.BitLaws.{bit_or_left}
use Rattle.place_steps.specs.Steps.{step_of}
use Rattle.place_descent.specs.Place.{At}
use Rattle.place_descent.specs.Place.{place_of}
use Rattle.place_term3.specs.Term3.{row_in, Adds}
use Rattle.place_term3.proofs.Term3Proof.{term3}

-- ---- the arena: 0 is f16, 1 is struct { f16 at 0, f16 at 2 }; it asks for SHADER_FLOAT16, bit 1
abbrev types : List ℕ
types = 0 ∷ 2 ∷ 2 ∷ 0 ∷ 0 ∷ 0 ∷ 8 ∷ 0 ∷ 2 ∷ 4 ∷ 0 ∷ 0 ∷ []

abbrev members : List ℕ
members = 0 ∷ 0 ∷ 0 ∷ 0 ∷ 0 ∷ 2 ∷ 0 ∷ 0 ∷ []

-- unfolding this name unfolds all that the check computes with
unfoldable check : (c : ℕ) (ts ms : List ℕ) → Type 0
unfolding arena arena_outcome layout_outcome judge_outcome tables_fit record_at located_to fields_ok type_inner inner_of struct_members result_at value_at try_size members_alignment alignment_of layout_of integer_width float_width check_width array_verdict share_verdict member_verdict distance_verdict distance_ok unsized_verdict span_verdict previous_of member_bounds blended_after source_result source_at other_location struct_blend uniform_after storage_after immediates_after leaf_flags flags_of uniform_of storage_of immediates_of row_of judge judge_common
check c ts ms = arena c ts ms ≡ Accepted

without : arena 0 types members ≡ Refused 8 0 0 1
unfolding check
without = refl

accepted : arena 2 types members ≡ Accepted
unfolding check
accepted = refl

-- ---- FLOAT64, bit 0, is added
adds : Adds 2 3
adds b = bit_or_left 2 1 b

still_accepted : arena 3 types members ≡ Accepted
still_accepted = term3.accepted 2 3 adds tt types members accepted

-- ---- and an f64 and a struct { f64 at 0, 1 at 8 } are appended, with two member records
abbrev more_types : List ℕ
more_types = 0 ∷ 2 ∷ 8 ∷ 0 ∷ 0 ∷ 0 ∷ 8 ∷ 2 ∷ 2 ∷ 16 ∷ 0 ∷ 0 ∷ []

abbrev more_members : List ℕ
more_members = 2 ∷ 0 ∷ 0 ∷ 0 ∷ 1 ∷ 8 ∷ 0 ∷ 0 ∷ []

longer_accepted : arena 3 (types ++ more_types) (members ++ more_members) ≡ Accepted
unfolding check
longer_accepted = refl

-- size, flags, storage verdict and places of the struct stay, and so they do where the rule is another one afterwards
kept_size : (row_in Older 2 types members 1).size ≡ (row_in Newer 3 (types ++ more_types) (members ++ more_members) 1).size
kept_size = (term3.kept Older Newer 2 3 adds types members more_types more_members accepted longer_accepted 1 (omega arith)).0

kept_place : place_of (types ++ more_types) (members ++ more_members) 1 (1 ∷ []) ≡ At 2 0
unfolding place_of step_of type_inner inner_of struct_members
kept_place = sym ((term3.kept Older Newer 2 3 adds types members more_types more_members accepted longer_accepted 1 (omega arith)).3 (1 ∷ [])) ∙ refl
