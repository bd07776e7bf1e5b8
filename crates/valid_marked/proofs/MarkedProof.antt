-- The marked examples hold: one computed test over the whole table, and one law that turns it into what each row says.
-- Assumes nothing.
use mathlib.Core.Path.{◌≡◌, refl}
use mathlib.Core.Bool.{Bool, true, false, ◌&&◌}
use mathlib.Core.List.{List, [], ◌∷◌}
use Prim.Native.Nat.{ℕ}
use lib.Dec.{T, eqb, eqb→eq}
use Rattle.ir_records.specs.Record.{inner_of, type_inner, struct_members}
use Rattle.ir_records.specs.Fields.{tables_fit, fields_ok, record_at, located_to}
use Rattle.ir_records.specs.Table.{result_at, value_at}
use Rattle.ir_records.specs.Outcome.{Outcome}
use Rattle.ir_records.specs.Outcome.{Accepted, Refused}
use Rattle.ir_records.proofs.ResultLaws.{and_left, and_right}
use Rattle.proc_type_methods.specs.TypeMethods.{try_size}
use Rattle.proc_type_alignment.specs.TypeAlignment.{members_alignment, alignment_of}
use Rattle.proc_type_layout.specs.TypeLayout.{layout_of}
use Rattle.proc_layouter.specs.Layouter.{layout_outcome}
use Rattle.valid_width.specs.Width.{integer_width, float_width, check_width}
use Rattle.valid_type_flags.specs.TypeFlags.{leaf_flags}
use Rattle.valid_type_info.specs.TypeInfo.{words_of}
use Rattle.valid_type_info.specs.Verdict.{array_verdict, share_verdict, member_verdict, distance_verdict, distance_ok, unsized_verdict, span_verdict}
use Rattle.valid_type_info.specs.Verdict.{previous_of}
use Rattle.valid_member_bounds.specs.MemberBounds.{member_bounds}
use Rattle.valid_blend.specs.Blend.{source_at, source_result, blended_after, other_location, same_type, struct_blend}
use Rattle.valid_member_rules.specs.MemberRules.{uniform_after, storage_after, immediates_after}
use Rattle.valid_types.specs.ValidateType.{non_data_flags, flags_of, uniform_of, storage_of, immediates_of, row_of, judge, judge_common}
use Rattle.valid_arena.specs.Arena.{judge_outcome, arena_outcome, arena_answer, arena_rows, arena_words}
use Rattle.immediates_ranges.specs.Answer.{SlotsAnswer}
use Rattle.immediates_ranges.specs.Answer as slots
use Rattle.immediates_ranges.specs.Answer.{Slots}
use Rattle.immediates_ranges.specs.Slots.{covers, covers_all, mask_of, range_slots, part_answer}
use Rattle.immediates_walk.specs.Walk.{members_slots, slots_of}
use Rattle.immediates_slots.specs.Immediates.{slots_answer}
use Rattle.valid_marked.specs.Marked.{Words, Example, lent, made, left, AllLeft, Holds, Case, arena_case, slots_case, range_case, CaseHolds, AllHold, marked, blends, newer}

-- ---- the test
same_list : List ℕ → List ℕ → Bool
same_list [] [] = true
same_list [] (y ∷ ys) = false
same_list (x ∷ xs) [] = false
same_list (x ∷ xs) (y ∷ ys) = eqb x y && same_list xs ys

same_outcome : Outcome → Outcome → Bool
same_outcome Accepted Accepted = true
same_outcome Accepted (Refused n t m d) = false
same_outcome (Refused n t m d) Accepted = false
same_outcome (Refused n t m d) (Refused n' t' m' d') = eqb n n' && eqb t t' && eqb m m' && eqb d d'

all_left : Example → List Words → Bool
all_left x [] = true
all_left x (w ∷ ws) = same_list (left x w) w.words && all_left x ws

holds : Example → Bool
holds x = same_outcome (made x) x.answer && all_left x x.rows

same_slots : SlotsAnswer → SlotsAnswer → Bool
same_slots (Slots a p) (Slots b q) = eqb a b && eqb p q
same_slots (Slots a p) (slots.Refused n t m d) = false
same_slots (slots.Refused n t m d) (Slots b q) = false
same_slots (slots.Refused n t m d) (slots.Refused n' t' m' d') = eqb n n' && eqb t t' && eqb m m' && eqb d d'

case_holds : Case → Bool
case_holds (arena_case x) = holds x
case_holds (slots_case x ty offset expected) = same_slots (slots_answer x.capabilities x.types x.members (lent x) ty offset) expected
case_holds (range_case offset size expected) = same_slots (part_answer (range_slots offset size)) expected

every : List Case → Bool
every [] = true
every (x ∷ xs) = case_holds x && every xs

-- ---- the law
list_same : (xs ys : List ℕ) → T (same_list xs ys) → xs ≡ ys
unfolding same_list
list_same [] [] t = refl
list_same [] (y ∷ ys) t = absurd t
list_same (x ∷ xs) [] t = absurd t
list_same (x ∷ xs) (y ∷ ys) t = rw (eqb→eq x y (and_left (eqb x y) (same_list xs ys) t), list_same xs ys (and_right (eqb x y) (same_list xs ys) t)) refl

-- four numbers that pass the test are the same
four_same : (n u m d n' u' m' d' : ℕ) → T (eqb n n' && eqb u u' && eqb m m' && eqb d d') → (n ≡ n') × (u ≡ u') × (m ≡ m') × (d ≡ d')
four_same n u m d n' u' m' d' t =
    let t3 = and_left (eqb n n' && eqb u u' && eqb m m') (eqb d d') t in
    let t2 = and_left (eqb n n' && eqb u u') (eqb m m') t3 in (
      eqb→eq n n' (and_left (eqb n n') (eqb u u') t2),
      eqb→eq u u' (and_right (eqb n n') (eqb u u') t2),
      eqb→eq m m' (and_right (eqb n n' && eqb u u') (eqb m m') t3),
      eqb→eq d d' (and_right (eqb n n' && eqb u u' && eqb m m') (eqb d d') t),
    )

outcome_same : (a b : Outcome) → T (same_outcome a b) → a ≡ b
unfolding same_outcome
outcome_same Accepted Accepted t = refl
outcome_same Accepted (Refused n u m d) t = absurd t
outcome_same (Refused n u m d) Accepted t = absurd t
outcome_same (Refused n u m d) (Refused n' u' m' d') t =
    let e = four_same n u m d n' u' m' d' t in rw (e.0, e.1, e.2, e.3) refl

slots_same : (a b : SlotsAnswer) → T (same_slots a b) → a ≡ b
unfolding same_slots
slots_same (Slots a p) (Slots b q) t = rw (eqb→eq a b (and_left (eqb a b) (eqb p q) t), eqb→eq p q (and_right (eqb a b) (eqb p q) t)) refl
slots_same (Slots a p) (slots.Refused n u m d) t = absurd t
slots_same (slots.Refused n u m d) (Slots b q) t = absurd t
slots_same (slots.Refused n u m d) (slots.Refused n' u' m' d') t =
    let e = four_same n u m d n' u' m' d' t in rw (e.0, e.1, e.2, e.3) refl

all-left : (x : Example) (ws : List Words) → T (all_left x ws) → AllLeft x ws
unfolding all_left
all-left x [] t = tt
all-left x (w ∷ ws) t = (
  list_same (left x w) w.words (and_left (same_list (left x w) w.words) (all_left x ws) t),
  all-left x ws (and_right (same_list (left x w) w.words) (all_left x ws) t),
)

example_holds : (x : Example) → T (holds x) → Holds x
unfolding holds
example_holds x t = (
  outcome_same (made x) x.answer (and_left (same_outcome (made x) x.answer) (all_left x x.rows) t),
  all-left x x.rows (and_right (same_outcome (made x) x.answer) (all_left x x.rows) t),
)

case-holds : (x : Case) → T (case_holds x) → CaseHolds x
unfolding case_holds
case-holds (arena_case x) t = example_holds x t
case-holds (slots_case x ty offset expected) t = slots_same (slots_answer x.capabilities x.types x.members (lent x) ty offset) expected t
case-holds (range_case offset size expected) t = slots_same (part_answer (range_slots offset size)) expected t

all_hold : (xs : List Case) → T (every xs) → AllHold xs
unfolding every AllHold
all_hold [] t = tt
all_hold (x ∷ xs) t = (case-holds x (and_left (case_holds x) (every xs) t), all_hold xs (and_right (case_holds x) (every xs) t))

-- the computed test over M1 to M12 and what is told of the newer uniform rule
test : T (every marked) × T (every newer)
unfolding every case_holds holds all_left same_outcome same_slots same_list marked newer arena_answer arena_words arena_outcome judge_outcome arena_rows layout_outcome tables_fit record_at located_to fields_ok result_at value_at type_inner inner_of struct_members layout_of try_size alignment_of members_alignment judge judge_common flags_of row_of leaf_flags non_data_flags uniform_of storage_of immediates_of check_width integer_width float_width blended_after source_result source_at other_location struct_blend member_bounds previous_of uniform_after storage_after immediates_after array_verdict share_verdict member_verdict distance_verdict distance_ok unsized_verdict span_verdict words_of slots_answer slots_of members_slots range_slots covers covers_all mask_of
test = (tt, tt)

-- M1 to M12 hold
pub marked_hold : AllHold marked
marked_hold = all_hold marked test.0

-- 02, E8
pub newer_hold : AllHold newer
newer_hold = all_hold newer test.1

-- 02, E9
blend_test : T (every blends)
unfolding every case_holds holds all_left same_outcome same_slots same_list blends same_type arena_answer arena_words arena_outcome judge_outcome arena_rows layout_outcome tables_fit record_at located_to fields_ok result_at value_at type_inner inner_of struct_members layout_of try_size alignment_of members_alignment judge judge_common flags_of row_of leaf_flags non_data_flags uniform_of storage_of immediates_of check_width integer_width float_width blended_after source_result source_at other_location struct_blend member_bounds previous_of uniform_after storage_after immediates_after array_verdict share_verdict member_verdict distance_verdict distance_ok unsized_verdict span_verdict words_of slots_answer slots_of members_slots range_slots covers mask_of
blend_test = tt

pub blends_hold : AllHold blends
blends_hold = all_hold blends blend_test
