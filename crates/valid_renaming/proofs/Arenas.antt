-- One library under two numberings, computed with no theorem: its types reach a pointer, a binding array, a matrix and a runtime tail, and a
-- verdict names a type. The second arena has other types, another capability word, and member rows in another order.
-- Assumes nothing.
use mathlib.Core.Path.{◌≡◌, refl, sym, ◌∙◌, ap}
use mathlib.Core.Bool.{false, true≢false}
use mathlib.Core.List.{List, [], ◌∷◌}
use Prim.Native.Nat.{ℕ, zero, suc, ◌<◌}
use native.Mathlib.Omega.{arith}
use lib.ListN.{get_or}
use Rattle.ir_records.specs.Record.{Decoded, decoded, inner_of, type_inner, struct_members}
use Rattle.ir_records.specs.Fields.{tables_fit, fields_ok, located_to, record_at}
use Rattle.ir_records.specs.Table.{result_at, value_at}
use Rattle.ir_records.specs.Outcome.{Accepted}
use Rattle.ir_records.specs.declared.TypeInner.TheVariants.{Struct}
use Rattle.proc_type_methods.specs.TypeMethods.{try_size}
use Rattle.proc_type_alignment.specs.TypeAlignment.{members_alignment, alignment_of}
use Rattle.proc_type_layout.specs.TypeLayout.{layout_of}
use Rattle.proc_layouter.specs.Layouter.{layout_outcome}
use Rattle.valid_width.specs.Width.{integer_width, float_width, check_width}
use Rattle.valid_type_flags.specs.TypeFlags.{leaf_flags, is_struct}
use Rattle.valid_type_info.specs.TypeInfo.{words_of}
use Rattle.valid_type_info.specs.declared.UniformRule.TheVariants.{Older}
use Rattle.valid_type_info.specs.Verdict.{least_for, array_verdict, share_verdict, member_verdict, distance_verdict, distance_ok, unsized_verdict, span_verdict, previous_of}
use Rattle.valid_member_bounds.specs.MemberBounds.{member_bounds}
use Rattle.valid_blend.specs.Blend.{source_at, source_result, blended_after, struct_blend}
use Rattle.valid_member_rules.specs.MemberRules.{uniform_after, storage_after, immediates_after}
use Rattle.valid_types.specs.ValidateType.{non_data_flags, flags_of, uniform_of, storage_of, immediates_of, row_of, judge, judge_common}
use Rattle.valid_arena.specs.Arena.{row, judge_outcome, arena_outcome, arena}
use Rattle.valid_arena.proofs.ArenaLaws.{accepted_types}
use Rattle.immediates_ranges.specs.Slots.{Mask}
use Rattle.immediates_ranges.specs.Slots.{covers, covers_all, mask_of, range_slots}
use Rattle.immediates_walk.specs.Walk.{members_slots, slots_of, slots_at}
use Rattle.place_steps.specs.Steps.{step_of}
use Rattle.place_descent.specs.Place.{At}
use Rattle.place_descent.specs.Place.{place_of}
use Rattle.valid_renaming.specs.Renaming.{Reaches, renamed_inner, MemberAgrees, Agree, RecordsAgree, ReachedAgree, renamed_row}
use Rattle.valid_renaming.proofs.ReachLaws.{reaches_earlier}

-- ---- the first numbering: 0 is f32, 1 is mat3x3<f32>, 2 is array<f32, 3> with stride 4, 3 is struct { 1 at 0, 2 at 48 }, 4 is array<3>,
-- 5 is struct { f32 at 0, 4 at 16 }, 6 is a pointer to 5 in Storage, 7 is a binding array of two 6, 8 is a sampler
abbrev pub types : List ℕ
types =
    0 ∷ 2 ∷ 4 ∷ 0 ∷ 0 ∷ 0
    ∷ 2 ∷ 3 ∷ 3 ∷ 2 ∷ 4 ∷ 0
    ∷ 7 ∷ 0 ∷ 0 ∷ 3 ∷ 4 ∷ 0
    ∷ 8 ∷ 0 ∷ 2 ∷ 64 ∷ 0 ∷ 0
    ∷ 7 ∷ 3 ∷ 1 ∷ 0 ∷ 64 ∷ 0
    ∷ 8 ∷ 2 ∷ 2 ∷ 80 ∷ 0 ∷ 0
    ∷ 5 ∷ 5 ∷ 4 ∷ 0 ∷ 0 ∷ 0
    ∷ 13 ∷ 6 ∷ 0 ∷ 2 ∷ 0 ∷ 0
    ∷ 10 ∷ 0 ∷ 0 ∷ 0 ∷ 0 ∷ 0
    ∷ []

-- two rows of struct 3, with locations 0 and 1, and two of struct 5
abbrev pub members : List ℕ
members = 1 ∷ 0 ∷ 1 ∷ 0 ∷ 2 ∷ 48 ∷ 2 ∷ 0 ∷ 0 ∷ 0 ∷ 0 ∷ 0 ∷ 4 ∷ 16 ∷ 0 ∷ 0 ∷ []

-- ---- the second: the array stands before the matrix, an f64 and a vec2<f64> stand among them, and there is no sampler
abbrev pub types' : List ℕ
types' =
    0 ∷ 2 ∷ 8 ∷ 0 ∷ 0 ∷ 0
    ∷ 0 ∷ 2 ∷ 4 ∷ 0 ∷ 0 ∷ 0
    ∷ 1 ∷ 2 ∷ 2 ∷ 8 ∷ 0 ∷ 0
    ∷ 7 ∷ 1 ∷ 0 ∷ 3 ∷ 4 ∷ 0
    ∷ 2 ∷ 3 ∷ 3 ∷ 2 ∷ 4 ∷ 0
    ∷ 8 ∷ 3 ∷ 2 ∷ 64 ∷ 0 ∷ 0
    ∷ 7 ∷ 5 ∷ 1 ∷ 0 ∷ 64 ∷ 0
    ∷ 8 ∷ 0 ∷ 2 ∷ 80 ∷ 0 ∷ 0
    ∷ 5 ∷ 7 ∷ 4 ∷ 0 ∷ 0 ∷ 0
    ∷ 13 ∷ 8 ∷ 0 ∷ 2 ∷ 0 ∷ 0
    ∷ []

-- the rows of the struct with the runtime tail come first, then one of no struct
abbrev pub members' : List ℕ
members' = 1 ∷ 0 ∷ 0 ∷ 0 ∷ 6 ∷ 16 ∷ 0 ∷ 0 ∷ 0 ∷ 0 ∷ 0 ∷ 0 ∷ 4 ∷ 0 ∷ 1 ∷ 0 ∷ 3 ∷ 48 ∷ 2 ∷ 0 ∷ []

-- type k of the first is type f k of the second
abbrev pub f : ℕ → ℕ
f k = get_or (1 ∷ 4 ∷ 3 ∷ 5 ∷ 6 ∷ 7 ∷ 8 ∷ 9 ∷ []) k 0

-- unfolding this name unfolds all that the check, the walk and the place compute with
unfoldable computed : Type 0
unfolding arena arena_outcome layout_outcome judge_outcome tables_fit record_at fields_ok located_to type_inner inner_of struct_members result_at value_at try_size members_alignment alignment_of layout_of integer_width float_width check_width array_verdict share_verdict member_verdict distance_verdict distance_ok unsized_verdict span_verdict previous_of member_bounds source_result blended_after source_at struct_blend uniform_after storage_after immediates_after leaf_flags non_data_flags flags_of uniform_of storage_of immediates_of row_of judge judge_common words_of members_slots slots_of range_slots covers covers_all mask_of place_of step_of
computed = Unit {0}

-- both are accepted, the second with FLOAT64, bit 0
pub accepted : arena 0 types members ≡ Accepted
unfolding computed
accepted = refl

pub accepted' : arena 1 types' members' ≡ Accepted
unfolding computed
accepted' = refl

-- ---- rows: the uniform verdict of the struct with the runtime tail has code 1 and names the array, 2 here and 3 there
pub row_5 : words_of (row (least_for Older) 0 (decoded types members) 5) ≡ 80 ∷ 16 ∷ 149 ∷ 1 ∷ 2 ∷ 0 ∷ 4 ∷ 16 ∷ 0 ∷ 16 ∷ 0 ∷ 0 ∷ 0 ∷ 0 ∷ []
unfolding computed
row_5 = refl

pub row_7 : words_of (row (least_for Older) 1 (decoded types' members') 7) ≡ 80 ∷ 16 ∷ 149 ∷ 1 ∷ 3 ∷ 0 ∷ 4 ∷ 16 ∷ 0 ∷ 16 ∷ 0 ∷ 0 ∷ 0 ∷ 0 ∷ []
unfolding computed
row_7 = refl

-- the first row renamed is the second
pub row_renamed : words_of (renamed_row f (row (least_for Older) 0 (decoded types members) 5)) ≡ 80 ∷ 16 ∷ 149 ∷ 1 ∷ 3 ∷ 0 ∷ 4 ∷ 16 ∷ 0 ∷ 16 ∷ 0 ∷ 0 ∷ 0 ∷ 0 ∷ []
unfolding computed
row_renamed = refl

-- ---- slots: of the same struct from offset 2, 0 and 1 by the f32 and 4 to 20 by one element; of these 0, 1, 4 and 20 only in part
pub slots_5 : slots_at (decoded types members) 5 2 ≡ Mask 2097139 1048595
unfolding computed
slots_5 = refl

pub slots_7 : slots_at (decoded types' members') 7 2 ≡ Mask 2097139 1048595
unfolding computed
slots_7 = refl

-- ---- places: column 1 of the matrix in element 2 of the runtime tail; the leaf's type is the matrix, 1 here and 4 there
pub place_5 : place_of types members 5 (1 ∷ 2 ∷ 0 ∷ 1 ∷ []) ≡ At 160 1
unfolding computed
place_5 = refl

pub place_7 : place_of types' members' 7 (1 ∷ 2 ∷ 0 ∷ 1 ∷ []) ≡ At 160 4
unfolding computed
place_7 = refl

-- ---- the records agree
module _ (g : ℕ → ℕ) (one other : ℕ → Decoded) (k : ℕ) where
  -- of a record that is no struct nothing more is asked
  no_struct : is_struct (one k).inner ≡ false → (other (g k)).inner ≡ renamed_inner g (one k).inner → Agree g one other k
  no_struct n e = record { inner = e; members = λ count span j s l. absurd (true≢false (ap is_struct (sym s) ∙ n)) }

  -- of a struct its members, here two
  a_struct : (size : ℕ) → (one k).inner ≡ Struct 2 size → (other (g k)).inner ≡ Struct 2 size
      → MemberAgrees g (one k).members (other (g k)).members 0 → MemberAgrees g (one k).members (other (g k)).members 1 → Agree g one other k
  a_struct size e e' first second =
      record {
        inner = e' ∙ ap (renamed_inner g) (sym e);
        members = λ count span j s l. let z : Struct 2 size ≡ Struct count span = sym e ∙ s in let q : 2 ≡ count = cc in each j (omega arith);
      }
    where
      each : (j : ℕ) → j < 2 → MemberAgrees g (one k).members (other (g k)).members j
      each zero l = first
      each (suc zero) l = second
      each (suc (suc j)) l = absurd (omega arith)

-- the rows of each struct stand elsewhere in the second table
pub each_agrees : (k : ℕ) → k < 8 → RecordsAgree f types members types' members' k
unfolding computed
each_agrees zero h = no_struct f _ _ 0 refl refl
each_agrees (suc zero) h = no_struct f _ _ 1 refl refl
each_agrees (suc (suc zero)) h = no_struct f _ _ 2 refl refl
each_agrees (suc (suc (suc zero))) h = a_struct f _ _ 3 64 refl refl
    (record { type = refl; offset = refl; location = refl; source = refl }) (record { type = refl; offset = refl; location = refl; source = refl })
each_agrees (suc (suc (suc (suc zero)))) h = no_struct f _ _ 4 refl refl
each_agrees (suc (suc (suc (suc (suc zero))))) h = a_struct f _ _ 5 80 refl refl
    (record { type = refl; offset = refl; location = refl; source = refl }) (record { type = refl; offset = refl; location = refl; source = refl })
each_agrees (suc (suc (suc (suc (suc (suc zero)))))) h = no_struct f _ _ 6 refl refl
each_agrees (suc (suc (suc (suc (suc (suc (suc zero))))))) h = no_struct f _ _ 7 refl refl
each_agrees (suc (suc (suc (suc (suc (suc (suc (suc k)))))))) h = absurd (omega arith)

-- and the second arena holds each
pub each_within : (k : ℕ) → k < 8 → f k < 10
each_within zero h = omega arith
each_within (suc zero) h = omega arith
each_within (suc (suc zero)) h = omega arith
each_within (suc (suc (suc zero))) h = omega arith
each_within (suc (suc (suc (suc zero)))) h = omega arith
each_within (suc (suc (suc (suc (suc zero))))) h = omega arith
each_within (suc (suc (suc (suc (suc (suc zero)))))) h = omega arith
each_within (suc (suc (suc (suc (suc (suc (suc zero))))))) h = omega arith
each_within (suc (suc (suc (suc (suc (suc (suc (suc k)))))))) h = absurd (omega arith)

-- the binding array does not reach the sampler
pub reached_below : (k : ℕ) → Reaches (decoded types members) 7 k → k < 8
reached_below k r = let l = reaches_earlier 0 (decoded types members) 9 (accepted_types 0 types members accepted) r (omega arith) in omega arith

-- and what it reaches agrees
pub reached : ReachedAgree f types members types' members' 7
reached = record { within = omega arith; within' = λ k r. each_within k (reached_below k r); agree = λ k r. each_agrees k (reached_below k r) }
