-- Laws of the call: the sizes in the rows of an accepted arena, the answer by what the arena check says, and the meaning of
-- both masks slot by slot.
-- Assumes nothing.
use mathlib.Core.Path.{◌≡◌, refl, ◌∙◌}
use mathlib.Core.Bool.{Bool, true, false}
use mathlib.Core.List.{List}
use Prim.Native.Nat.{ℕ, ◌<◌, ◌≤◌}
use native.Mathlib.Omega.{arith}
use lib.Dec.{T, ltb}
use lib.ListN.{length}
use borrow.Author.Tests.{lt-ltb, ltb-true}
use Rattle.ir_records.specs.Result.{pick}
use Rattle.ir_records.specs.Record.{decoded, type_count, type_inner}
use Rattle.ir_records.specs.Outcome.{Outcome}
use Rattle.ir_records.specs.Outcome.{Accepted, Refused}
use Rattle.ir_records.specs.Fields.{most_types, capabilities_known, tables_fit}
use Rattle.ir_records.proofs.ResultLaws.{T_true, and_right}
use Rattle.ir_records.proofs.RecordLaws.{tables_fitting}
use Rattle.ir_records.proofs.TableLaws.{also_accepted}
use Rattle.proc_layouter.specs.Layouter.{layout_outcome}
use Rattle.valid_flags.specs.Flags.{bit}
use Rattle.ir_rows.specs.Rows.{row_word}
use Rattle.proc_type_methods.specs.TypeMethods.{size_of}
use Rattle.valid_type_info.specs.declared.UniformRule.{UniformRule}
use Rattle.valid_type_info.specs.TypeInfo.{words_of}
use Rattle.valid_type_info.specs.Verdict.{least_for}
use Rattle.valid_arena.specs.Arena.{judge_outcome, arena_fits, arena_outcome, arena_answer, arena_words}
use Rattle.valid_arena.proofs.CommonLaws.{refused_common}
use Rattle.valid_arena.proofs.AcceptedLaws.{AcceptedTypes, row_size}
use Rattle.valid_arena.proofs.WordLaws.{word_left}
use Rattle.immediates_ranges.specs.Slots.{Slots}
use Rattle.immediates_ranges.specs.Slots.{Mask, Past}
use Rattle.immediates_ranges.specs.Answer as answer
use Rattle.immediates_ranges.specs.Slots.{slot_count, mask_by, part_answer}
use Rattle.immediates_walk.specs.Walk.{SetWhereCovered, slots_at}
use Rattle.immediates_walk.proofs.MeasuredLaws.{accepted_parts, layout_measured, layout_size}
use Rattle.immediates_walk.proofs.SlotLaws.{walk_slot}
use Rattle.immediates_slots.specs.Immediates.{type_answer, slots_answer}
use Rattle.immediates_slots.specs.Serving.{type_outcome}
use Rattle.immediates_walk.specs.Parts.{Sizes}
use Rattle.ir_records.specs.Table.{also}

-- an outcome behind a test that is accepted
behind : (b : Bool) (o : Outcome) → pick b o (Refused 1 0 0 0) ≡ Accepted → o ≡ Accepted
behind true o e = e
behind false o e = let z : ◌≡◌ {A = ℕ} 0 1 = cc in absurd (omega arith)

-- and the test holds
behind_test : (b : Bool) (o : Outcome) → pick b o (Refused 1 0 0 0) ≡ Accepted → T b
behind_test true o e = tt
behind_test false o e = let z : ◌≡◌ {A = ℕ} 0 1 = cc in absurd (omega arith)

module _ (c : ℕ) (ts ms rows : List ℕ) (accepted : arena_answer c ts ms rows ≡ Accepted) where
  -- the layouter and the validator accept an accepted arena
  accepted_both : (layout_outcome ts ms ≡ Accepted) × (judge_outcome c ts ms ≡ Accepted)
  unfolding arena_answer arena_outcome
  accepted_both = also_accepted (layout_outcome ts ms) (judge_outcome c ts ms) (behind (arena_fits c ts ms rows) (arena_outcome c ts ms) accepted)

  accepted_types : AcceptedTypes c (decoded ts ms) (type_count ts)
  unfolding judge_outcome
  accepted_types =
      record {
        bounds = λ i h. (layout_measured ts ms accepted_both.0 i h).bounds;
        layouts = (accepted_parts ts ms accepted_both.0).1;
        rows = λ least. refused_common least c (decoded ts ms) (type_count ts) ∙ accepted_both.1;
      }

  -- the first word of each of its rows is the type's measure
  pub accepted_sizes : (rule : UniformRule) (i : ℕ) → i < type_count ts → row_word (arena_words rule c ts ms rows) i 0 ≡ size_of (type_inner ts i)
  unfolding words_of
  accepted_sizes rule i h =
      word_left rule c ts ms rows accepted i 0 h (omega arith)
      ∙ row_size (least_for rule) c (decoded ts ms) (type_count ts) accepted_types i h
      ∙ layout_size ts ms accepted_both.0 i h

  -- it has no more types than an arena may have
  pub accepted_few : type_count ts ≤ most_types
  unfolding arena_answer
  accepted_few =
      let test = behind_test (arena_fits c ts ms rows) (arena_outcome c ts ms) accepted in
      let fit = tables_fit (length ts) (length ms) (length rows) in
      (tables_fitting (length ts) (length ms) (length rows) (T_true fit (and_right (capabilities_known c) fit test))).types

  module _ (ty offset : ℕ) where
    -- a type of the arena is walked
    pub answer_walked : ty < type_count ts → slots_answer c ts ms rows ty offset ≡ part_answer (slots_at (decoded ts ms) ty offset)
    unfolding slots_answer
    answer_walked h = rw (accepted, lt-ltb ty (type_count ts) h) refl

module _ (c : ℕ) (ts ms rows : List ℕ) (ty : ℕ) where
  -- an accepted arena, and a type of it
  pub type_accepted : type_outcome c ts ms rows ty ≡ Accepted → (arena_answer c ts ms rows ≡ Accepted) × (ty < type_count ts)
  type_accepted e =
      let p = also_accepted (arena_answer c ts ms rows) _ e in
      (p.0, within (ltb ty (type_count ts)) refl p.1)
    where
      within : (b : Bool) → ltb ty (type_count ts) ≡ b → pick b Accepted (Refused 26 0 0 0) ≡ Accepted → ty < type_count ts
      within true t q = ltb-true ty (type_count ts) t
      within false t q = let z : ◌≡◌ {A = ℕ} 0 1 = cc in absurd (omega arith)

  -- what the walk of such a type asks, of the rows that the check leaves
  pub type_ready : type_outcome c ts ms rows ty ≡ Accepted → (rule : UniformRule) → Sizes ts (arena_words rule c ts ms rows) ty × (ty ≤ most_types)
  type_ready e rule =
      let p = type_accepted e in
      let few = accepted_few c ts ms rows p.0 in
      (λ i h. accepted_sizes c ts ms rows p.0 rule i (omega (arith, h, p.1)), omega (arith, few, p.1))

  -- the refusal of the arena, or 26, is passed on
  pub answer_refused : (offset : ℕ) {number t member detail : ℕ} → type_outcome c ts ms rows ty ≡ Refused number t member detail
      → slots_answer c ts ms rows ty offset ≡ answer.Refused number t member detail
  unfolding slots_answer
  answer_refused offset {number} {t} {member} {detail} e = go (arena_answer c ts ms rows) e
    where
      go : (o : Outcome) → also o (pick (ltb ty (type_count ts)) Accepted (Refused 26 0 0 0)) ≡ Refused number t member detail
          → type_answer ts ms ty offset o ≡ answer.Refused number t member detail
      go (Refused a b d f) q = cc
      go Accepted q = outside (ltb ty (type_count ts)) q
        where
          outside : (b : Bool) → pick b Accepted (Refused 26 0 0 0) ≡ Refused number t member detail
              → pick b (part_answer (slots_at (decoded ts ms) ty offset)) (answer.Refused 26 0 0 0) ≡ answer.Refused number t member detail
          outside true r = let z : ◌≡◌ {A = ℕ} 0 1 = cc in absurd (omega arith)
          outside false r = cc

-- answered masks are the part's
part_mask : (o : Slots) (m p : ℕ) → part_answer o ≡ answer.Slots m p → o ≡ Mask m p
part_mask (Mask x y) m p e = let q : x ≡ m = cc in let r : y ≡ p = cc in rw (q, r) refl
part_mask Past m p e = let z : ◌≡◌ {A = ℕ} 0 1 = cc in absurd (omega arith)

-- they come from an accepted arena and a type of it
type_mask : (ts ms : List ℕ) (ty offset : ℕ) (o : Outcome) (m p : ℕ) → type_answer ts ms ty offset o ≡ answer.Slots m p
    → slots_at (decoded ts ms) ty offset ≡ Mask m p
type_mask ts ms ty offset Accepted m p e = go (ltb ty (type_count ts)) e
  where
    go : (b : Bool) → pick b (part_answer (slots_at (decoded ts ms) ty offset)) (answer.Refused 26 0 0 0) ≡ answer.Slots m p
        → slots_at (decoded ts ms) ty offset ≡ Mask m p
    go true q = part_mask (slots_at (decoded ts ms) ty offset) m p q
    go false q = let z : ◌≡◌ {A = ℕ} 0 1 = cc in absurd (omega arith)
type_mask ts ms ty offset (Refused number t position detail) m p e = let z : ◌≡◌ {A = ℕ} 0 1 = cc in absurd (omega arith)

-- masks that the call answers are those of the walk
pub answer_mask : (c : ℕ) (ts ms rows : List ℕ) (ty offset m p : ℕ) → slots_answer c ts ms rows ty offset ≡ answer.Slots m p
    → slots_at (decoded ts ms) ty offset ≡ Mask m p
unfolding slots_answer
answer_mask c ts ms rows ty offset m p e = type_mask ts ms ty offset (arena_answer c ts ms rows) m p e

-- slot k of a mask that the call answers is set exactly where a non-struct part of the type covers it, by the mask's own test
pub call_slot : (partly : Bool) (c : ℕ) (ts ms rows : List ℕ) (ty offset m p : ℕ) → slots_answer c ts ms rows ty offset ≡ answer.Slots m p
    → SetWhereCovered partly (decoded ts ms) ty offset (mask_by partly m p)
call_slot partly c ts ms rows ty offset m p e k h = walk_slot (decoded ts ms) partly k h ty offset m p (answer_mask c ts ms rows ty offset m p e)
