-- A dispatch passes exactly when a pipeline is chosen and each slot that the last one's type needs was set by an earlier accepted step.
-- Assumes nothing.
use mathlib.Core.Path.{◌≡◌, refl}
use mathlib.Core.Bool.{Bool, true, false, ◌&&◌, not}
use mathlib.Core.List.{List, [], ◌∷◌}
use mathlib.Core.Logic.{⊎_elim}
use Prim.Native.Nat.{ℕ, ◌%◌, ◌<◌}
use native.Mathlib.Omega.{arith}
use lib.Dec.{T, eqb}
use Rattle.ir_records.specs.Result.{pick}
use Rattle.ir_records.proofs.ResultLaws.{or_cases}
use Rattle.valid_flags.specs.Flags.{bit}
use Rattle.immediates_ranges.specs.Slots.{Slots}
use Rattle.immediates_ranges.specs.Slots.{Mask, Past}
use Rattle.immediates_ranges.specs.Answer.{SlotsAnswer}
use Rattle.immediates_ranges.specs.Answer as answer
use Rattle.immediates_ranges.specs.Slots.{slot_count, covers, range_slots, part_answer, contains}
use Rattle.immediates_ranges.proofs.RangeLaws.{or_left, or_right}
use Rattle.immediates_ranges.proofs.SlotBits.{union_slot, difference_slot, contains_slots, slots_contains, zero_bit, range_slot}
use Rattle.immediates_pass.specs.declared.Pass.{Pass}
use Rattle.immediates_pass.specs.Pass.{range_answer, choose_answer, with_set, with_type, PassStep, SetRange, Choose, Dispatch, tried, passes, missing}
use Rattle.immediates_pass.specs.History.{after, SetIn, now, before, or_earlier, last_chosen, Ready}

pub clash {ℓ} : {A : Type ℓ} {n t m d touched partly : ℕ} → answer.Refused n t m d ≡ answer.Slots touched partly → A
clash {n = n} {t = t} {m = m} {d = d} {touched = touched} {partly = partly} e = let z : ◌≡◌ {A = ℕ} 0 1 = cc in absurd (omega arith)

-- masks that are answered are the part's
pub part_mask : (s : Slots) (touched partly : ℕ) → part_answer s ≡ answer.Slots touched partly → s ≡ Mask touched partly
part_mask (Mask x y) touched partly e = let q : x ≡ touched = cc in let r : y ≡ partly = cc in rw (q, r) refl
part_mask Past touched partly e = clash e

-- the mask of an accepted range has the slots that it covers
range_covers : (offset size touched partly : ℕ) → range_answer offset size ≡ answer.Slots touched partly → (k : ℕ) → k < slot_count
    → bit touched k ≡ covers offset size k
range_covers offset size touched partly e k h = go (eqb (offset % 4) 0 && eqb (size % 4) 0) e
  where
    go : (b : Bool) → pick b (part_answer (range_slots offset size)) (answer.Refused 37 0 0 0) ≡ answer.Slots touched partly → bit touched k ≡ covers offset size k
    go true q = range_slot false offset size touched partly (part_mask (range_slots offset size) touched partly q) k h
    go false q = clash q

module _ (k : ℕ) (h : k < slot_count) where
  -- ---- the slots set are those of the accepted ranges
  pub set_in : (history : List PassStep) → T (bit (after history).set k) → SetIn history k
  set_in [] t = absurd (rw (zero_bit k) at t)
  set_in (SetRange offset size ∷ earlier) t = go (range_answer offset size) refl t (set_in earlier)
    where
      go : (r : SlotsAnswer) → range_answer offset size ≡ r → T (bit (with_set (after earlier) r).set k) → (T (bit (after earlier).set k) → SetIn earlier k)
          → SetIn (SetRange offset size ∷ earlier) k
      go (answer.Slots touched partly) e u ih =
          ⊎_elim (λ v. before (ih v)) (λ v. now touched partly e (rw (range_covers offset size touched partly e k h) at v))
          (or_cases (bit (after earlier).set k) (bit touched k) (rw (union_slot (after earlier).set touched k h) at u))
      go (answer.Refused number ty member detail) e u ih = before (ih u)
  set_in (Choose c ts ms rows ty ∷ earlier) t = go (choose_answer c ts ms rows ty) t (set_in earlier)
    where
      go : (r : SlotsAnswer) → T (bit (with_type (after earlier) r).set k) → (T (bit (after earlier).set k) → SetIn earlier k)
          → SetIn (Choose c ts ms rows ty ∷ earlier) k
      go (answer.Slots touched partly) u ih = before (ih u)
      go (answer.Refused number t member detail) u ih = before (ih u)
  set_in (Dispatch ∷ earlier) t = before (set_in earlier t)

  -- a slot once set stays set
  kept : (p : Pass) (step : PassStep) → T (bit p.set k) → T (bit (tried p step).pass.set k)
  kept p (SetRange offset size) t = go (range_answer offset size)
    where
      go : (r : SlotsAnswer) → T (bit (with_set p r).set k)
      go (answer.Slots touched partly) = rw (union_slot p.set touched k h) (or_left (bit p.set k) (bit touched k) t)
      go (answer.Refused number ty member detail) = t
  kept p (Choose c ts ms rows ty) t = go (choose_answer c ts ms rows ty)
    where
      go : (r : SlotsAnswer) → T (bit (with_type p r).set k)
      go (answer.Slots touched partly) = t
      go (answer.Refused number y member detail) = t
  kept p Dispatch t = t

  pub in_set : {history : List PassStep} → SetIn history k → T (bit (after history).set k)
  in_set {history} (now {earlier} {offset} {size} touched partly e c) =
      rw (e, union_slot (after earlier).set touched k h)
      (or_right (bit (after earlier).set k) (bit touched k) (rw (range_covers offset size touched partly e k h) c))
  in_set {history} (before {earlier} {step} s) = kept (after earlier) step (in_set s)

-- ---- the type needed is the one chosen last
-- the answer says what the pass has of its pipeline
abbrev pub Says : Pass → SlotsAnswer → Type 0
Says p (answer.Slots touched partly) = (p.chosen ≡ true) × (p.needed ≡ touched)
Says p (answer.Refused number ty member detail) = p.chosen ≡ false

pub chosen_last : (history : List PassStep) → Says (after history) (last_chosen history)
chosen_last [] = refl
chosen_last (SetRange offset size ∷ earlier) = go (range_answer offset size) (last_chosen earlier) (chosen_last earlier)
  where
    go : (r last : SlotsAnswer) → Says (after earlier) last → Says (with_set (after earlier) r) last
    go (answer.Slots touched partly) (answer.Slots m q) ih = ih
    go (answer.Slots touched partly) (answer.Refused n t m d) ih = ih
    go (answer.Refused number ty member detail) last ih = ih
chosen_last (Choose c ts ms rows ty ∷ earlier) = go (choose_answer c ts ms rows ty) (chosen_last earlier)
  where
    go : (r : SlotsAnswer) → Says (after earlier) (last_chosen earlier) → Says (with_type (after earlier) r) (or_earlier r (last_chosen earlier))
    go (answer.Slots touched partly) ih = (refl, refl)
    go (answer.Refused number t member detail) ih = ih
chosen_last (Dispatch ∷ earlier) = chosen_last earlier

-- a history that says Slots has a pipeline with these
pub last_needed : (history : List PassStep) (touched partly : ℕ) → last_chosen history ≡ answer.Slots touched partly
    → ((after history).chosen ≡ true) × ((after history).needed ≡ touched)
last_needed history touched partly e = rw e at (chosen_last history)

-- ---- the theorem
pub dispatch_passes : (history : List PassStep) → (T (passes (after history)) → Ready history) × (Ready history → T (passes (after history)))
dispatch_passes history = (λ t. there (last_chosen history) refl (chosen_last history) t, back)
  where
    there : (r : SlotsAnswer) → last_chosen history ≡ r → Says (after history) r → T (passes (after history)) → Ready history
    there (answer.Slots touched partly) e s t =
        let u : T (contains (after history).set (after history).needed) = rw s.0 at t in
        let v : T (contains (after history).set touched) = rw s.1 at u in
        record {
          needs = touched;
          partly = partly;
          last = e;
          all = λ k h w. set_in k h history (contains_slots (after history).set touched v k h w);
        }
    there (answer.Refused number ty member detail) e s t = absurd (rw s at t)

    back : Ready history → T (passes (after history))
    back r =
        let s = last_needed history r.needs r.partly r.last in
        rw (s.0, s.1) (slots_contains (after history).set r.needs (λ k h u. in_set k h (r.all k h u)))

-- the missing slots: needed by the last one's type, and set by no earlier accepted step
pub missing_slot : (history : List PassStep) (needs partly : ℕ) → last_chosen history ≡ answer.Slots needs partly → (k : ℕ) → k < slot_count
    → bit (missing (after history)) k ≡ (bit needs k && not (bit (after history).set k))
missing_slot history needs partly e k h =
    let s = last_needed history needs partly e in
    rw (s.0, difference_slot (after history).needed (after history).set k h, s.1) refl
