-- Slots and places of a type, with the type numbers renamed.
-- Assumes nothing.
use mathlib.Core.Path.{◌≡◌, refl, sym, ◌∙◌, ap, subst}
use mathlib.Core.Bool.{Bool, true, false}
use mathlib.Core.List.{List, [], ◌∷◌}
use Prim.Native.Nat.{ℕ, zero, suc, ◌+◌, ◌*◌, ◌^◌, ◌≤◌, ◌<◌}
use native.Mathlib.Nat.{le_refl}
use native.Mathlib.Omega.{arith}
use lib.Dec.{ltb, ltb→lt}
use Rattle.ir_records.specs.Result.{pick}
use Rattle.ir_records.specs.Record.{Decoded, member_type, member_offset}
use Rattle.ir_records.specs.Table.{table}
use Rattle.ir_records.specs.declared.TypeInner.{TypeInner}
use Rattle.ir_records.specs.declared.TypeInner.TheVariants.{Plain, Array, RuntimeArray, Struct, Other}
use Rattle.ir_records.proofs.ResultLaws.{true_T}
use Rattle.proc_type_methods.specs.TypeMethods.{leaf_column_step}
use Rattle.valid_type_info.specs.Verdict.{min_storage}
use Rattle.valid_arena.proofs.AcceptedLaws.{AcceptedTypes, member_earlier}
use Rattle.immediates_ranges.specs.Slots.{Slots}
use Rattle.immediates_ranges.specs.Slots.{range_slots}
use Rattle.immediates_walk.specs.Walk.{members_slots, slots_of, no_slots, slots_step, slots_at}
use Rattle.immediates_walk.proofs.WalkLaws.{earlier_slots, slots_by_record}
use Rattle.place_steps.specs.Step.{Step}
use Rattle.place_steps.specs.Step.{To, Column, NoStep}
use Rattle.place_steps.specs.Columns.{column_count}
use Rattle.place_steps.specs.Steps.{is_leaf, step_of}
use Rattle.place_descent.specs.Place.{At, NoPlace}
use Rattle.place_descent.specs.Place.{ended, step_in, place_in}
use Rattle.place_descent.proofs.WalkLaws.{plain_step, array_step, runtime_array_step, struct_step, other_step}
use Rattle.valid_renaming.specs.Renaming.{Reaches, itself, element, runtime_element, member, renamed_inner, renamed_place}
use Rattle.valid_renaming.proofs.ReachLaws.{Closed, by_earlier}
use Rattle.valid_renaming.proofs.InnerRenamed.{size_renamed, is_leaf_renamed}

-- where a step leads to, with its type renamed; a column has no type of its own
abbrev renamed_step : (ℕ → ℕ) → Step → Step
renamed_step f (To ty bytes) = To (f ty) bytes
renamed_step f (Column bytes) = Column bytes
renamed_step f NoStep = NoStep

-- a step that hangs on a test
step_picked : (f : ℕ → ℕ) (b : Bool) (ty bytes : ℕ) → pick b (To (f ty) bytes) NoStep ≡ renamed_step f (pick b (To ty bytes) NoStep)
step_picked f true ty bytes = refl
step_picked f false ty bytes = refl

-- a column that hangs on a test
column_picked : (f : ℕ → ℕ) (b : Bool) (bytes : ℕ) → pick b (Column bytes) NoStep ≡ renamed_step f (pick b (Column bytes) NoStep)
column_picked f true bytes = refl
column_picked f false bytes = refl

-- a place that hangs on a test
place_picked : (f : ℕ → ℕ) (b : Bool) (byte ty : ℕ) → pick b (At byte (f ty)) NoPlace ≡ renamed_place f (pick b (At byte ty) NoPlace)
place_picked f true byte ty = refl
place_picked f false byte ty = refl

-- at a column the steps end
ended_renamed : (f : ℕ → ℕ) (byte ty : ℕ) (steps : List ℕ) → ended byte (f ty) steps ≡ renamed_place f (ended byte ty steps)
ended_renamed f byte ty [] = refl
ended_renamed f byte ty (s ∷ steps) = refl

module _ (f : ℕ → ℕ) (types types' : ℕ → Decoded) (n' : ℕ) where
  -- ---- places
  step-of : (t s : ℕ) → Closed f types types' n' t → (this : TypeInner) → (types t).inner ≡ this
      → step_of (renamed_inner f this) (types' (f t)).members s ≡ renamed_step f (step_of this (types t).members s)
  unfolding step_of
  step-of t s closed (Plain leaf) e = column_picked f (ltb s (column_count leaf)) (s * leaf_column_step leaf)
  step-of t s closed (Array base count stride) e = step_picked f (ltb s count) base (s * stride)
  step-of t s closed (RuntimeArray base stride) e = step_picked f (ltb s (2 ^ 32)) base (s * stride)
  step-of t s closed (Struct count span) e = go (ltb s count) refl
    where
      go : (b : Bool) → ltb s count ≡ b
          → pick b (To (member_type (types' (f t)).members s) (member_offset (types' (f t)).members s)) NoStep
          ≡ renamed_step f (pick b (To (member_type (types t).members s) (member_offset (types t).members s)) NoStep)
      go true q =
          let own = (closed t itself).1 in
          let l = ltb→lt s count (true_T q) in
          rw ((own.members count span s e l).type, (own.members count span s e l).offset) refl
      go false q = refl
  step-of t s closed (Other o) e = refl

  step_renamed : (t s : ℕ) → Closed f types types' n' t → step_in types' (f t) s ≡ renamed_step f (step_in types t s)
  step_renamed t s closed =
      ap (λ (i : TypeInner). step_of i (types' (f t)).members s) (closed t itself).1.inner
      ∙ step-of t s closed (types t).inner refl

  -- what a step leads to is reached
  step_reaches : (t s ty bytes k : ℕ) (this : TypeInner) → (types t).inner ≡ this → step_of this (types t).members s ≡ To ty bytes → Reaches types ty k → Reaches types t k
  step_reaches t s ty bytes k (Plain leaf) e q r = plain_step leaf (types t).members s ty bytes q
  step_reaches t s ty bytes k (Array base count stride) e q r =
      element e (subst (λ (x : ℕ). Reaches types x k) (sym (array_step base count stride (types t).members s ty bytes q).1) r)
  step_reaches t s ty bytes k (RuntimeArray base stride) e q r =
      runtime_element e (subst (λ (x : ℕ). Reaches types x k) (sym (runtime_array_step base stride (types t).members s ty bytes q).1) r)
  step_reaches t s ty bytes k (Struct count span) e q r =
      let g = struct_step count span (types t).members s ty bytes q in
      member s e g.0 (subst (λ (x : ℕ). Reaches types x k) (sym g.1) r)
  step_reaches t s ty bytes k (Other o) e q r = other_step o (types t).members s ty bytes q

  pub place_renamed : (steps : List ℕ) (t p : ℕ) → Closed f types types' n' t → place_in types' (f t) p steps ≡ renamed_place f (place_in types t p steps)
  place_renamed [] t p closed =
      ap (λ (i : TypeInner). pick (is_leaf i) (At p (f t)) NoPlace) (closed t itself).1.inner
      ∙ ap (λ (b : Bool). pick b (At p (f t)) NoPlace) (is_leaf_renamed f (types t).inner)
      ∙ place_picked f (is_leaf (types t).inner) p t
  place_renamed (s ∷ steps) t p closed = go (step_in types t s) refl (λ u q. place_renamed steps u q)
    where
      go : (o : Step) → step_in types t s ≡ o
          → ((u q : ℕ) → Closed f types types' n' u → place_in types' (f u) q steps ≡ renamed_place f (place_in types u q steps))
          → place_in types' (f t) p (s ∷ steps) ≡ renamed_place f (place_in types t p (s ∷ steps))
      go NoStep e ih = rw (step_renamed t s closed, e) refl
      go (Column bytes) e ih = rw (step_renamed t s closed, e) (ended_renamed f (p + bytes) t steps)
      go (To ty bytes) e ih =
          rw (step_renamed t s closed, e) (ih ty (p + bytes) (λ k r. closed k (step_reaches t s ty bytes k (types t).inner refl e r)))

  -- ---- slots
  members-slots : (earlier earlier' : ℕ → ℕ → Slots) (ms ms' : List ℕ) (count : ℕ)
      → ((j : ℕ) → j < count → member_type ms' j ≡ f (member_type ms j)) → ((j : ℕ) → j < count → member_offset ms' j ≡ member_offset ms j)
      → ((j o : ℕ) → j < count → earlier' (f (member_type ms j)) o ≡ earlier (member_type ms j) o)
      → (offset j : ℕ) → j ≤ count → members_slots earlier' ms' offset j ≡ members_slots earlier ms offset j
  unfolding members_slots
  members-slots earlier earlier' ms ms' count ty off same offset zero h = refl
  members-slots earlier earlier' ms ms' count ty off same offset (suc j) h =
      rw (members-slots earlier earlier' ms ms' count ty off same offset j (omega arith), ty j h, off j h, same j (offset + member_offset ms j) h) refl

  module _ (c : ℕ) (n : ℕ) (acc : AcceptedTypes c types n) (acc' : AcceptedTypes c types' n') where
    slots-of : (t : ℕ) → t < n → Closed f types types' n' t → ((k : ℕ) → k < t → Closed f types types' n' k → (o : ℕ) → slots_at types' (f k) o ≡ slots_at types k o)
        → (this : TypeInner) → (types t).inner ≡ this → (offset : ℕ)
        → slots_of (table no_slots (slots_step types') (f t)) (renamed_inner f this) (types' (f t)).members offset
        ≡ slots_of (table no_slots (slots_step types) t) this (types t).members offset
    unfolding slots_of
    slots-of t h closed ih (Plain leaf) e offset = refl
    slots-of t h closed ih (Array base count stride) e offset = refl
    slots-of t h closed ih (RuntimeArray base stride) e offset = refl
    slots-of t h closed ih (Struct count span) e offset =
        let own = closed t itself in
        let e' : (types' (f t)).inner ≡ Struct count span = own.1.inner ∙ ap (renamed_inner f) e in
        let ms = (types t).members in
        let ty : (j : ℕ) → j < count → member_type (types' (f t)).members j ≡ f (member_type ms j) = λ j l. (own.1.members count span j e l).type in
        members-slots (table no_slots (slots_step types) t) (table no_slots (slots_step types') (f t)) ms (types' (f t)).members count ty
        (λ j l. (own.1.members count span j e l).offset)
        (λ j o l.
        let below = member_earlier min_storage c types n acc t h count span e j l in
        let below' : f (member_type ms j) < f t = subst (λ (x : ℕ). x < f t) (ty j l) (member_earlier min_storage c types' n' acc' (f t) own.0 count span e' j l) in
        earlier_slots types' (f t) (f (member_type ms j)) o below'
        ∙ ih (member_type ms j) below (λ k r. closed k (member j e l r)) o
        ∙ sym (earlier_slots types t (member_type ms j) o below))
        offset count (le_refl count)
    slots-of t h closed ih (Other o) e offset = ap (range_slots offset) (size_renamed f o)

    slots-step : (t : ℕ) → t < n → Closed f types types' n' t → ((k : ℕ) → k < t → Closed f types types' n' k → (o : ℕ) → slots_at types' (f k) o ≡ slots_at types k o)
        → (offset : ℕ) → slots_at types' (f t) offset ≡ slots_at types t offset
    slots-step t h closed ih offset =
        slots_by_record types' (f t) offset
        ∙ ap (λ (i : TypeInner). slots_of (table no_slots (slots_step types') (f t)) i (types' (f t)).members offset) (closed t itself).1.inner
        ∙ slots-of t h closed ih (types t).inner refl offset
        ∙ sym (slots_by_record types t offset)

    pub slots_renamed : (t : ℕ) → t < n → Closed f types types' n' t → (offset : ℕ) → slots_at types' (f t) offset ≡ slots_at types t offset
    slots_renamed =
        by_earlier (λ (t : ℕ). Closed f types types' n' t → (offset : ℕ) → slots_at types' (f t) offset ≡ slots_at types t offset) n
        (λ t h ih closed. slots-step t h closed ih)
