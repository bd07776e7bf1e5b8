-- The steps towards a byte: what is left of them finds what all of them find.
-- Assumes nothing.
use mathlib.Core.Path.{◌≡◌, refl, sym, ◌∙◌, ap, subst}
use mathlib.Core.List.{List, [], ◌∷◌}
use mathlib.Core.Bool.{Bool, false}
use Prim.Native.Nat.{ℕ, suc, ◌-◌, ◌<◌}
use native.Mathlib.Omega.{arith}
use Rattle.std.specs.Prelude.{Option, None, Some, MatchOption}
use Rattle.std.specs.List.{FoldsTo}
use Rattle.std.specs.Iterator.{Yields}
use Rattle.std.specs.Option.{unwrap_or}
use Rattle.std.specs.ControlFlow.{break_value}
use Rattle.std.specs.declared.ops.Range.{Range}
use Rattle.std.specs.declared.ops.ControlFlow.{ControlFlow}
use Rattle.std.specs.declared.ops.ControlFlow.TheVariants.{Continue, Break}
use Rattle.std.proofs.iter.Yields.{nat_range_steps}
use Rattle.sheet_names.specs.declared.Sheet.{Sheet}
use Rattle.sheet_bytes.specs.declared.Byte.{Byte}
use Rattle.sheet_bytes.specs.Leaf.{ends, goes_on, step_of, found_after, held_within}

module _ (sheet : Sheet) (n i at : ℕ) where
  pub steps_none : n ≡ 0 → held_within sheet n i at ≡ false
  unfolding held_within
  steps_none e = rw e

  pub steps_end : (held : Bool) → 0 < n → step_of sheet i at ≡ ends held → held_within sheet n i at ≡ held
  unfolding held_within
  steps_end held h e = let more : n ≡ suc (n - 1) = omega arith in rw more (ap (found_after (held_within sheet (n - 1))) e)

  pub steps_more : (j by : ℕ) → step_of sheet i at ≡ goes_on j by → held_within sheet (suc n) i at ≡ held_within sheet n j by
  unfolding held_within
  steps_more j by e = ap (found_after (held_within sheet n)) e

-- one turn goes on to the next byte
abbrev pub GoesOn : {F : Type 0} → F × Byte → F × Byte → Type 0
GoesOn p q = (q.1.of.sheet ≡ p.1.of.sheet) × (step_of p.1.of.sheet p.1.of.i p.1.at ≡ goes_on q.1.of.i q.1.at)

module _ {F : Type 0} (R : F × Byte → ℕ → F × Byte → Type 0) (each : (p : F × Byte) (x : ℕ) (q : F × Byte) → R p x q → GoesOn p q) where
  -- the turns that are left find what all of them find
  pub record Left (s t : Range ℕ) (p q : F × Byte) : Type 0 where
    pub sheet : q.1.of.sheet ≡ p.1.of.sheet
    pub found : held_within (p.1.of.sheet) (s.end - s.start) (p.1.of.i) (p.1.at) ≡ held_within (p.1.of.sheet) (t.end - t.start) (q.1.of.i) (q.1.at)

  pub turns_left : (xs : List ℕ) (s t : Range ℕ) (p q : F × Byte) → Yields nat_range_steps s xs t → FoldsTo R p xs q → Left s t p q
  turns_left [] s t p q y f =
      let none : Left s s p p = record { sheet = refl; found = refl } in
      subst (λ w. Left s w p q) y (subst (λ w. Left s s p w) f none)
  turns_left (x ∷ xs) s t p q y f =
      let s' = y.0 in
      let b = p.1 in
      let b' = f.0.1 in
      let n = s'.end - s'.start in
      let turn = each p x f.0 f.1 in
      let later = turns_left xs s' t f.0 q y.2 f.2 in
      let less : s.end - s.start ≡ suc n = omega (arith, y.1.0, y.1.1.0, y.1.1.2) in
      let rest : held_within b.of.sheet n b'.of.i b'.at ≡ held_within b.of.sheet (t.end - t.start) (q.1.of.i) (q.1.at) =
      subst (λ sheet. held_within sheet n b'.of.i b'.at ≡ held_within sheet (t.end - t.start) (q.1.of.i) (q.1.at)) turn.0 later.found in
      record {
        sheet = later.sheet ∙ turn.0;
        found = ap (λ n. held_within b.of.sheet n b.of.i b.at) less ∙ steps_more b.of.sheet n b.of.i b.at b'.of.i b'.at turn.1 ∙ rest;
      }

-- the last step ends so
abbrev pub EndsWith : Byte → ControlFlow Bool Byte → Type 0
EndsWith b r = (held : Bool) × (r ≡ Break held) × (step_of b.of.sheet b.of.i b.at ≡ ends held)

-- what follows from what holds of an item
pub match_by : {A : Type 0} (P : Type 0) (Q Q' : A → Type 0) (o : Option A) → ((x : A) → Q x → Q' x) → MatchOption o P Q → MatchOption o P Q'
match_by P Q Q' None f e = e
match_by P Q Q' (Some x) f e = f x e

pub found_last : (t u : Range ℕ) (o : Option ℕ) (b : Byte) (r : ControlFlow Bool Byte) → nat_range_steps t o u
    → MatchOption o (r ≡ Continue b) (λ x. EndsWith b r)
    → unwrap_or (break_value r) false ≡ held_within b.of.sheet (t.end - t.start) b.of.i b.at
found_last t u None b r y e = rw e (sym (steps_none b.of.sheet (t.end - t.start) b.of.i b.at y.1.0))
found_last t u (Some x) b r y e = rw e.1 (sym (steps_end b.of.sheet (t.end - t.start) b.of.i b.at e.0 y.1.0 e.2))
