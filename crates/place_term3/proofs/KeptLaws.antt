-- Each list of steps gets the same answer where the records are the same.
-- Assumes nothing.
use mathlib.Core.Path.{◌≡◌, refl, ap}
use mathlib.Core.List.{List, [], ◌∷◌}
use Prim.Native.Nat.{ℕ, ◌+◌, ◌<◌}
use native.Mathlib.Omega.{arith}
use Rattle.ir_records.specs.Result.{pick}
use Rattle.ir_records.specs.Record.{Decoded}
use Rattle.valid_type_info.specs.Verdict.{min_storage}
use Rattle.valid_arena.proofs.AcceptedLaws.{AcceptedTypes}
use Rattle.place_steps.specs.Step.{Step}
use Rattle.place_steps.specs.Step.{To, Column, NoStep}
use Rattle.place_descent.specs.Place.{At, NoPlace}
use Rattle.place_steps.specs.Steps.{is_leaf, step_of}
use Rattle.place_descent.specs.Place.{step_in, place_in}
use Rattle.place_lookup.proofs.DescentLaws.{descent}

-- two arenas whose records below n are the same, the first accepted
module _ (c : ℕ) (types types' : ℕ → Decoded) (n : ℕ) (acc : AcceptedTypes c types n) (same : (k : ℕ) → k < n → types k ≡ types' k) where
  -- one step from a type below n is the same
  same_step : (t s : ℕ) → t < n → step_in types t s ≡ step_in types' t s
  same_step t s h = ap (λ (d : Decoded). step_of d.inner d.members s) (same t h)

  -- and so is each list of steps
  pub same_place : (steps : List ℕ) (t p : ℕ) → t < n → place_in types t p steps ≡ place_in types' t p steps
  same_place [] t p h = ap (λ (d : Decoded). pick (is_leaf d.inner) (At p t) NoPlace) (same t h)
  same_place (s ∷ steps) t p h = go (step_in types t s) refl (λ u q. same_place steps u q)
    where
      go : (o : Step) → step_in types t s ≡ o → ((u q : ℕ) → u < n → place_in types u q steps ≡ place_in types' u q steps)
          → place_in types t p (s ∷ steps) ≡ place_in types' t p (s ∷ steps)
      go NoStep e ih = rw (← same_step t s h, e) refl
      go (Column bytes) e ih = rw (← same_step t s h, e) refl
      go (To ty bytes) e ih = let d = descent min_storage c types n acc t h s ty bytes e in rw (← same_step t s h, e) (ih ty (p + bytes) (omega (arith, d.earlier)))
