-- Laws of the loop: where it stands after some of the steps.
-- Assumes nothing.
use mathlib.Core.Path.{◌≡◌, refl, sym, ◌∙◌}
use mathlib.Core.Bool.{Bool, true, false}
use mathlib.Core.List.{List}
use Prim.Native.Nat.{ℕ, ◌+◌, ◌^◌, ◌≤◌, ◌<◌}
use native.Mathlib.Numerals.{add-one}
use native.Mathlib.Omega.{arith}
use lib.ListN.{length, get_or, drop, drop_of_length-le}
use lib.Seq.{drop-cons}
use borrow.Author.Tests.{le-ltb}
use Rattle.ir_records.specs.Result.{pick}
use Rattle.ir_records.specs.Record.{type_count, decoded}
use Rattle.place_steps.specs.Step.{To, Column, NoStep}
use Rattle.place_descent.specs.Place.{At, NoPlace}
use Rattle.std.specs.Bool.{then_some}
use Rattle.place_descent.specs.declared.Place as code
use Rattle.place_descent.specs.Place.{found_place, ended, follow, step_in, leaf_in, place_in, place_of}
use Rattle.place_descent.specs.Serving.{Descends}
use Rattle.place_descent.proofs.WalkLaws.{place_from}

-- a place where the type is a leaf
pub leaf_place : (b : Bool) (p : code.Place) → found_place (then_some b p) ≡ pick b (At p.byte p.leaf) NoPlace
leaf_place true p = refl
leaf_place false p = refl

-- where the loop stands after i steps: the rest of the steps from here lead where all of them lead from the start
pub record Looking (ts ms : List ℕ) (start : ℕ) (steps : List ℕ) (i ty byte : ℕ) : Type 0 where
  pub descends : Descends (decoded ts ms) (type_count ts)
  pub started : start < type_count ts
  pub within : i ≤ length steps
  pub is_type : ty < type_count ts
  pub bound : byte + descends.most ty < 2 ^ 64
  pub same : place_in (decoded ts ms) ty byte (drop i steps) ≡ place_in (decoded ts ms) start 0 steps

module _ (ts ms : List ℕ) (start : ℕ) (steps : List ℕ) where
  -- no place from another start
  pub no_start : type_count ts ≤ start → NoPlace ≡ place_of ts ms start steps
  unfolding place_of
  no_start h = rw (le-ltb start (type_count ts) h) refl

  -- before the first step
  pub looking_start : Descends (decoded ts ms) (type_count ts) → start < type_count ts → Looking ts ms start steps 0 start 0
  looking_start d l = record { descends = d; started = l; within = omega arith; is_type = l; bound = omega (arith, d.fits start l); same = refl }

module _ {ts ms : List ℕ} {start : ℕ} {steps : List ℕ} {i ty byte : ℕ} (l : Looking ts ms start steps i ty byte) where
  -- at the byte place that the code holds
  pub looking_at : (held : ℕ) → byte ≡ held → Looking ts ms start steps i ty held
  looking_at held e = rw e at l

  -- the next step is followed
  next : i < length steps
      → follow (step_in (decoded ts ms) ty (get_or steps i 0)) (λ bytes. ended (byte + bytes) ty (drop (i + 1) steps)) (λ next bytes. place_in (decoded ts ms) next (byte + bytes) (drop (i + 1) steps))
      ≡ place_in (decoded ts ms) start 0 steps
  next h = rw add-one (rw (drop-cons steps i 0 h) at l.same)

  -- no step here: no place
  pub looking_ends : i < length steps → NoStep ≡ step_in (decoded ts ms) ty (get_or steps i 0) → NoPlace ≡ place_of ts ms start steps
  looking_ends h e = (rw (← e) at (next h)) ∙ sym (place_from ts ms start l.started steps)

  -- one step on
  pub looking_step : {to bytes : ℕ} → i < length steps → To to bytes ≡ step_in (decoded ts ms) ty (get_or steps i 0) → Looking ts ms start steps (i + 1) to (byte + bytes)
  looking_step {to = to} {bytes = bytes} h e =
      let d = l.descends.step ty (get_or steps i 0) to bytes l.is_type (sym e) in
      record {
        descends = l.descends;
        started = l.started;
        within = omega arith;
        is_type = d.0;
        bound = omega (arith, l.bound, d.1);
        same = rw (← e) at (next h);
      }

  -- it is the place, where the steps end
  pub column_last : {bytes : ℕ} → i < length steps → length steps ≤ i + 1 → Column bytes ≡ step_in (decoded ts ms) ty (get_or steps i 0)
      → At (byte + bytes) ty ≡ place_of ts ms start steps
  column_last h k e = (rw (← e, drop_of_length-le steps k) at (next h)) ∙ sym (place_from ts ms start l.started steps)

  -- and no place, where they go on
  pub column_passed : {bytes : ℕ} → i < length steps → i + 1 < length steps → Column bytes ≡ step_in (decoded ts ms) ty (get_or steps i 0)
      → NoPlace ≡ place_of ts ms start steps
  column_passed h k e = (rw (← e, drop-cons steps (i + 1) 0 k) at (next h)) ∙ sym (place_from ts ms start l.started steps)

  -- after the last step: the place, where the type is a leaf
  pub looking_done : length steps ≤ i → pick (leaf_in (decoded ts ms) ty) (At byte ty) NoPlace ≡ place_of ts ms start steps
  looking_done h = (rw (drop_of_length-le steps h) at l.same) ∙ sym (place_from ts ms start l.started steps)
