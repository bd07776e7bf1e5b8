-- The rule over a whole table, for any scalar kind: one test, computed at each entry, and the law that reads it off there.
-- Assumes nothing.
use mathlib.Core.Path.{◌≡◌, refl}
use mathlib.Core.Bool.{Bool, ◌&&◌}
use mathlib.Core.List.{List}
use Prim.Native.Nat.{ℕ, ◌+◌, ◌*◌, ◌^◌, ◌<◌}
use lib.Dec.{T, eqb, eqb→eq}
use lib.ListN.{get_or}
use Rattle.ir_records.specs.declared.Leaf.{Leaf}
use Rattle.ir_records.proofs.ResultLaws.{and_left, and_right}
use Rattle.proc_alignment.proofs.Finite.{all, holds}
use Rattle.proc_type_methods.specs.TypeMethods.{leaf_size, leaf_column_step}
use Rattle.proc_type_alignment.specs.TypeAlignment.{leaf_width, leaf_factor}
use Rattle.proc_plain_types.specs.PlainTypes.{leaf_with, worked_out}
use Rattle.proc_plain_types.specs.Serving.{entry_in}

module _ (numbers : List ℕ) (kind : ℕ) where
  abbrev leaf : (shape place : ℕ) → Leaf
  leaf shape place = leaf_with shape kind (2 ^ place)

  abbrev size : (shape place : ℕ) → Bool
  size shape place = eqb (get_or numbers ((shape * 4 + place) * 3) 0) (leaf_size (leaf shape place))

  abbrev alignment : (shape place : ℕ) → Bool
  alignment shape place = eqb (get_or numbers ((shape * 4 + place) * 3 + 1) 0) (leaf_factor (leaf shape place) * leaf_width (leaf shape place))

  abbrev step : (shape place : ℕ) → Bool
  step shape place = eqb (get_or numbers ((shape * 4 + place) * 3 + 2) 0) (leaf_column_step (leaf shape place))

  -- an entry has the worked-out numbers of its shape at its width
  unfoldable pub agrees : (shape place : ℕ) → Bool
  agrees shape place = size shape place && alignment shape place && step shape place

  -- each entry has
  unfoldable pub all_agree : Bool
  all_agree = all (λ shape. all (agrees shape) 4) 13

  pub entry_worked : T all_agree → (shape place : ℕ) → shape < 13 → place < 4 → entry_in numbers shape place ≡ worked_out (leaf shape place)
  unfolding agrees all_agree entry_in
  entry_worked t s p hs hp =
      let this = holds (agrees s) 4 (holds (λ shape. all (agrees shape) 4) 13 t s hs) p hp in
      let two = and_left (size s p && alignment s p) (step s p) this in
      rw (
        eqb→eq (get_or numbers ((s * 4 + p) * 3) 0) (leaf_size (leaf s p)) (and_left (size s p) (alignment s p) two),
        eqb→eq (get_or numbers ((s * 4 + p) * 3 + 1) 0) (leaf_factor (leaf s p) * leaf_width (leaf s p)) (and_right (size s p) (alignment s p) two),
        eqb→eq (get_or numbers ((s * 4 + p) * 3 + 2) 0) (leaf_column_step (leaf s p)) (and_right (size s p && alignment s p) (step s p) this),
      ) refl
