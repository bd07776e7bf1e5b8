-- The walk over instructions: what is left gives what the whole gives.
-- Assumes nothing.
use Rattle.std.proofs.Common.{◌≡◌, ℕ, suc, ◌-◌, ◌<◌, ◌≤◌, List, length, ap, ◌∙◌, arith, le-ltb, lt-ltb}
use Rattle.sheet_places.specs.Places.{after_instruction, place_from}

above_zero : (n : ℕ) → 0 < n → n ≡ suc (n - 1)
above_zero n h = omega arith

module _ (ws : List ℕ) (at : ℕ) where
  next : (left : ℕ) → at < length ws → place_from ws (suc left) at ≡ place_from ws left (after_instruction ws at)
  unfolding place_from
  next left h = rw (lt-ltb at (length ws) h)

  past : (left : ℕ) → length ws ≤ at → place_from ws (suc left) at ≡ at
  unfolding place_from
  past left h = rw (le-ltb at (length ws) h)

  pub place_next : (left : ℕ) → 0 < left → at < length ws → place_from ws left at ≡ place_from ws (left - 1) (after_instruction ws at)
  place_next left some h = ap (λ (n : ℕ). place_from ws n at) (above_zero left some) ∙ next (left - 1) h

  pub place_past : (left : ℕ) → 0 < left → length ws ≤ at → place_from ws left at ≡ at
  place_past left some h = ap (λ (n : ℕ). place_from ws n at) (above_zero left some) ∙ past (left - 1) h

  pub place_here : (left : ℕ) → left ≤ 0 → place_from ws left at ≡ at
  unfolding place_from
  place_here left h = let none : left ≡ 0 = omega arith in rw none
