-- The bytes that no line may hold, looked for byte by byte.
-- Assumes nothing.
use mathlib.Core.Path.{◌≡◌, refl, sym, ◌∙◌}
use mathlib.Core.Bool.{true, false}
use mathlib.Core.List.{List}
use Prim.Native.Nat.{ℕ, zero, suc, ◌+◌, ◌≤◌, ◌<◌}
use native.Mathlib.Omega.{arith}
use lib.ListN.{length}
use Rattle.program_words.specs.Stray.{stray_at, or_else, stray_from, stray_in}
use Rattle.program_words.specs.declared.Stray.{Stray}
use Rattle.std.specs.Prelude.{Option, None, Some, MatchOption}
use Rattle.std.specs.Option.{is_some}

module _ (s : List ℕ) where
  abbrev Passed : ℕ → ℕ → Type 0
  Passed from end = (k : ℕ) → from ≤ k → k < end → is_some (stray_at s k) ≡ false

  -- where the first such byte stands, or that there is none
  abbrev pub Found : Option ℕ → Type 0
  Found r = MatchOption r (Passed 0 (length s)) (λ i. (0 ≤ i) × (i < length s) × (is_some (stray_at s i) ≡ true) × Passed 0 i)

  passed : (x rest : Option Stray) → is_some x ≡ false → or_else x rest ≡ rest
  passed None rest e = refl
  passed (Some stray) rest e = cc

  stopped : (x rest : Option Stray) → is_some x ≡ true → or_else x rest ≡ x
  stopped None rest e = cc
  stopped (Some stray) rest e = refl

  none_from : (left i : ℕ) → Passed i (i + left) → stray_from s left i ≡ None
  unfolding stray_from
  none_from zero i h = refl
  none_from (suc left) i h = passed _ _ (h i (omega arith) (omega arith)) ∙ none_from left (suc i) (λ k a b. h k (omega arith) (omega arith))

  some_from : (left i more : ℕ) → more < left → is_some (stray_at s (i + more)) ≡ true → Passed i (i + more) → stray_from s left i ≡ stray_at s (i + more)
  unfolding stray_from
  some_from zero i more l e h = absurd (omega arith)
  some_from (suc left) i zero l e h = let at : i + 0 ≡ i = omega arith in rw at (stopped _ _ (rw at at e))
  some_from (suc left) i (suc more) l e h =
      let at : i + suc more ≡ suc i + more = omega arith in
      rw at (passed _ _ (h i (omega arith) (omega arith)) ∙ some_from left (suc i) more (omega arith) (rw at at e) (λ k a b. h k (omega arith) (omega arith)))

  pub none_found : Found None → None ≡ stray_in s
  none_found h = sym (none_from (length s) 0 (λ k a b. h k a (omega arith)))

  pub first_found : (i : ℕ) → Found (Some i) → stray_at s i ≡ stray_in s
  first_found i h =
      let at : 0 + i ≡ i = omega arith in
      rw at at (sym (some_from (length s) 0 i h.1 (rw at h.2) (λ k a b. h.3 k a (omega arith))))
