-- The slots of one type more.
-- Assumes nothing.
use mathlib.Core.Path.{◌≡◌, sym, ◌∙◌, ap}
use mathlib.Core.List.{List}
use Prim.Native.Nat.{ℕ, ◌+◌, ◌≤◌, ◌<◌}
use native.Mathlib.Decide.{dec_le}
use native.Mathlib.Omega.{arith}
use lib.ListN.{length, get_or, set}
use lib.Seq.{get_or-set_same, get_or-set_other}

module _ {A : Type 0} (f : ℕ → A) (xs : List A) (d x : A) (i : ℕ) (e : x ≡ f i) (before : (j : ℕ) → j < i → j < length xs → get_or xs j d ≡ f j) where
  pub one_more : (j : ℕ) → j < i + 1 → j < length xs → get_or (set xs i x) j d ≡ f j
  one_more j h l = by (dec_le i j)
    where
      by : Dec (i ≤ j) → get_or (set xs i x) j d ≡ f j
      by (yes q) =
          let here : i ≡ j = omega (arith, q, h) in
          ap (λ n. get_or (set xs i x) n d) (sym here) ∙ get_or-set_same xs i x d (omega (arith, here, l)) ∙ e ∙ ap f here
      by (no q) = get_or-set_other xs i j x d (λ same. absurd (omega (arith, same, q))) ∙ before j (omega (arith, q)) l
