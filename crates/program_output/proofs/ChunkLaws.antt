-- Parts of one length, one after the other.
-- Assumes nothing.
use mathlib.Core.Path.{◌≡◌, sym, ap, ◌∙◌}
use mathlib.Core.List.{List, ◌++◌}
use Prim.Native.Nat.{ℕ, ◌+◌, ◌*◌, ◌≤◌, ◌<◌}
use native.Mathlib.Omega.{arith}
use lib.ListN.{length, get_or, take, drop, length-append, length-drop}
use lib.Seq.{take_at, drop_at, drop-drop, get_or-take, get_or-drop}

module _ (w c : ℕ) (all rest part more : List ℕ) (within : c * w ≤ length all) (from : rest ≡ drop (c * w) all) (split : rest ≡ part ++ more) (long : length part ≡ w) where
  both : drop (c * w) all ≡ part ++ more
  both = sym from ∙ split

  pub part_is : part ≡ take w (drop (c * w) all)
  part_is = sym (ap (take w) both ∙ take_at part more w long)

  pub more_is : more ≡ drop ((c + 1) * w) all
  more_is =
      let n : c * w + w ≡ (c + 1) * w = omega arith in
      sym (drop_at part more w long) ∙ ap (drop w) (sym both) ∙ drop-drop w (c * w) all ∙ ap (λ (k : ℕ). drop k all) n

  pub more_within : (c + 1) * w ≤ length all
  more_within = omega (arith, length-append part more, long, ap length both, length-drop (c * w) all)

  pub part_at : (k : ℕ) → k < w → get_or part k 0 ≡ get_or all (c * w + k) 0
  part_at k h = ap (λ (l : List ℕ). get_or l k 0) part_is ∙ get_or-take w (drop (c * w) all) k 0 h ∙ get_or-drop (c * w) all k 0
