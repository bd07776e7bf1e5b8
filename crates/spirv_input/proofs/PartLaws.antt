-- Parts of four bytes, one after the other.
-- Assumes nothing.
use mathlib.Core.Path.{◌≡◌, refl, sym, ap, ◌∙◌}
use mathlib.Core.List.{List, ◌++◌}
use Prim.Native.Nat.{ℕ, ◌+◌, ◌*◌, ◌≤◌, ◌<◌}
use native.Mathlib.Nat.{add-zero}
use native.Mathlib.Omega.{arith}
use lib.ListN.{length, get_or, take, drop, length-append, length-drop}
use lib.Seq.{take_at, drop_at, drop-drop, get_or-take, get_or-drop}
use Rattle.spirv_input.specs.Bytes.{word_of}

module _ (c : ℕ) (all rest part more : List ℕ) (within : c * 4 ≤ length all) (from : rest ≡ drop (c * 4) all) (split : rest ≡ part ++ more) (long : length part ≡ 4) where
  both : drop (c * 4) all ≡ part ++ more
  both = sym from ∙ split

  pub more_is : more ≡ drop ((c + 1) * 4) all
  more_is =
      let n : c * 4 + 4 ≡ (c + 1) * 4 = omega arith in
      sym (drop_at part more 4 long) ∙ ap (drop 4) (sym both) ∙ drop-drop 4 (c * 4) all ∙ ap (λ (k : ℕ). drop k all) n

  pub more_within : (c + 1) * 4 ≤ length all
  more_within = omega (arith, length-append part more, long, ap length both, length-drop (c * 4) all)

  part_at : (k : ℕ) → k < 4 → get_or part k 0 ≡ get_or all (c * 4 + k) 0
  part_at k h =
      ap (λ (l : List ℕ). get_or l k 0) (sym (ap (take 4) both ∙ take_at part more 4 long))
      ∙ get_or-take 4 (drop (c * 4) all) k 0 h ∙ get_or-drop (c * 4) all k 0

  pub part_word : word_of part 0 ≡ word_of all c
  part_word = rw (part_at 0 (omega arith), part_at 1 (omega arith), part_at 2 (omega arith), part_at 3 (omega arith), add-zero (c * 4)) refl
