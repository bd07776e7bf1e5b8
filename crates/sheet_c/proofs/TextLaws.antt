-- Dimensions one after the other.
-- Assumes nothing.
use mathlib.Core.Path.{◌≡◌, sym, ap, ◌∙◌}
use mathlib.Core.Bool.{Bool}
use mathlib.Core.List.{List, [], ◌∷◌, ◌++◌, append_assoc, append-nil}
use Prim.Native.Nat.{ℕ}
use Rattle.std.specs.Prelude.{Option}
use Rattle.sheet_c.specs.Text.{dimension_text, dimensions_text}

pub dimensions_more : (alone : Bool) (ns : List (Option ℕ)) (n : Option ℕ)
    → dimensions_text alone (ns ++ (n ∷ [])) ≡ dimensions_text alone ns ++ dimension_text alone n
dimensions_more alone [] n = append-nil (dimension_text alone n)
dimensions_more alone (x ∷ ns) n =
    let first = dimension_text alone x in
    ap (λ (l : List ℕ). first ++ l) (dimensions_more alone ns n) ∙ sym (append_assoc first (dimensions_text alone ns) (dimension_text alone n))
