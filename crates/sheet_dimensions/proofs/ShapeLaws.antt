-- Dimensions one after the other, and the shape of what is inside the arrays that were passed.
-- Assumes nothing.
use mathlib.Core.Path.{◌≡◌, refl, sym, ap, ◌∙◌}
use mathlib.Core.Bool.{true, false}
use mathlib.Core.List.{List, [], ◌∷◌, ◌++◌, append_assoc}
use Prim.Native.Nat.{ℕ, suc, ◌+◌, ◌-◌, ◌≤◌, ◌<◌}
use native.Mathlib.Omega.{arith}
use lib.Dec.{eqb}
use lib.ListN.{length-append}
use Rattle.std.specs.Prelude.{Option, None, Some, MatchOption}
use Rattle.ir_records.specs.Record.{type_word, type_inner, array_kind}
use Rattle.ir_rows.specs.Rows.{row_word}
use Rattle.sheet_dimensions.specs.declared.Extents.{Extents}
use Rattle.sheet_dimensions.specs.declared.Within.{Within}
use Rattle.sheet_dimensions.specs.Shapes.{Shape, onto, base_shape, array_extents, shape_in}
use Rattle.sheet_dimensions.specs.Extents.{in_use, Extends, Grows}

-- ---- more dimensions
pub extends_both : {a b c : Extents} {xs ys : List (Option ℕ)} → Extends a xs b → Extends b ys c → Extends a (xs ++ ys) c
extends_both {a} {b} {c} {xs} {ys} p q =
    record {
      shows = q.shows ∙ (ap (λ (l : List (Option ℕ)). l ++ ys) p.shows ∙ append_assoc (in_use a) xs ys);
      counts = omega (arith, p.counts, q.counts, length-append xs ys);
      room = q.room ∙ p.room;
    }

-- two dimensions more, where both have a number
pub grows_twice : (was first : Within) (n m : Option ℕ) (more : Option (List (Option ℕ))) (result : Option Within)
    → (first.t ≡ was.t) × (first.step ≡ was.step) × Extends was.extents (n ∷ []) first.extents
    → MatchOption result ⊥ (λ w. (w.t ≡ first.t) × (w.step ≡ first.step) × Extends first.extents (m ∷ []) w.extents)
    → more ≡ Some (n ∷ m ∷ []) → Grows was more result
grows_twice was first n m more None p q e = absurd q
grows_twice was first n m more (Some w) p q e = (n ∷ m ∷ [], e, q.0 ∙ p.0, extends_both p.2 q.2)

-- ---- the shape of a type
one_more : (n k : ℕ) → k < n → n - k ≡ suc (n - (k + 1))
one_more n k h = omega arith

pub onto_none : (s : Option Shape) → onto [] s ≡ s
onto_none None = refl
onto_none (Some s) = refl

pub onto_both : (xs ys : List (Option ℕ)) (s : Option Shape) → onto xs (onto ys s) ≡ onto (xs ++ ys) s
onto_both xs ys None = refl
onto_both xs ys (Some s) = ap (λ (l : List (Option ℕ)). Some (record { extents = l; inside = s.inside })) (sym (append_assoc xs ys s.extents))

module _ (types rows : List ℕ) (most k : ℕ) (outer : List (Option ℕ)) (step : Option ℕ) (i : ℕ) where
  -- what is left of the type gives what the whole gives
  abbrev pub left : Option Shape
  left = onto outer (shape_in types rows (most - k) step i)

  pub shape_base : k < most → eqb (type_word types i 0) array_kind ≡ false
      → left ≡ onto outer (base_shape step i (row_word rows i 0) (type_inner types i))
  unfolding shape_in
  shape_base h e = rw (one_more most k h, e)

  pub shape_none : most ≤ k → left ≡ None
  unfolding shape_in
  shape_none h = let none : most - k ≡ 0 = omega arith in rw none

  pub shape_uneven : k < most → eqb (type_word types i 0) array_kind ≡ true
      → array_extents step (type_inner types i) (type_word types i 4) ≡ None → left ≡ None
  unfolding shape_in
  shape_uneven h e n = rw (one_more most k h, e, n)

  pub shape_array : (ns : List (Option ℕ)) → k < most → eqb (type_word types i 0) array_kind ≡ true
      → array_extents step (type_inner types i) (type_word types i 4) ≡ Some ns
      → onto (outer ++ ns) (shape_in types rows (most - (k + 1)) (Some (type_word types i 4)) (type_word types i 1)) ≡ left
  unfolding shape_in
  shape_array ns h e n = rw (one_more most k h, e, n) (sym (onto_both outer ns _))
