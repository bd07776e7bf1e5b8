-- The ends of arrays, from the innermost on.
-- Assumes nothing.
use mathlib.Core.Path.{◌≡◌, sym, ap, ◌∙◌}
use mathlib.Core.List.{List, [], ◌∷◌, ◌++◌, append_assoc, append-nil, map, reverse, reverse-cons}
use Prim.Native.Nat.{ℕ}
use lib.ListN.{length}
use denote.Ref.{Bor}
use Rattle.std.specs.Prelude.{Option, replicate}
use Rattle.sheet_rust.specs.Text.{close_text, closes_text, array_text}

closes_more : (ns : List (Option ℕ)) (n : Option ℕ) → closes_text (ns ++ (n ∷ [])) ≡ closes_text ns ++ close_text n
closes_more [] n = append-nil (close_text n)
closes_more (x ∷ ns) n =
    let close = close_text x in
    ap (λ (l : List ℕ). close ++ l) (closes_more ns n) ∙ sym (append_assoc close (closes_text ns) (close_text n))

abbrev pub extents_of : List (Bor (Option ℕ)) → List (Option ℕ)
extents_of xs = map (λ x. x.now) xs

pub ends_more : (xs : List (Bor (Option ℕ))) (n : Bor (Option ℕ))
    → closes_text (extents_of (xs ++ (n ∷ []))) ≡ closes_text (extents_of xs) ++ close_text (n.now)
ends_more [] n = append-nil (close_text (n.now))
ends_more (x ∷ xs) n =
    let close = close_text (x.now) in
    ap (λ (l : List ℕ). close ++ l) (ends_more xs n) ∙ sym (append_assoc close (closes_text (extents_of xs)) (close_text (n.now)))

-- all starts, what is inside, and all ends
pub array_ends : (ns : List (Option ℕ)) (inside : List ℕ)
    → array_text ns inside ≡ replicate (length ns) 91 ++ inside ++ closes_text (reverse ns)
unfolding array_text
array_ends [] inside = sym (append-nil inside)
array_ends (n ∷ ns) inside =
    let starts = replicate (length ns) 91 in
    let ends = closes_text (reverse ns) in
    let close = close_text n in
    let last : closes_text (reverse (n ∷ ns)) ≡ ends ++ close = ap closes_text (reverse-cons n ns) ∙ closes_more (reverse ns) n in
    let outer = ap (λ (l : List ℕ). 91 ∷ (l ++ close)) (array_ends ns inside) in
    let moved = ap (λ (l : List ℕ). 91 ∷ l) (append_assoc (starts ++ inside) ends close) in
    outer ∙ (moved ∙ sym (ap (λ (l : List ℕ). 91 ∷ (starts ++ inside ++ l)) last))
