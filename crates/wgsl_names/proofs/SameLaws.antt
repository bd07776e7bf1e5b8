-- Words that are as long are the same just where they are alike from both ends, up to their middle. Assumes nothing.
use mathlib.Core.Path.{◌≡◌, refl, sym, ap, ◌∙◌}
use mathlib.Core.Bool.{Bool, true, false, true≢false, ◌&&◌}
use mathlib.Core.List.{List}
use mathlib.Core.Logic.{⊎_elim}
use Prim.Native.Nat.{ℕ, ◌-◌, ◌/◌, ◌≤◌, ◌<◌}
use native.Mathlib.Omega.{arith}
use lib.ListN.{length, get_or}
use lib.Pointwise.{pointwise_long, bytes_decides}
use borrow.Author.Tests.{eqb-true, eq-eqb}
use Rattle.std.specs.Prelude.{nat_eq}
use Rattle.std.specs.List.{range_with_len, list_all}
use Rattle.std.proofs.lemmas.Bool.{and_parts, and_from, cases_lt, false_from_ne_true}
use Rattle.std.proofs.lemmas.List.FromFn.{length-range_with_len, get_or-range_with_len}
use Rattle.std.proofs.lemmas.List.Sums.{AllPass-from_list_all, list_all-from_AllPass}
use Rattle.std.proofs.lemmas.Grind.{same_number_lists}
use Rattle.wgsl_names.specs.Names.{same}

module _ (a b : List ℕ) where
  -- at place i from the end, and at place i from the start
  abbrev pub alike : ℕ → Bool
  alike i = nat_eq (get_or a (length a - 1 - i) 0) (get_or b (length a - 1 - i) 0) && nat_eq (get_or a i 0) (get_or b i 0)

  -- the places up to the middle, with the byte in it
  abbrev pub half : ℕ
  half = length a - length a / 2

  equal_alike : a ≡ b → (i : ℕ) → alike i ≡ true
  equal_alike e i =
      and_from _ _
      (eq-eqb (get_or a (length a - 1 - i) 0) (get_or b (length a - 1 - i) 0) (ap (λ (w : List ℕ). get_or w (length a - 1 - i) 0) e))
      (eq-eqb (get_or a i 0) (get_or b i 0) (ap (λ (w : List ℕ). get_or w i 0) e))

  alike_equal : length a ≡ length b → list_all alike (range_with_len 0 half) ≡ true → a ≡ b
  alike_equal long h = same_number_lists a b long (λ k l. ⊎_elim (front k) (back k l) (cases_lt k half))
    where
      each : (i : ℕ) → i < half → (get_or a (length a - 1 - i) 0 ≡ get_or b (length a - 1 - i) 0) × (get_or a i 0 ≡ get_or b i 0)
      each i l =
          let at : get_or (range_with_len 0 half) i 0 ≡ i = omega (arith, get_or-range_with_len 0 half i 0 l) in
          let passed = sym (ap alike at) ∙ AllPass-from_list_all alike (range_with_len 0 half) h i 0 (omega (arith, l, length-range_with_len 0 half)) in
          let p = and_parts (nat_eq (get_or a (length a - 1 - i) 0) (get_or b (length a - 1 - i) 0)) (nat_eq (get_or a i 0) (get_or b i 0)) passed in
          (eqb-true _ _ p.0, eqb-true _ _ p.1)

      front : (k : ℕ) → k < half → get_or a k 0 ≡ get_or b k 0
      front k l = (each k l).1

      back : (k : ℕ) → k < length a → half ≤ k → get_or a k 0 ≡ get_or b k 0
      back k l m =
          let e : length a - 1 - (length a - 1 - k) ≡ k = omega (arith, l) in
          sym (ap (λ (j : ℕ). get_or a j 0) e) ∙ (each (length a - 1 - k) (omega (arith, l, m))).0 ∙ ap (λ (j : ℕ). get_or b j 0) e

  pub from_both_ends : length a ≡ length b → list_all alike (range_with_len 0 half) ≡ same a b
  unfolding same
  from_both_ends long = go (list_all alike (range_with_len 0 half)) refl
    where
      go : (t : Bool) → list_all alike (range_with_len 0 half) ≡ t → t ≡ same a b
      go true h = sym ((bytes_decides a b).1 (alike_equal long h))
      go false h = sym (false_from_ne_true (same a b) (λ s. absurd (true≢false (sym (list_all-from_AllPass alike _ (λ k d l. equal_alike ((bytes_decides a b).0 s) _)) ∙ h))))

  pub other_length : (length a ≡ length b → ⊥) → same a b ≡ false
  unfolding same
  other_length other = false_from_ne_true (same a b) (λ s. other (pointwise_long nat_eq a b s))
