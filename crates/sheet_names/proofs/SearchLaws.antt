-- What a search over a range of numbers finds.
-- Assumes nothing.
use Rattle.std.proofs.Common.{◌≡◌, refl, sym, ◌∙◌, ℕ, zero, suc, ◌+◌, ◌-◌, ◌<◌, ◌≤◌, Bool, true, false, cond, Option, None, Some, option_map, arith}
use native.Mathlib.Decide.{ℕ_discrete}
use Rattle.std.proofs.lemmas.Iterator.Adapters.{option_map_id}
use Rattle.std.specs.List.{find, range_with_len}
use Rattle.sheet_names.specs.Search.{first_between}

pub found_between : (test : ℕ → Bool) (start end : ℕ) (r : Option ℕ)
    → option_map (λ x. x) r ≡ find test (range_with_len start (end - start)) → r ≡ first_between test start end
unfolding first_between
found_between test start end r e = sym (option_map_id r) ∙ e

-- what is found passes the test, and none before it does
pub record First (test : ℕ → Bool) (start end m : ℕ) : Type 0 where
  pub passes : test m ≡ true
  pub from : start ≤ m
  pub below : m < end
  pub none : (i : ℕ) → start ≤ i → i < m → test i ≡ false

module _ (test : ℕ → Bool) where
  found : (left k m : ℕ) → find test (range_with_len k left) ≡ Some m → First test k (k + left) m
  found zero k m e = let z : ◌≡◌ {A = ℕ} 0 1 = cc in absurd (omega arith)
  found (suc left) k m e = go (test k) refl e (found left (k + 1) m) where
    go : (b : Bool) → test k ≡ b → cond b (Some k) (find test (range_with_len (k + 1) left)) ≡ Some m
        → (find test (range_with_len (k + 1) left) ≡ Some m → First test (k + 1) (k + 1 + left) m) → First test k (k + suc left) m
    go true q d ih =
        let same : k ≡ m = cc in
        record { passes = rw (← same) q; from = omega (arith, same); below = omega (arith, same); none = λ i h l. absurd (omega (arith, same, h, l)) }
    go false q d ih =
        let r = ih d in
        record { passes = r.passes; from = omega (arith, r.from); below = omega (arith, r.below); none = λ i h l. below i h l r (ℕ_discrete i k) }
      where
        below : (i : ℕ) → k ≤ i → i < m → First test (k + 1) (k + 1 + left) m → Dec (i ≡ k) → test i ≡ false
        below i h l r (yes s) = rw s q
        below i h l r (no s) = r.none i (omega (arith, s, h)) l

  none_found : (left k : ℕ) → find test (range_with_len k left) ≡ None → (i : ℕ) → k ≤ i → i < k + left → test i ≡ false
  none_found zero k e i h l = absurd (omega (arith, h, l))
  none_found (suc left) k e i h l = go (test k) refl e (none_found left (k + 1)) where
    go : (b : Bool) → test k ≡ b → cond b (Some k) (find test (range_with_len (k + 1) left)) ≡ None
        → (find test (range_with_len (k + 1) left) ≡ None → (i : ℕ) → k + 1 ≤ i → i < k + 1 + left → test i ≡ false) → test i ≡ false
    go true q d ih = let z : ◌≡◌ {A = ℕ} 0 1 = cc in absurd (omega arith)
    go false q d ih = at (ℕ_discrete i k)
      where
        at : Dec (i ≡ k) → test i ≡ false
        at (yes s) = rw s q
        at (no s) = ih d i (omega (arith, s, h)) (omega (arith, l))

  pub first_is : (start end m : ℕ) → first_between test start end ≡ Some m → First test start end m
  unfolding first_between
  first_is start end m e =
      let r = found (end - start) start m e in
      record { passes = r.passes; from = r.from; below = omega (arith, r.below, r.from); none = r.none }

  pub first_none : (start end : ℕ) → first_between test start end ≡ None → (i : ℕ) → start ≤ i → i < end → test i ≡ false
  unfolding first_between
  first_none start end e i h l = none_found (end - start) start e i h (omega (arith, h, l))
