-- Searches through the instructions between two places: a bound that is large enough makes no difference, one step of a search, and the
-- instructions before a place split at one of them.
-- Assumes nothing.
use mathlib.Core.Path.{◌≡◌, refl, sym, ap, ◌∙◌}
use mathlib.Core.Bool.{Bool, true, false, not, ◌&&◌}
use mathlib.Core.List.{List, [], ◌∷◌}
use mathlib.Core.Logic.{◌⊎◌, inl, inr}
use Prim.Native.Nat.{ℕ, zero, suc, ◌+◌, ◌-◌, ◌≤◌, ◌<◌}
use native.Mathlib.Omega.{arith}
use lib.Dec.{eqb, ltb}
use borrow.Author.Tests.{lt-ltb, le-ltb, ltb-true, ne_eqb, eqb-true, eqb-false}
use Rattle.std.proofs.lemmas.Option.{none-some, same_Some}
use Rattle.std.proofs.lemmas.Bool.{and_parts, true≢false}
use Rattle.ir_records.specs.Result.{pick}
use Rattle.std.specs.Prelude.{Option, None, Some}
use Rattle.std.specs.Option.{is_some, option_map}
use Rattle.std.specs.List as list
use Rattle.spirv_words.specs.Module.{word_count, header_words, starts, between, before, first, find, found, only}

pub found_none : (n : ℕ) → None ≡ found n → n ≡ 0
found_none n e = by (eqb n 0) refl
  where
    by : (b : Bool) → eqb n 0 ≡ b → n ≡ 0
    by true t = eqb-true n 0 t
    by false t = absurd (none-some n (rw t at e))

pub found_some : (n q : ℕ) → Some q ≡ found n → (n ≡ q) × (0 < q)
found_some n q e = by (eqb n 0) refl
  where
    by : (b : Bool) → eqb n 0 ≡ b → (n ≡ q) × (0 < q)
    by true t = absurd (none-some q (sym (rw t at e)))
    by false t =
        let is : n ≡ q = sym (same_Some q n (rw t at e)) in
        (is, omega (arith, eqb-false n 0 t, is))

pub found_not : (n : ℕ) (r : Bool) → is_some (found n) ≡ not r → r ≡ eqb n 0
found_not n r e = by r (eqb n 0) refl e
  where
    by : (r b : Bool) → eqb n 0 ≡ b → is_some (found n) ≡ not r → r ≡ eqb n 0
    by true true t e = sym t
    by false false t e = sym t
    by true false t e = absurd (true≢false (rw t at e))
    by false true t e = absurd (true≢false (sym (rw t at e)))

pub found_is : (n : ℕ) → is_some (found n) ≡ ltb 0 n
found_is n = by (eqb n 0) refl
  where
    by : (b : Bool) → eqb n 0 ≡ b → is_some (found n) ≡ ltb 0 n
    by true t = rw (eqb-true n 0 t) refl
    by false t = let more : 0 < n = omega (arith, eqb-false n 0 t) in rw (t, lt-ltb 0 n more) refl

-- what std's search finds
pub same_place : (r : Option ℕ) → option_map (λ (p : ℕ). p) r ≡ r
same_place None = refl
same_place (Some p) = refl

pub same_find : (test : ℕ → Bool) (ps : List ℕ) → list.find test ps ≡ find test ps
unfolding find
same_find test [] = refl
same_find test (p ∷ ps) = by (test p) refl (same_find test ps)
  where
    by : (b : Bool) → test p ≡ b → list.find test ps ≡ find test ps → list.find test (p ∷ ps) ≡ find test (p ∷ ps)
    by true e rest = rw e refl
    by false e rest = rw e rest

module _ (ws : List ℕ) (end : ℕ) where
  -- two bounds that are large enough
  starts_any : (l m at : ℕ) → end ≤ at + l → end ≤ at + m → starts ws l at end ≡ starts ws m at end
  unfolding starts
  starts_any zero zero at h k = refl
  starts_any zero (suc m) at h k = rw (le-ltb at end (omega (arith, h)))
  starts_any (suc l) zero at h k = rw (le-ltb at end (omega (arith, k)))
  starts_any (suc l) (suc m) at h k =
      by (ltb at end && ltb 0 (word_count ws at)) refl (λ p. starts_any l m (at + word_count ws at) (omega (arith, h, p)) (omega (arith, k, p)))
    where
      by : (b : Bool) → (ltb at end && ltb 0 (word_count ws at)) ≡ b
          → (0 < word_count ws at → starts ws l (at + word_count ws at) end ≡ starts ws m (at + word_count ws at) end)
          → starts ws (suc l) at end ≡ starts ws (suc m) at end
      by true e rest = rw (e, rest (ltb-true 0 (word_count ws at) (and_parts (ltb at end) _ e).1))
      by false e rest = rw e

  -- one instruction on
  pub between_next : (p : ℕ) → p < end → 0 < word_count ws p → between ws p end ≡ p ∷ between ws (p + word_count ws p) end
  unfolding starts
  between_next p h k =
      let more : end - p ≡ suc (end - (p + 1)) = omega (arith, h) in
      rw (more, lt-ltb p end h, lt-ltb 0 (word_count ws p) k)
      (ap (λ rest. p ∷ rest) (starts_any (end - (p + 1)) (end - (p + word_count ws p)) (p + word_count ws p) (omega (arith, h, k)) (omega (arith, h, k))))

  -- none from the end on, and none after a word count 0
  pub between_end : (p : ℕ) → end ≤ p → between ws p end ≡ []
  unfolding starts
  between_end p h = starts_any (end - p) 0 p (omega arith) (omega (arith, h))

  pub between_stuck : (p : ℕ) → word_count ws p ≡ 0 → between ws p end ≡ []
  unfolding starts
  between_stuck p e = by (end - p) refl
    where
      by : (n : ℕ) → end - p ≡ n → starts ws (end - p) p end ≡ []
      by zero z = rw z
      by (suc n) z = stop (ltb p end) refl
        where
          stop : (b : Bool) → ltb p end ≡ b → starts ws (end - p) p end ≡ []
          stop true f = rw (z, f, e)
          stop false f = rw (z, f)

  module _ (test : ℕ → Bool) (p : ℕ) where
    pub search_on : p < end → 0 < word_count ws p → test p ≡ false
        → first test (between ws p end) ≡ first test (between ws (p + word_count ws p) end)
    unfolding first
    search_on h k e = rw (between_next p h k, e)

    pub search_end : end ≤ p → first test (between ws p end) ≡ 0
    unfolding first
    search_end h = rw (between_end p h)

  -- after the first word of the words, 0 is no place
  pub find_found : (test : ℕ → Bool) (l p : ℕ) → 0 < p → find test (starts ws l p end) ≡ found (first test (starts ws l p end))
  unfolding starts first find
  find_found test zero p h = refl
  find_found test (suc l) p h = by (ltb p end && ltb 0 (word_count ws p)) refl (find_found test l (p + word_count ws p) (omega (arith, h)))
    where
      by : (b : Bool) → (ltb p end && ltb 0 (word_count ws p)) ≡ b
          → find test (starts ws l (p + word_count ws p) end) ≡ found (first test (starts ws l (p + word_count ws p) end))
          → find test (starts ws (suc l) p end) ≡ found (first test (starts ws (suc l) p end))
      by false k rest = rw k
      by true k rest = hit (test p) refl
        where
          hit : (t : Bool) → test p ≡ t → find test (starts ws (suc l) p end) ≡ found (first test (starts ws (suc l) p end))
          hit true t = simp (k, t, ne_eqb p 0 (λ e. omega (arith, h, e)))
          hit false t = rw (k, t) rest

  -- so what is found, or not, is so of the number
  module _ (test : ℕ → Bool) (p : ℕ) (h : 0 < p) where
    pub find_none : None ≡ find test (between ws p end) → first test (between ws p end) ≡ 0
    find_none e = found_none _ (e ∙ find_found test (end - p) p h)

    pub find_some : (q : ℕ) → Some q ≡ find test (between ws p end) → (first test (between ws p end) ≡ q) × (0 < q)
    find_some q e = found_some _ q (e ∙ find_found test (end - p) p h)

  -- the only one that passes, by two searches: from p on, and behind what the first finds
  module _ (test : ℕ → Bool) where
    pub only_none : (l p : ℕ) → first test (starts ws l p end) ≡ 0 → 0 < p → only test (starts ws l p end) ≡ 0
    unfolding starts first only
    only_none zero p e h = refl
    only_none (suc l) p e h = by (ltb p end && ltb 0 (word_count ws p)) refl (λ g. only_none l (p + word_count ws p) g (omega (arith, h)))
      where
        by : (b : Bool) → (ltb p end && ltb 0 (word_count ws p)) ≡ b
            → (first test (starts ws l (p + word_count ws p) end) ≡ 0 → only test (starts ws l (p + word_count ws p) end) ≡ 0)
            → only test (starts ws (suc l) p end) ≡ 0
        by false k rest = rw k
        by true k rest = hit (test p) refl
          where
            hit : (t : Bool) → test p ≡ t → only test (starts ws (suc l) p end) ≡ 0
            hit true t = absurd (omega (arith, h, rw (k, t) at e))
            hit false t = rw (k, t) (rest (rw (k, t) at e))

    pub only_found : (l p q : ℕ) → end ≤ p + l → first test (starts ws l p end) ≡ q → 0 < q
        → only test (starts ws l p end) ≡ pick (eqb (first test (between ws (q + word_count ws q) end)) 0) q 0
    unfolding starts first only
    only_found zero p q f e h = absurd (omega (arith, h, e))
    only_found (suc l) p q f e h =
        by (ltb p end && ltb 0 (word_count ws p)) refl (λ w g. only_found l (p + word_count ws p) q (omega (arith, f, w)) g h)
      where
        by : (b : Bool) → (ltb p end && ltb 0 (word_count ws p)) ≡ b
            → (0 < word_count ws p → first test (starts ws l (p + word_count ws p) end) ≡ q
            → only test (starts ws l (p + word_count ws p) end) ≡ pick (eqb (first test (between ws (q + word_count ws q) end)) 0) q 0)
            → only test (starts ws (suc l) p end) ≡ pick (eqb (first test (between ws (q + word_count ws q) end)) 0) q 0
        by false k rest = absurd (omega (arith, h, rw k at e))
        by true k rest =
            let w = ltb-true 0 (word_count ws p) (and_parts (ltb p end) _ k).1 in
            hit w (test p) refl
          where
            hit : 0 < word_count ws p → (t : Bool) → test p ≡ t
                → only test (starts ws (suc l) p end) ≡ pick (eqb (first test (between ws (q + word_count ws q) end)) 0) q 0
            hit w true t =
                rw (k, t, starts_any l (end - (p + word_count ws p)) (p + word_count ws p) (omega (arith, f, w)) (omega arith))
                (ap (λ (x : ℕ). pick (eqb (first test (between ws (x + word_count ws x) end)) 0) x 0) (rw (k, t) at e))
            hit w false t = rw (k, t) (rest w (rw (k, t) at e))

    -- by two searches, as options
    pub only_missing : None ≡ find test (before ws end) → only test (before ws end) ≡ 0
    only_missing e = only_none (end - header_words) header_words (find_none test header_words (omega arith) e) (omega arith)

    pub only_one : (q : ℕ) → Some q ≡ find test (before ws end)
        → found (only test (before ws end)) ≡ pick (is_some (find test (between ws (q + word_count ws q) end))) None (Some q)
    only_one q e = by (eqb (first test (between ws (q + word_count ws q) end)) 0) refl
      where
        f : (first test (before ws end) ≡ q) × (0 < q)
        f = find_some test header_words (omega arith) q e

        next : find test (between ws (q + word_count ws q) end) ≡ found (first test (between ws (q + word_count ws q) end))
        next = find_found test (end - (q + word_count ws q)) (q + word_count ws q) (omega (arith, f.1))

        some : eqb q 0 ≡ false
        some = ne_eqb q 0 (λ z. omega (arith, f.1, z))

        whole : only test (before ws end) ≡ pick (eqb (first test (between ws (q + word_count ws q) end)) 0) q 0
        whole = only_found (end - header_words) header_words q (omega arith) f.0 f.1

        by : (b : Bool) → eqb (first test (between ws (q + word_count ws q) end)) 0 ≡ b
            → found (only test (before ws end)) ≡ pick (is_some (find test (between ws (q + word_count ws q) end))) None (Some q)
        by true t = rw (whole, next, t, some) refl
        by false t = rw (whole, next, t) refl

    -- what is found stands before the end, from p on, and passes
    pub found_below : (l p : ℕ) → 0 < first test (starts ws l p end)
        → (first test (starts ws l p end) < end) × (p ≤ first test (starts ws l p end)) × (test (first test (starts ws l p end)) ≡ true)
    unfolding starts first
    found_below zero p h = absurd (omega (arith, h))
    found_below (suc l) p h = by (ltb p end && ltb 0 (word_count ws p)) refl (found_below l (p + word_count ws p))
      where
        by : (b : Bool) → (ltb p end && ltb 0 (word_count ws p)) ≡ b
            → (0 < first test (starts ws l (p + word_count ws p) end)
            → (first test (starts ws l (p + word_count ws p) end) < end) × (p + word_count ws p ≤ first test (starts ws l (p + word_count ws p) end))
            × (test (first test (starts ws l (p + word_count ws p) end)) ≡ true))
            → (first test (starts ws (suc l) p end) < end) × (p ≤ first test (starts ws (suc l) p end)) × (test (first test (starts ws (suc l) p end)) ≡ true)
        by false k rest = absurd (omega (arith, rw k at h))
        by true k rest = hit (test p) refl
          where
            hit : (t : Bool) → test p ≡ t
                → (first test (starts ws (suc l) p end) < end) × (p ≤ first test (starts ws (suc l) p end)) × (test (first test (starts ws (suc l) p end)) ≡ true)
            hit true t = rw (k, t) (ltb-true p end (and_parts (ltb p end) _ k).0, omega arith, t)
            hit false t =
                let r = rest (rw (k, t) at h) in
                rw (k, t) (r.0, omega (arith, r.1), r.2)

-- the only one is the first, or there is none
only_first : (test : ℕ → Bool) (ps : List ℕ) → (only test ps ≡ 0) ⊎ (only test ps ≡ first test ps)
unfolding first only
only_first test [] = inl refl
only_first test (p ∷ ps) = by (test p) refl (only_first test ps)
  where
    by : (b : Bool) → test p ≡ b → (only test ps ≡ 0) ⊎ (only test ps ≡ first test ps)
        → (only test (p ∷ ps) ≡ 0) ⊎ (only test (p ∷ ps) ≡ first test (p ∷ ps))
    by false e rest = rw e rest
    by true e rest = again (eqb (first test ps) 0) refl
      where
        again : (b : Bool) → eqb (first test ps) 0 ≡ b → (only test (p ∷ ps) ≡ 0) ⊎ (only test (p ∷ ps) ≡ first test (p ∷ ps))
        again true f = inr (rw (e, f) refl)
        again false f = inl (rw (e, f) refl)
