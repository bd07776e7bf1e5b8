-- Where the types of a module stand: the k-th that is read at place k.
-- Assumes nothing.
use Rattle.std.proofs.Common.{◌≡◌, refl, sym, ◌∙◌, ℕ, suc, ◌+◌, ◌-◌, ◌≤◌, ◌<◌, Bool, true, false, ◌&&◌, List, [], ◌∷◌, length, get_or, set}
use Rattle.std.proofs.Common.{slice_get, ltb, Option, None, Some, arith, length-set, get_or-set_other, get_or-set_same, lt-ltb, ltb-true}
use Rattle.std.proofs.Common.{true≢false, replicate, not-suc-le-zero}
use Rattle.std.proofs.lemmas.List.{get_or-replicate}
use lib.ListN.{length-replicate}
use native.Mathlib.Decide.{dec_le, ℕ_discrete}
use Rattle.std.specs.List.{filter}
use Rattle.spirv_words.specs.Module.{opcode, is_read}

halves : (a b : Bool) → (a && b) ≡ true → (a ≡ true) × (b ≡ true)
halves true b e = (refl, e)
halves false b e = absurd (true≢false (sym e))

module _ (ws : List ℕ) (all : List ℕ) where
  abbrev pub reads : List ℕ → List ℕ
  reads ats = filter (λ at. is_read (opcode ws at)) ats

  -- i places are put down, and these instructions are left
  pub record Placing (i : ℕ) (places : List (Option ℕ)) (left : List ℕ) : Type 0 where
    pub long : length places ≡ 1024
    pub done : (k : ℕ) → k < i → k < 1024 → get_or places k None ≡ slice_get all k
    pub free : (k : ℕ) → i ≤ k → k < 1024 → get_or places k None ≡ None
    pub same : (k : ℕ) → i ≤ k → k < 1024 → slice_get (reads left) (k - i) ≡ slice_get all k

  pub placing_starts : (n : ℕ) (places : List (Option ℕ)) (left : List ℕ) → n ≡ 1024 → places ≡ replicate n None → reads left ≡ all → Placing 0 places left
  placing_starts n places left size e whole =
      record {
        long = rw e (length-replicate n None ∙ size);
        done = λ k h l. absurd (not-suc-le-zero h);
        free = λ k h l. rw e (get_or-replicate n k None None (rw size l));
        same = λ k h l. let z : k - 0 ≡ k = omega arith in rw (z, whole) refl;
      }

  pub placing_reads : (i : ℕ) (places : List (Option ℕ)) (at : ℕ) (left : List ℕ) → (is_read (opcode ws at) && ltb i 1024) ≡ true
      → Placing i places (at ∷ left) → Placing (i + 1) (set places i (Some at)) left
  placing_reads i places at left test p =
      record {
        long = simp length-set (p.long);
        done = λ k h l. before k h l (ℕ_discrete k i);
        free = λ k h l. get_or-set_other places i k (Some at) None (omega (arith, h)) ∙ p.free k (omega (arith, h)) l;
        same = λ k h l. sym (next k h) ∙ p.same k (omega (arith, h)) l;
      }
    where
      read : is_read (opcode ws at) ≡ true
      read = (halves (is_read (opcode ws at)) (ltb i 1024) test).0

      few : i < 1024
      few = ltb-true i 1024 ((halves (is_read (opcode ws at)) (ltb i 1024) test).1)

      here : slice_get all i ≡ Some at
      here = let z : i - i ≡ 0 = omega arith in sym (p.same i (omega arith) few) ∙ rw (z, read) refl

      before : (k : ℕ) → k < i + 1 → k < 1024 → Dec (k ≡ i) → get_or (set places i (Some at)) k None ≡ slice_get all k
      before k h l (yes e) = rw (e, here) (get_or-set_same places i (Some at) None (omega (arith, p.long, few)))
      before k h l (no e) = get_or-set_other places i k (Some at) None (omega (arith, e)) ∙ p.done k (omega (arith, e, h)) l

      next : (k : ℕ) → i + 1 ≤ k → slice_get (reads (at ∷ left)) (k - i) ≡ slice_get (reads left) (k - (i + 1))
      next k h = let z : k - i ≡ suc (k - (i + 1)) = omega (arith, h) in rw (z, read) refl

  -- one that is not read, or for which there is no place
  pub placing_passes : (i : ℕ) (places : List (Option ℕ)) (at : ℕ) (left : List ℕ) → (is_read (opcode ws at) && ltb i 1024) ≡ false
      → Placing i places (at ∷ left) → Placing i places left
  placing_passes i places at left not p =
      record { long = p.long; done = p.done; free = p.free; same = λ k h l. sym (next k h l) ∙ p.same k h l }
    where
      next : (k : ℕ) → i ≤ k → k < 1024 → slice_get (reads (at ∷ left)) (k - i) ≡ slice_get (reads left) (k - i)
      next k h l = go (is_read (opcode ws at)) refl where
        go : (b : Bool) → is_read (opcode ws at) ≡ b → slice_get (reads (at ∷ left)) (k - i) ≡ slice_get (reads left) (k - i)
        go true e = let few = rw (e, lt-ltb i 1024 (omega (arith, h, l))) at not in absurd (true≢false few)
        go false e = rw e refl

  pub placing_ends : (i : ℕ) (places : List (Option ℕ)) → Placing i places [] → (k : ℕ) → k < 1024 → get_or places k None ≡ slice_get all k
  placing_ends i places p k l = go (dec_le i k) where
    go : Dec (i ≤ k) → get_or places k None ≡ slice_get all k
    go (yes h) = p.free k h l ∙ p.same k h l
    go (no h) = p.done k (omega (arith, h)) l
