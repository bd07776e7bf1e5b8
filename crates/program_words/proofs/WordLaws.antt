-- Runs of bytes, step by step, and the first word of a text by its runs.
-- Assumes nothing.
use mathlib.Core.Path.{◌≡◌, refl, sym, ◌∙◌}
use mathlib.Core.Bool.{Bool, true, false, not, cond}
use mathlib.Core.List.{List, [], ◌∷◌}
use Prim.Native.Nat.{ℕ, suc, ◌+◌, ◌-◌, ◌≤◌, ◌<◌}
use native.Mathlib.Omega.{arith}
use lib.ListN.{length, take, drop, length-drop}
use lib.Dec.{ltb}
use lib.Seq.{drop-drop}
use borrow.Author.Tests.{ltb-false}
use Rattle.std.specs.Prelude.{None, Some}
use Rattle.std.specs.List.{position, position_or_len}
use Rattle.std.specs.Option.{unwrap_or}
use Rattle.program_words.specs.Words.{is_blank, in_word, run_of, pieces, non_empty, words, part}

-- a run is what stands before the first byte that fails the test
module _ (p : ℕ → Bool) where
  abbrev fails : ℕ → Bool
  fails b = not (p b)

  run_is : (s : List ℕ) → run_of p s ≡ position_or_len fails s
  unfolding run_of
  run_is [] = refl
  run_is (b ∷ s) = by (p b) refl (run_is s)
    where
      by : (t : Bool) → p b ≡ t → run_of p s ≡ position_or_len fails s → run_of p (b ∷ s) ≡ position_or_len fails (b ∷ s)
      by true e ih = rw e (omega (arith, ih))
      by false e ih = rw e refl

  run_within : (s : List ℕ) → run_of p s ≤ length s
  unfolding run_of
  run_within [] = omega arith
  run_within (b ∷ s) = by (p b) refl (run_within s)
    where
      by : (t : Bool) → p b ≡ t → run_of p s ≤ length s → run_of p (b ∷ s) ≤ length (b ∷ s)
      by true e ih = rw e (omega (arith, ih))
      by false e ih = rw e (omega arith)

  pub run_found : (s : List ℕ) → unwrap_or (position fails s) (length s) ≡ run_of p s
  run_found s = by (ltb (position_or_len fails s) (length s)) refl
    where
      by : (t : Bool) → ltb (position_or_len fails s) (length s) ≡ t → unwrap_or (cond t (Some (position_or_len fails s)) None) (length s) ≡ run_of p s
      by true e = sym (run_is s)
      by false e = omega (arith, run_is s, run_within s, ltb-false (position_or_len fails s) (length s) e)

-- ---- the first of the pieces, and the others
abbrev rest : List (List ℕ) → List (List ℕ)
rest [] = []
rest (w ∷ ws) = ws

abbrev run : List ℕ → ℕ
run s = run_of in_word s

first_piece : (s : List ℕ) → pieces s ≡ take (run s) s ∷ rest (pieces s)
unfolding pieces run_of
first_piece [] = refl
first_piece (b ∷ s) = by (is_blank b) refl (first_piece s)
  where
    by : (t : Bool) → is_blank b ≡ t → pieces s ≡ take (run s) s ∷ rest (pieces s)
        → pieces (b ∷ s) ≡ take (run (b ∷ s)) (b ∷ s) ∷ rest (pieces (b ∷ s))
    by true e ih = rw e
    by false e ih = rw (e, ih)

other_pieces : (s : List ℕ) → non_empty (rest (pieces s)) ≡ words (drop (run s) s)
unfolding pieces words run_of
other_pieces [] = refl
other_pieces (b ∷ s) = by (is_blank b) refl (other_pieces s)
  where
    by : (t : Bool) → is_blank b ≡ t → non_empty (rest (pieces s)) ≡ words (drop (run s) s)
        → non_empty (rest (pieces (b ∷ s))) ≡ words (drop (run (b ∷ s)) (b ∷ s))
    by true e ih = rw e (rw e refl)
    by false e ih = rw (e, first_piece s) ih

-- ---- words
abbrev blanks : List ℕ → ℕ
blanks s = run_of is_blank s

-- t begins with a word, and the words of u are those of t
abbrev Begins : List ℕ → List ℕ → Type 0
Begins u t = (0 < run t) × (words u ≡ take (run t) t ∷ words (drop (run t) t))

module _ (b : ℕ) (u : List ℕ) where
  begins : is_blank b ≡ false → Begins (b ∷ u) (b ∷ u)
  unfolding pieces words run_of
  begins e = rw e (omega arith, rw (first_piece u, ← other_pieces u) refl)

  blanks_none : is_blank b ≡ false → blanks (b ∷ u) ≡ 0
  unfolding run_of
  blanks_none e = rw e

  blanks_more : is_blank b ≡ true → blanks (b ∷ u) ≡ suc (blanks u)
  unfolding run_of
  blanks_more e = rw e

  words_blank : is_blank b ≡ true → words (b ∷ u) ≡ words u
  unfolding pieces words
  words_blank e = rw e

word_first : (u : List ℕ) → blanks u < length u → Begins u (drop (blanks u) u)
word_first [] h = absurd (omega arith)
word_first (b ∷ u) h = by (is_blank b) refl (word_first u)
  where
    by : (t : Bool) → is_blank b ≡ t → (blanks u < length u → Begins u (drop (blanks u) u)) → Begins (b ∷ u) (drop (blanks (b ∷ u)) (b ∷ u))
    by true e ih = rw (blanks_more b u e, words_blank b u e) (ih (omega (arith, blanks_more b u e)))
    by false e ih = rw (blanks_none b u e) (begins b u e)

word_none : (u : List ℕ) → length u ≤ blanks u → words u ≡ []
unfolding pieces words
word_none [] h = refl
word_none (b ∷ u) h = by (is_blank b) refl (word_none u)
  where
    by : (t : Bool) → is_blank b ≡ t → (length u ≤ blanks u → words u ≡ []) → words (b ∷ u) ≡ []
    by true e ih = words_blank b u e ∙ ih (omega (arith, blanks_more b u e))
    by false e ih = absurd (omega (arith, blanks_none b u e))

-- ---- in a text, from `at` on
module _ (s : List ℕ) (at start : ℕ) (skipped : start ≡ at + blanks (drop at s)) where
  pub word_at_end : length s ≤ start → words (drop at s) ≡ []
  word_at_end h = word_none (drop at s) (rw length-drop (omega arith))

  from : drop (blanks (drop at s)) (drop at s) ≡ drop start s
  from = rw (skipped, drop-drop)

  pub word_found : (end : ℕ) → start < length s → end ≡ start + run (drop start s)
      → (start < end) × (words (drop at s) ≡ part s start end ∷ words (drop end s))
  word_found end h e =
      let b = rw from at (word_first (drop at s) (rw length-drop (omega arith))) in
      let n : end - start ≡ run (drop start s) = omega arith in
      (omega arith, rw n (b.1 ∙ rw (e, ← drop-drop (run (drop start s)) start s) refl))
