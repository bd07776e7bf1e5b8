-- Words that are held after others, and all of an input.
-- Assumes nothing.
use mathlib.Core.Path.{◌≡◌, refl, sym, ◌∙◌, ap}
use mathlib.Core.List.{List, [], ◌∷◌, ◌++◌, append_assoc, append-nil}
use Prim.Native.Nat.{ℕ, zero, suc, ◌+◌, ◌*◌, ◌/◌, ◌<◌, ◌≤◌}
use native.Mathlib.Nat.{add-zero, add-suc}
use native.Mathlib.Omega.{arith}
use lib.ListN.{length, get_or, length-append, get_or-append}
use lib.Seq.{get_or-append-add}
use Rattle.std.specs.Prelude.{Option, Result, Ok, Err, false}
use Rattle.std.proofs.lemmas.Bool.{false≢true}
use Rattle.std.proofs.KnownBytes.{Consumes-nil, Consumes-trans}
use Rattle.spirv_input.specs.Bytes.{word_of, words_in}
use Rattle.from_spirv.specs.declared.InputError.{InputError}
use Rattle.from_spirv.specs.declared.InputError.TheVariants as error
use Rattle.from_spirv.specs.declared.Held.{Held}
use Rattle.from_spirv.specs.Inputs.{words_of, HeldAfter}

-- ---- the words of bytes after others that make m words
module _ (a b : List ℕ) (m : ℕ) (long : length a ≡ m * 4) where
  byte_before : (k : ℕ) → k < m * 4 → get_or (a ++ b) k 0 ≡ get_or a k 0
  byte_before k h = get_or-append a b 0 k (omega (arith, long, h))

  byte_after : (k : ℕ) → get_or (a ++ b) (m * 4 + k) 0 ≡ get_or b k 0
  byte_after k = rw (← long) (get_or-append-add a b k 0)

  words_before : (k : ℕ) → k ≤ m → words_in (a ++ b) k ≡ words_in a k
  unfolding words_in
  words_before zero h = refl
  words_before (suc k) h =
      let same : word_of (a ++ b) k ≡ word_of a k =
      rw (byte_before (k * 4) (omega arith), byte_before (k * 4 + 1) (omega arith))
      (rw (byte_before (k * 4 + 2) (omega arith), byte_before (k * 4 + 3) (omega arith))) in
      rw (words_before k (omega arith), same)

  word_after : (k : ℕ) → word_of (a ++ b) (m + k) ≡ word_of b k
  word_after k =
      let at : (m + k) * 4 ≡ m * 4 + k * 4 = omega arith in
      let next : (i : ℕ) → m * 4 + k * 4 + i ≡ m * 4 + (k * 4 + i) = λ i. omega arith in
      rw (at, byte_after (k * 4), next 1, byte_after (k * 4 + 1), next 2, byte_after (k * 4 + 2), next 3, byte_after (k * 4 + 3))

  words_after : (n : ℕ) → words_in (a ++ b) (m + n) ≡ words_in a m ++ words_in b n
  unfolding words_in
  words_after zero = rw (add-zero m) (words_before m (omega arith) ∙ sym (append-nil (words_in a m)))
  words_after (suc n) = rw (add-suc m n, words_after n, word_after n) (append_assoc (words_in a m) (words_in b n) (word_of b n ∷ []))

  words_both : words_of (a ++ b) ≡ words_of a ++ words_of b
  words_both =
      let all : length (a ++ b) / 4 ≡ m + length b / 4 = omega (arith, length-append a b, long) in
      let few : length a / 4 ≡ m = omega (arith, long) in
      rw (all, few) (words_after (length b / 4))

-- ---- what is held
module _ (left : Option (List ℕ)) where
  pub held_none : (was : List ℕ) → HeldAfter left left 0 was was (Ok (record { count = 0; ended = false }))
  unfolding words_in
  held_none was = ([], (Consumes-nil left, λ e. absurd (false≢true e)), (refl, refl))

  module _ (mid rest : Option (List ℕ)) (was now is : List ℕ) (n : ℕ) (same : length now ≡ length was)
      (p : HeldAfter left mid 0 was now (Ok (record { count = n; ended = false }))) where
    pub held_more : (r : Result Held InputError) → HeldAfter mid rest n now is r → HeldAfter left rest 0 was is r
    held_more (Ok h) q =
        let a = p.0 in let b = q.0 in
        let words = q.2.1 ∙ ap (λ (l : List ℕ). l ++ words_of b) p.2.1 ∙ sym (words_both a b n (omega (arith, p.2.0))) in
        (a ++ b, (Consumes-trans left mid rest a b p.1.0 q.1.0, q.1.1), (omega (arith, length-append a b, p.2.0, q.2.0), words))
    held_more (Err error.Odd) q =
        let a = p.0 in let b = q.0 in
        (a ++ b, Consumes-trans left mid rest a b p.1.0 q.1, λ e. q.2 (omega (arith, length-append a b, p.2.0, e)))
    held_more (Err error.Long) q =
        let a = p.0 in let b = q.0 in
        (a ++ b, Consumes-trans left mid rest a b p.1.0 q.1, omega (arith, length-append a b, p.2.0, q.2, same))

  -- the same where nothing is said of the end
  pub held_on : (rest : Option (List ℕ)) (was is : List ℕ) (h : Held) → HeldAfter left rest 0 was is (Ok h)
      → HeldAfter left rest 0 was is (Ok (record { count = h.count; ended = false }))
  held_on rest was is h q = (q.0, (q.1.0, λ e. absurd (false≢true e)), q.2)
