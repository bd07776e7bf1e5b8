-- Words, numbers and marks: the token that starts at a position. Assumes nothing.
use mathlib.Core.Path.{◌≡◌, ap, ◌∙◌}
use mathlib.Core.Bool.{Bool, true, false, ◌||◌, ◌&&◌}
use mathlib.Core.List.{List, ◌∷◌}
use Prim.Native.Nat.{ℕ, suc, ◌+◌, ◌-◌, ◌≤◌, ◌<◌}
use native.Mathlib.Numerals.{add-one}
use native.Mathlib.Nat.{add-zero}
use native.Mathlib.Omega.{arith}
use native.Mathlib.Decide.{ℕ_discrete}
use lib.Dec.{eqb, ltb}
use lib.ListN.{length, get_or, take, drop, length-drop}
use lib.Seq.{drop-cons, drop-drop, get_or-drop, get_or-take, length-take-le}
use borrow.Author.Tests.{eq-eqb}
use Rattle.program_words.specs.Words.{run_of, part}
use Rattle.program_words.specs.Number.{is_digit, number_of}
use Rattle.std.specs.Prelude.{Result}
use Rattle.std.proofs.lemmas.Bool.{or_parts}
use Rattle.program_words.specs.declared.NumberError.{NumberError}
use Rattle.wgsl_tokens.specs.Tokens.{number_token, Token, word, mark, bad, code, stopped, is_blank, starts_word, in_word, is_mark, opens_line, opens_block, word_of, digits_of, code_step, step_of, tokens, from}
use Rattle.wgsl_tokens.specs.Lexed.{IsBad, starts_gap}
use Rattle.wgsl_tokens.proofs.TokenLaws.{head_next, code_skip, tokens_at}

-- neither blank nor a comment
pub gap_free : (s : List ℕ) (i : ℕ) → starts_gap s i ≡ false
    → (is_blank (get_or s i 0) ≡ false) × (opens_line (get_or s i 0) (get_or s (i + 1) 0) ≡ false) × (opens_block (get_or s i 0) (get_or s (i + 1) 0) ≡ false)
gap_free s i e =
    let first = or_parts (is_blank (get_or s i 0) || opens_line (get_or s i 0) (get_or s (i + 1) 0)) (opens_block (get_or s i 0) (get_or s (i + 1) 0)) e in
    let second = or_parts (is_blank (get_or s i 0)) (opens_line (get_or s i 0) (get_or s (i + 1) 0)) first.0 in
    (second.0, second.1, first.1)

-- ---- a part of the text
module _ (s : List ℕ) (i e : ℕ) (within : e ≤ length s) where
  pub part-length : i ≤ e → length (part s i e) ≡ e - i
  part-length h = length-take-le (e - i) (drop i s) (rw (length-drop i s) (omega arith))

  pub part_first : i < e → get_or (part s i e) 0 0 ≡ get_or s i 0
  part_first h =
      let long : 0 < e - i = omega arith in
      get_or-take (e - i) (drop i s) 0 0 long ∙ get_or-drop i s 0 0 ∙ ap (λ (k : ℕ). get_or s k 0) (add-zero i)

  pub part_second : i + 1 < e → get_or (part s i e) 1 0 ≡ get_or s (i + 1) 0
  part_second h =
      let long : 1 < e - i = omega arith in
      get_or-take (e - i) (drop i s) 1 0 long ∙ get_or-drop i s 1 0

-- a byte and a run after it
run_part : (s : List ℕ) (i r : ℕ) → i < length s → get_or s i 0 ∷ take r (drop (suc i) s) ≡ part s i (i + 1 + r)
run_part s i r h =
    let long : i + 1 + r - i ≡ suc r = omega arith in
    rw (long, drop-cons s i 0 h)

past_run : (s : List ℕ) (i r : ℕ) → drop r (drop (suc i) s) ≡ drop (i + 1 + r) s
past_run s i r = let n : suc i + r ≡ i + 1 + r = omega arith in drop-drop r (suc i) s ∙ ap (λ (k : ℕ). drop k s) n

module _ (s : List ℕ) (i : ℕ) (h : i < length s) (free : starts_gap s i ≡ false) where
  pub word_token : starts_word (get_or s i 0) ≡ true → (e : ℕ) → e ≡ i + 1 + run_of in_word (drop (i + 1) s)
      → from s i ≡ word_of (part s i e) ∷ from s e
  unfolding step_of code_step
  word_token w e is =
      let g = gap_free s i free in
      let r = run_of in_word (drop (suc i) s) in
      let same : e ≡ i + 1 + r = is ∙ ap (λ (k : ℕ). i + 1 + run_of in_word (drop k s)) (add-one i) in
      tokens_at s i h (code 0)
      ∙ rw (g.0, head_next s i, g.1, g.2, w, same) (
      ap (λ (x : List ℕ). word_of x ∷ tokens (code r) (drop (suc i) s)) (run_part s i r h)
      ∙ ap (λ (x : List Token). word_of (part s i (i + 1 + r)) ∷ x) (code_skip r (drop (suc i) s) ∙ ap (tokens (code 0)) (past_run s i r)))

  module _ (other : starts_word (get_or s i 0) ≡ false) where
    pub digits_token : is_digit (get_or s i 0) ≡ true → (e : ℕ) → e ≡ i + 1 + run_of is_digit (drop (i + 1) s)
        → from s i ≡ digits_of (part s i e) (get_or s e 0) ∷ from s e
    unfolding step_of code_step
    digits_token d e is =
        let g = gap_free s i free in
        let r = run_of is_digit (drop (suc i) s) in
        let same : e ≡ i + 1 + r = is ∙ ap (λ (k : ℕ). i + 1 + run_of is_digit (drop k s)) (add-one i) in
        let n : suc i + r ≡ i + 1 + r = omega arith in
        let next : get_or (drop (suc i) s) r 0 ≡ get_or s (i + 1 + r) 0 = get_or-drop (suc i) s r 0 ∙ ap (λ (k : ℕ). get_or s k 0) n in
        tokens_at s i h (code 0)
        ∙ rw (g.0, head_next s i, g.1, g.2, other, d, same, next) (
        ap (λ (x : List ℕ). digits_of x (get_or s (i + 1 + r) 0) ∷ tokens (code r) (drop (suc i) s)) (run_part s i r h)
        ∙ ap (λ (x : List Token). digits_of (part s i (i + 1 + r)) (get_or s (i + 1 + r) 0) ∷ x) (code_skip r (drop (suc i) s) ∙ ap (tokens (code 0)) (past_run s i r)))

    module _ (no_digit : is_digit (get_or s i 0) ≡ false) where
      pub mark_token : is_mark (get_or s i 0) ≡ true → from s i ≡ mark (get_or s i 0) ∷ from s (i + 1)
      unfolding step_of code_step
      mark_token m =
          let g = gap_free s i free in
          tokens_at s i h (code 0) ∙ rw (g.0, head_next s i, g.1, g.2, other, no_digit, m, add-one i)

      pub bad_token : is_mark (get_or s i 0) ≡ false → IsBad (from s i)
      unfolding step_of code_step
      bad_token m =
          let g = gap_free s i free in
          (tokens stopped (drop (suc i) s), tokens_at s i h (code 0) ∙ rw (g.0, head_next s i, g.1, g.2, other, no_digit, m))

-- ---- the tests of a word and of a number, by the bytes of the text
module _ (s : List ℕ) (i e : ℕ) (some_byte : i < e) (within : e ≤ length s) where
  abbrev underscores : ℕ → Bool
  underscores second = eqb (get_or s i 0) 95 && (eqb (e - i) 1 || eqb second 95)

  -- a second byte is looked at only where there is one
  second_byte : underscores (get_or (part s i e) 1 0) ≡ underscores (get_or s (i + 1) 0)
  second_byte = go (ℕ_discrete (e - i) 1)
    where
      go : Dec (e - i ≡ 1) → underscores (get_or (part s i e) 1 0) ≡ underscores (get_or s (i + 1) 0)
      go (yes one) = rw (eq-eqb (e - i) 1 one)
      go (no more) = rw (part_second s i e within (omega arith))

  abbrev pub is_underscores : Bool
  is_underscores = eqb (get_or s i 0) 95 && (eqb (e - i) 1 || eqb (get_or s (i + 1) 0) 95)

  pub word_bad : is_underscores ≡ true → word_of (part s i e) ≡ bad
  unfolding word_of
  word_bad t = rw (part_first s i e within some_byte, part-length s i e within (omega arith), second_byte, t)

  pub word_good : is_underscores ≡ false → word_of (part s i e) ≡ word (part s i e)
  unfolding word_of
  word_good t = rw (part_first s i e within some_byte, part-length s i e within (omega arith), second_byte, t)

  abbrev pub is_odd : Bool
  is_odd = eqb (get_or s i 0) 48 && ltb 1 (e - i) || in_word (get_or s e 0) || eqb (get_or s e 0) 46

  pub digits_bad : is_odd ≡ true → digits_of (part s i e) (get_or s e 0) ≡ bad
  unfolding digits_of
  digits_bad t = rw (part_first s i e within some_byte, part-length s i e within (omega arith), t)

  pub digits_good : is_odd ≡ false → (n : Result ℕ NumberError) → n ≡ number_of (part s i e) → digits_of (part s i e) (get_or s e 0) ≡ number_token n
  unfolding digits_of
  digits_good t n is = rw (part_first s i e within some_byte, part-length s i e within (omega arith), t, is)
