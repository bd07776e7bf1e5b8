-- No two structs have the same identifier, and no two members.
-- Assumes nothing.
use mathlib.Core.Path.{◌≡◌, refl, sym, ap, ◌∙◌}
use mathlib.Core.Bool.{Bool, true, false, ◌||◌}
use mathlib.Core.List.{List, [], ◌∷◌, ◌++◌, append_assoc, append-nil, reverse-append}
use mathlib.Core.Logic.{◌⊎◌, inl, inr}
use Prim.Native.Nat.{ℕ, zero, suc, ◌+◌, ◌-◌, ◌^◌, ◌≤◌, ◌<◌}
use native.Mathlib.Nat.{eq-or-lt_of_le}
use native.Mathlib.Omega.{arith}
use lib.ListN.{length, take}
use borrow.Author.Tests.{ne_eqb}
use Rattle.std.specs.Prelude.{Option, None, Some}
use Rattle.std.specs.List.{list_any, range_with_len, prefix_len, suffix_len}
use Rattle.std.proofs.lemmas.Bool.{false≢true, or_parts}
use Rattle.std.proofs.lemmas.List.{take_all, append_cancel_left}
use Rattle.std.proofs.lemmas.Slice.Eq.{bytes_eq-Decides}
use Rattle.ir_records.specs.Result.{pick}
use Rattle.program_output.specs.Bytes.{ascii, decimal, digit}
use Rattle.sheet_identifiers.specs.Identifiers.{is_underscore, is_identifier, stem, is_kept, is_made, is_taken, is_same, is_earlier, identifier_text, name_text}
use Rattle.sheet_identifiers.proofs.IdentifierLaws.{stays_apart}
use Rattle.sheet_identifiers.proofs.DecimalLaws.{Ends, last_same, digits_all, digits_end, digits_same}

-- ---- what a number makes
-- a byte that is no underscore stays at the end
stem_kept : (name : List ℕ) (b : ℕ) → is_underscore b ≡ false → stem (name ++ (b ∷ [])) ≡ name ++ (b ∷ [])
stem_kept name b e =
    let all = name ++ (b ∷ []) in
    let none : suffix_len is_underscore all ≡ 0 = ap (prefix_len is_underscore) (reverse-append name (b ∷ [])) ∙ rw e in
    let whole : length all - suffix_len is_underscore all ≡ length all = omega arith in
    ap (λ (n : ℕ). take n all) whole ∙ take_all (length all) all (omega arith)

-- every number makes such a text after this one
abbrev pub Makes : (before : List ℕ) → Type 0
Makes before = (n : ℕ) → is_made (before ++ decimal n) ≡ true

-- the text with its last digit apart
text_ends : (before : List ℕ) (n : ℕ) (e : Ends (decimal n)) → before ++ decimal n ≡ (before ++ e.front) ++ (digit e.last ∷ [])
text_ends before n e = ap (λ (l : List ℕ). before ++ l) e.is ∙ sym (append_assoc before e.front (digit e.last ∷ []))

-- the text that a number makes is taken
number_taken : (before : List ℕ) → Makes before → (n : ℕ) → is_taken (before ++ decimal n) ≡ true
number_taken before made n =
    let e = digits_end 19 n in
    let text = text_ends before n e in
    let kept = stem_kept (before ++ e.front) (digit e.last) (ne_eqb (digit e.last) 95 (λ h. absurd (omega (arith, h, e.below)))) in
    let own : stem (before ++ decimal n) ≡ before ++ decimal n = ap stem text ∙ (kept ∙ sym text) in
    ap (λ (s : List ℕ). is_made s || is_kept s) own ∙ ap (λ (b : Bool). b || is_kept (before ++ decimal n)) (made n)

-- no name is written so
not_number : (before : List ℕ) → Makes before → (name : List ℕ) (n : ℕ) → identifier_text name ≡ before ++ decimal n → ⊥
not_number before made name n = by (is_taken name) refl
  where
    by : (b : Bool) → is_taken name ≡ b → name ++ pick b (95 ∷ []) [] ≡ before ++ decimal n → ⊥
    by true t h =
        let e = digits_end 19 n in
        let ends = last_same name (before ++ e.front) 95 (digit e.last) (h ∙ text_ends before n e) in
        omega (arith, ends.1, e.below)
    by false t h =
        let text : name ≡ before ++ decimal n = sym (append-nil name) ∙ h in
        false≢true (sym t ∙ (ap is_taken text ∙ number_taken before made n))

-- ---- a name among others
-- a name before k is not the one of k, where none is
none_same : (test : ℕ → Bool) (n from k : ℕ) → list_any test (range_with_len from n) ≡ false → from ≤ k → k < from + n → test k ≡ false
none_same test zero from k e h l = absurd (omega arith)
none_same test (suc n) from k e h l = by (none_same test n (from + 1) k) (eq-or-lt_of_le h)
  where
    by : (list_any test (range_with_len (from + 1) n) ≡ false → from + 1 ≤ k → k < from + 1 + n → test k ≡ false)
        → (from ≡ k) ⊎ (from < k)
        → test k ≡ false
    by later (inl same) = rw (sym same) (or_parts (test from) (list_any test (range_with_len (from + 1) n)) e).0
    by later (inr more) = later (or_parts (test from) (list_any test (range_with_len (from + 1) n)) e).1 (omega arith) (omega arith)

-- a text is that of a number, or of a name that no earlier one is
abbrev pub IsName : (name : Option (List ℕ)) (earlier : Bool) (text : List ℕ) → Type 0
IsName name earlier text = (n : List ℕ) × (name ≡ Some n) × (earlier ≡ false) × (text ≡ identifier_text n)

text_is : (name : Option (List ℕ)) (earlier : Bool) (before : List ℕ) (k : ℕ)
    → (name_text name earlier before k ≡ before ++ decimal k) ⊎ IsName name earlier (name_text name earlier before k)
text_is None earlier before k = inl refl
text_is (Some n) earlier before k = by (is_identifier n) earlier refl refl
  where
    by : (i e : Bool) → is_identifier n ≡ i → earlier ≡ e
        → (name_text (Some n) earlier before k ≡ before ++ decimal k) ⊎ IsName (Some n) earlier (name_text (Some n) earlier before k)
    by false e p q = inl (rw p)
    by true true p q = inl (rw (p, q))
    by true false p q = inr (n, refl, q, rw (p, q))

module _ (name : ℕ → Option (List ℕ)) (before : List ℕ) (made : Makes before) where
  abbrev pub text_of : ℕ → List ℕ
  text_of k = name_text (name k) (is_earlier name k) before k

  -- it is that of its name
  abbrev pub ByName : ℕ → Type 0
  ByName k = IsName (name k) (is_earlier name k) (text_of k)

  -- one with the name of an earlier one goes by its number
  not_later : (k i : ℕ) → k < i → ByName k → ByName i → text_of k ≡ text_of i → ⊥
  not_later k i h p q e =
      let same = stays_apart q.0 p.0 (sym p.3 ∙ (e ∙ q.3)) in
      let one : name k ≡ name i = p.1 ∙ (ap (λ (n : List ℕ). Some n) same ∙ sym q.1) in
      let differ = none_same (λ b. is_same (name b) (name i)) i 0 k q.2 (omega arith) (omega arith) in
      let own : is_same (name k) (name i) ≡ true = rw (one, q.1) ((bytes_eq-Decides q.0 q.0).1 refl) in
      false≢true (sym differ ∙ own)

  pub stands_alone : (k i : ℕ) → k < i → i < 10 ^ 20 → text_of k ≡ text_of i → ⊥
  stands_alone k i h most e = by (text_is (name k) (is_earlier name k) before k) (text_is (name i) (is_earlier name i) before i)
    where
      by : (text_of k ≡ before ++ decimal k) ⊎ ByName k
          → (text_of i ≡ before ++ decimal i) ⊎ ByName i → ⊥
      by (inl p) (inl q) =
          let texts = append_cancel_left before (decimal k) (decimal i) (sym p ∙ (e ∙ q)) in
          let same = digits_same 20 k i (omega arith) most texts in
          omega (arith, same)
      by (inl p) (inr q) = not_number before made q.0 k (sym q.3 ∙ (sym e ∙ p))
      by (inr p) (inl q) = not_number before made p.0 i (sym p.3 ∙ (e ∙ q))
      by (inr p) (inr q) = not_later k i h p q e

pub made_type : Makes (ascii "type_")
made_type n = rw (digits_all 20 n)

pub made_member : Makes (ascii "member_")
made_member n = rw (digits_all 20 n)
