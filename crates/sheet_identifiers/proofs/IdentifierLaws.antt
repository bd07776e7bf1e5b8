-- Identifiers, stems and the names before one.
-- Assumes nothing.
use mathlib.Core.Path.{◌≡◌, refl, sym, ◌∙◌, ap, subst}
use mathlib.Core.Bool.{Bool, true, false, cond, not, ◌&&◌, ◌||◌}
use mathlib.Core.List.{List, [], ◌∷◌, ◌++◌, append-nil, reverse, reverse-append}
use Prim.Native.Nat.{ℕ, ◌+◌, ◌-◌, ◌≤◌}
use native.Mathlib.Omega.{arith}
use lib.ListN.{length, take, drop, length-reverse, length-append}
use borrow.Author.Tests.{ltb-false}
use denote.Ref.{Bor}
use Rattle.std.specs.Slice.Iter.{iter_rest, iter_steps_back}
use Rattle.std.proofs.Common.{Iter}
use Rattle.std.proofs.lemmas.Iterator.Consumers.{YieldsList-from_shown}
use denote.Param.Members.{Mut}
use Rattle.std.specs.Prelude.{Option, None, Some, MatchOption}
use Rattle.std.specs.List.{FoldsTo, list_all, slice_get, prefix_len, position_or_len, suffix_len}
use Rattle.std.specs.Option.{option_copied, IsSomeAnd}
use Rattle.std.specs.Fn.{Called}
use Rattle.std.specs.Iterator.{YieldsThen}
use Rattle.std.proofs.lemmas.Iterator.{YieldsList}
use Rattle.std.proofs.lemmas.Iterator.Search.{position_from_yields_List}
use Rattle.std.proofs.lemmas.Bool.{false≢true}
use Rattle.std.proofs.lemmas.List.{take-append-le, append_cancel_right}
use Rattle.std.specs.Char.{is_ascii_digit}
use Rattle.std.specs.Str.{bytes_eq}
use Rattle.ir_records.specs.Result.{pick}
use Rattle.program_output.specs.Bytes.{decimal}
use Rattle.sheet_names.specs.Names.{NameIs}
use Rattle.sheet_output.specs.Written.{lent}
use Rattle.sheet_identifiers.specs.Identifiers.{is_letter, is_letter_or_digit, is_identifier, is_numbered, is_underscore, stem}
use Rattle.sheet_identifiers.specs.Identifiers.{is_made, is_kept, is_taken, StaysApart, has_identifier, identifier_text, name_text}

-- ---- identifiers
pub identifier_first : {P : Bor ℕ → Type 0} (name : List ℕ) (first : Option (Bor ℕ)) (letter all : Bool)
    → MatchOption first (letter ≡ false) P → ((x : Bor ℕ) → P x → letter ≡ is_letter (x.now)) → option_copied first ≡ slice_get name 0
    → letter ≡ true → all ≡ list_all is_letter_or_digit name → all ≡ is_identifier name
identifier_first [] None letter all m p e l h = absurd (false≢true (sym m ∙ l))
identifier_first [] (Some x) letter all m p e l h = absurd cc
identifier_first (b ∷ name) None letter all m p e l h = absurd cc
identifier_first (b ∷ name) (Some x) letter all m p e l h =
    let at : x.now ≡ b = cc in
    let first : is_letter b ≡ true = ap is_letter (sym at) ∙ (sym (p x m) ∙ l) in
    h ∙ sym (ap (λ (t : Bool). t && list_all is_letter_or_digit (b ∷ name)) first)

-- ---- prefixes
abbrev pub has_prefix : (word prefix : List ℕ) → Bool
has_prefix word prefix = bytes_eq (take (length prefix) word) prefix

abbrev pub StripsPrefix : (word prefix : List ℕ) → Option (Bor (List ℕ)) → Type 0
StripsPrefix word prefix rest =
    let n = length prefix in
    let starts = has_prefix word prefix in
    MatchOption rest (starts ≡ false) (λ x. (starts ≡ true) × (x.now ≡ drop n word) × (length (x.now) + n ≡ length word))

pub numbered_rest : {P : Bor (List ℕ) → Type 0} (word prefix : List ℕ) (rest : Option (Bor (List ℕ))) (digits : Bool)
    → StripsPrefix word prefix rest
    → MatchOption rest (digits ≡ false) P
    → ((x : Bor (List ℕ)) → P x → digits ≡ list_all is_ascii_digit (x.now))
    → digits ≡ is_numbered word prefix
numbered_rest word prefix None digits m n p = rw m n
numbered_rest word prefix (Some x) digits m n p = rw (m.0, ← m.1) (p x n)

-- ---- stems
not_not : (b : Bool) → not (not b) ≡ b
not_not true = refl
not_not false = refl

prefix_same : {A : Type 0} (p q : A → Bool) → ((x : A) → p x ≡ q x) → (xs : List A) → prefix_len p xs ≡ prefix_len q xs
prefix_same p q e [] = refl
prefix_same p q e (x ∷ xs) = rw (e x, prefix_same p q e xs)

-- the place of the last byte that is no underscore, from the end on
abbrev pub from_end : (name : List ℕ) → ℕ
from_end name = position_or_len (λ b. not (is_underscore b)) (reverse name)

pub end_is : (name : List ℕ) → from_end name ≡ suffix_len is_underscore name
end_is name = prefix_same (λ b. not (not (is_underscore b))) is_underscore (λ b. not_not (is_underscore b)) (reverse name)

-- what `rposition` answers, as `position` from the end on
none_cond : (b : Bool) (p : ℕ) → None ≡ cond b (Some p) None → b ≡ false
none_cond true p e = absurd cc
none_cond false p e = refl

some_cond : (b : Bool) (k p : ℕ) → Some k ≡ cond b (Some p) None → k ≡ p
some_cond true k p e = cc
some_cond false k p e = absurd cc

abbrev pub Place : {B : Type 0} (test : B → Bool) (all : List B) (n : ℕ) → Option ℕ → Type 0
Place test all n r = MatchOption r (length all ≤ position_or_len test all) (λ i. i + 1 + position_or_len test all ≡ n)

module _ {S A B F : Type 0} {steps : S → Option A → S → Type 0} {v : A → B} {g : Mut F (A × Unit {0}) Bool} {s : S} {all : List B}
    (test : B → Bool) (u : S) (f : F) where
  place_at : (n : ℕ) (r : Option ℕ) (xs : List A) (j : F) (o : Option A) → YieldsThen steps s xs o u
      → FoldsTo (λ p x q. Called g p (x, tt) false q) f xs j
      → MatchOption o (r ≡ None) (λ x. IsSomeAnd r (λ i. i + 1 + length xs ≡ n) × ((h : F) × Called g j (x, tt) true h))
      → YieldsList steps v s all → ((x : A) (b : Bool) (q : F) → Called g f (x, tt) b q → (q ≡ f) × (b ≡ test (v x))) → Place test all n r
  place_at n None xs j None y c e road k =
      let place = position_from_yields_List test u f None (xs, None, j, y, c, refl) road k in
      ltb-false (position_or_len test all) (length all) (none_cond _ _ place)
  place_at n (Some i) xs j None y c e road k = absurd cc
  place_at n None xs j (Some x) y c e road k = absurd e.0
  place_at n (Some i) xs j (Some x) y c e road k =
      let place = position_from_yields_List test u f (Some (length xs)) (xs, Some x, j, y, c, (refl, e.1)) road k in
      ap (λ (m : ℕ). i + 1 + m) (sym (some_cond _ (length xs) (position_or_len test all) place)) ∙ e.0

  pub place_from_end : (n : ℕ) (r : Option ℕ)
      → (xs : List A) × (o : Option A) × (j : F) × YieldsThen steps s xs o u × FoldsTo (λ p x q. Called g p (x, tt) false q) f xs j
      × MatchOption o (r ≡ None) (λ x. IsSomeAnd r (λ i. i + 1 + length xs ≡ n) × ((h : F) × Called g j (x, tt) true h))
      → YieldsList steps v s all → ((x : A) (b : Bool) (q : F) → Called g f (x, tt) b q → (q ≡ f) × (b ≡ test (v x))) → Place test all n r
  place_from_end n r w road k = place_at n r w.0 w.2 w.1 w.3 w.4 w.5 road k

-- the slice from its end on
pub yields_back : {A : Type 0} {s : Iter A} (xs : List A) → iter_rest s ≡ xs → YieldsList iter_steps_back (λ y. y.now) s (reverse xs)
yields_back {A} {s} xs e =
    subst (λ k. YieldsList iter_steps_back (λ y. y.now) s (reverse k)) e
    (YieldsList-from_shown iter_steps_back (λ y. y.now) (λ u. reverse (iter_rest u)) (λ u t p. length-reverse _ ∙ p.0)
    (λ u x t p. ap reverse p ∙ reverse-append (iter_rest t) (x.now ∷ [])) s)

pub stem_some : (name : List ℕ) (last : ℕ) → last + 1 + from_end name ≡ length name → take (last + 1) name ≡ stem name
stem_some name last e =
    let suffix : from_end name ≡ suffix_len is_underscore name = end_is name in
    let same : last + 1 ≡ length name - suffix_len is_underscore name = omega arith in
    ap (λ (n : ℕ). take n name) same

pub stem_none : (name : List ℕ) → length (reverse name) ≤ from_end name → [] ≡ stem name
stem_none name h =
    let suffix : from_end name ≡ suffix_len is_underscore name = end_is name in
    let long : length (reverse name) ≡ length name = length-reverse name in
    let none : 0 ≡ length name - suffix_len is_underscore name = omega arith in
    ap (λ (n : ℕ). take n name) none

-- one underscore more at the end
stem_more : (name : List ℕ) → stem (name ++ (95 ∷ [])) ≡ stem name
stem_more name =
    let more = name ++ (95 ∷ []) in
    let suffix : suffix_len is_underscore more ≡ 1 + suffix_len is_underscore name = ap (prefix_len is_underscore) (reverse-append name (95 ∷ [])) in
    let long : length more ≡ length name + 1 = length-append name (95 ∷ []) in
    let same : length more - suffix_len is_underscore more ≡ length name - suffix_len is_underscore name = omega arith in
    let short : length name - suffix_len is_underscore name ≤ length name = omega arith in
    ap (λ (n : ℕ). take n more) same ∙ take-append-le _ name (95 ∷ []) short

-- ---- texts
-- where only one of them is taken, both have one stem, and both are taken
not_one : (a b : List ℕ) → is_taken a ≡ true → is_taken b ≡ false → a ++ (95 ∷ []) ≡ b ++ [] → ⊥
not_one a b p q e =
    let b_is : a ++ (95 ∷ []) ≡ b = e ∙ append-nil b in
    let stems : stem a ≡ stem b = sym (stem_more a) ∙ ap stem b_is in
    let taken : is_taken a ≡ is_taken b = ap (λ (s : List ℕ). is_made s || is_kept s) stems in
    false≢true (sym q ∙ (sym taken ∙ p))

apart_at : (a b : List ℕ) (p q : Bool) → is_taken a ≡ p → is_taken b ≡ q → a ++ pick p (95 ∷ []) [] ≡ b ++ pick q (95 ∷ []) [] → a ≡ b
apart_at a b true true p q e = append_cancel_right a b (95 ∷ []) e
apart_at a b true false p q e = absurd (not_one a b p q e)
apart_at a b false true p q e = absurd (not_one b a q p (sym e))
apart_at a b false false p q e = sym (append-nil a) ∙ (e ∙ append-nil b)

pub stays_apart : (name : List ℕ) → StaysApart name
stays_apart name other e = apart_at other name (is_taken other) (is_taken name) refl refl e

-- ---- names
pub lent_name : (name : Option (List ℕ)) (answer : Option (Bor (List ℕ))) → NameIs name answer → lent answer ≡ name
lent_name name None e = sym e
lent_name name (Some x) e = sym e

-- whether there is an identifier is asked of the name itself
pub identifier_had : {P : Bor (List ℕ) → Type 0} (name : Option (Bor (List ℕ))) (has : Bool) → MatchOption name (has ≡ false) P
    → ((x : Bor (List ℕ)) → P x → has ≡ is_identifier (x.now)) → has ≡ has_identifier (lent name)
identifier_had None has m p = m
identifier_had (Some x) has m p = p x m

both_counts : (identifier earlier : Bool) → identifier && not (identifier && earlier) ≡ identifier && not earlier
both_counts true earlier = refl
both_counts false earlier = refl

-- what stands before a name counts for an identifier alone
pub earlier_counts : (name : Option (List ℕ)) (earlier : Bool) (otherwise : List ℕ) (n : ℕ)
    → name_text name (has_identifier name && earlier) otherwise n ≡ name_text name earlier otherwise n
earlier_counts None earlier otherwise n = refl
earlier_counts (Some name) earlier otherwise n =
    ap (λ (told : Bool). pick told (identifier_text name) (otherwise ++ decimal n)) (both_counts (is_identifier name) earlier)
