-- What the doors' walks need of lists: the words of one record more, and that the core answers the words kept as it answers all of them.
-- Assumes nothing.
use mathlib.Core.Path.{◌≡◌, refl, sym, ap, ◌∙◌}
use mathlib.Core.Bool.{Bool, true, false}
use Prim.Native.Nat.{ℕ, suc, ◌+◌, ◌*◌, ◌<◌, ◌≤◌}
use native.Mathlib.Numerals.{add-one}
use native.Mathlib.Omega.{arith}
use mathlib.Core.List.{List, [], ◌∷◌, ◌++◌, append_assoc}
use lib.Dec.{leb}
use lib.ListN.{length, get_or, take, length-append}
use lib.Seq.{take-suc, take_at, take-length, length-take-le}
use borrow.Author.Tests.{leb-false}
use Rattle.ir_records.specs.Result.{pick}
use Rattle.ir_records.specs.Record.{member_words}
use Rattle.ir_records.specs.Fields.{most_members}
use Rattle.ir_member_words.specs.Flat.{flat}
use Rattle.ir_member_words.specs.declared.Member.{Member}

-- what a read past the end would give
abbrev pub none : Member
none = record { ty = 0; offset = 0; location = 0; source = 0 }

pub flat_append : (xs ys : List Member) → flat (xs ++ ys) ≡ flat xs ++ flat ys
unfolding flat
flat_append [] ys = refl
flat_append (x ∷ xs) ys = rw (flat_append xs ys) refl

pub length_flat : (ms : List Member) → length (flat ms) ≡ length ms * member_words
unfolding flat
length_flat [] = refl
length_flat (m ∷ ms) = ap (λ (k : ℕ). suc (suc (suc (suc k)))) (length_flat ms) ∙ sym (suc_four (length ms))
  where
    suc_four : (k : ℕ) → suc k * member_words ≡ suc (suc (suc (suc (k * member_words))))
    suc_four k = omega arith

-- the words of one more record after those of the first i
module _ (ys : List Member) (i : ℕ) (l : i < length ys) where
  abbrev m : Member
  m = get_or ys i none

  abbrev pub its : List ℕ
  its = m.ty ∷ m.offset ∷ m.location ∷ m.source ∷ []

  in_order : flat (m ∷ []) ≡ its
  unfolding flat
  in_order = refl

  taken : flat (take (i + 1) ys) ≡ flat (take i ys) ++ its
  taken = ap (λ (k : ℕ). flat (take k ys)) (add-one i) ∙ ap flat (take-suc ys i none l) ∙ flat_append (take i ys) (m ∷ []) ∙ ap (λ (xs : List ℕ). flat (take i ys) ++ xs) in_order

  pub one_more : (ws rest : List ℕ) → i * member_words ≤ length ws → take (i * member_words) ws ≡ flat (take i ys)
      → take ((i + 1) * member_words) (take (i * member_words) ws ++ (its ++ rest)) ≡ flat (take (i + 1) ys)
  one_more ws rest within copied =
      let before = take (i * member_words) ws in
      let long : length (before ++ its) ≡ (i + 1) * member_words = length-append before its ∙ omega (arith, length-take-le (i * member_words) ws within) in
      ap (take ((i + 1) * member_words)) (sym (append_assoc before its rest)) ∙ take_at (before ++ its) rest ((i + 1) * member_words) long ∙ ap (λ (xs : List ℕ). xs ++ its) copied ∙ sym taken

pub none_yet : (ys : List Member) (ws : List ℕ) → take (0 * member_words) ws ≡ flat (take 0 ys)
unfolding flat
none_yet ys ws = refl

-- what answers all that is too long alike answers the words kept as all the words
module _ {A : Type 0} (f : List ℕ → A) (d : A) (refuses : (l : List ℕ) → most_members * member_words < length l → f l ≡ d) (ms : List Member) where
  all_kept : (t : Bool) → leb (length ms) 4097 ≡ t → f (flat (take (pick t (length ms) 4097) ms)) ≡ f (flat ms)
  all_kept true e = ap (λ (l : List Member). f (flat l)) (take-length ms)
  all_kept false e =
      let long : 4097 < length ms = leb-false (length ms) 4097 e in
      refuses (flat (take 4097 ms)) (omega (arith, length_flat (take 4097 ms), length-take-le 4097 ms (omega (arith, long))))
      ∙ sym (refuses (flat ms) (omega (arith, length_flat ms, long)))

  pub through : (ws : List ℕ) → ws ≡ flat (take (pick (leb (length ms) 4097) (length ms) 4097) ms) → f ws ≡ f (flat ms)
  through ws e = ap f e ∙ all_kept (leb (length ms) 4097) refl
