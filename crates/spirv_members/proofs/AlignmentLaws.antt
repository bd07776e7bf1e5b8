-- The rows of a struct's members, and that the largest alignment of its members is 01's.
-- Assumes nothing.
use mathlib.Core.Path.{◌≡◌, refl, sym, ap, ◌∙◌}
use mathlib.Core.Bool.{true}
use mathlib.Core.List.{List, [], ◌∷◌, ◌++◌}
use Prim.Native.Nat.{ℕ, zero, suc, ◌+◌, ◌*◌, ◌≤◌, ◌<◌}
use native.Mathlib.Nat.{suc-mul, not-suc-le-zero}
use native.Mathlib.Decide.{dec_le}
use native.Mathlib.Omega.{arith}
use lib.ListN.{length, get_or, length-append, get_or-append}
use lib.Seq.{get_or-append-add}
use borrow.Author.Tests.{lt-ltb}
use Rattle.std.proofs.lemmas.Bool.{and_parts}
use Rattle.ir_records.specs.Result.{ok}
use Rattle.ir_records.specs.Record.{member_words, member_type}
use Rattle.proc_type_alignment.specs.TypeAlignment.{members_alignment}
use Rattle.spirv_words.specs.Module.{word}
use Rattle.spirv_ids.specs.Ids.{type_number}
use Rattle.spirv_members.specs.Members.{is_type_read, member_sort, member_number, offset_of, member_rows, member_sound, members_sound, layouts_of, struct_alignment}
use Rattle.spirv_members.specs.Serving.{largest_alignment}
use Rattle.spirv_members.proofs.NumberLaws.{read_below}

module _ (ws : List ℕ) (at : ℕ) where
  pub rows_length : (n : ℕ) → length (member_rows ws at n) ≡ n * member_words
  unfolding member_rows
  rows_length zero = refl
  rows_length (suc n) =
      length-append (member_rows ws at n) (member_number ws at n ∷ offset_of ws at n ∷ 0 ∷ 0 ∷ [])
      ∙ omega (arith, rows_length n, suc-mul n member_words)

  -- word k of row j
  pub row-word : (n j k : ℕ) → j < n → k < member_words
      → get_or (member_rows ws at n) (j * member_words + k) 0 ≡ get_or (member_number ws at j ∷ offset_of ws at j ∷ 0 ∷ 0 ∷ []) k 0
  unfolding member_rows
  row-word zero j k h l = absurd (not-suc-le-zero h)
  row-word (suc n) j k h l = by (dec_le n j) (row-word n j k)
    where
      row : ℕ → List ℕ
      row i = member_number ws at i ∷ offset_of ws at i ∷ 0 ∷ 0 ∷ []

      by : Dec (n ≤ j) → (j < n → k < member_words → get_or (member_rows ws at n) (j * member_words + k) 0 ≡ get_or (row j) k 0)
          → get_or (member_rows ws at n ++ row n) (j * member_words + k) 0 ≡ get_or (row j) k 0
      by (no m) rest =
          let less : j < n = omega (arith, m) in
          get_or-append (member_rows ws at n) (row n) 0 (j * member_words + k) (omega (arith, rows_length n, less, l))
          ∙ rest less l
      by (yes m) rest =
          let same : n ≡ j = omega (arith, m, h) in
          ap (λ (i : ℕ). get_or (member_rows ws at n ++ row n) (i + k) 0) (ap (λ (i : ℕ). i * member_words) (sym same) ∙ sym (rows_length n))
          ∙ get_or-append-add (member_rows ws at n) (row n) k 0
          ∙ ap (λ (i : ℕ). get_or (row i) k 0) same

  pub sound_below : (j : ℕ) → member_sound ws at j ≡ true → member_number ws at j < type_number ws at
  unfolding member_sound member_number
  sound_below j e = read_below ws at (word ws at (2 + j)) (and_parts (is_type_read (member_sort ws at j)) _ e).0

  module _ (al : List ℕ) (whole : length al ≡ type_number ws at) (n : ℕ) where
    aligned : (j : ℕ) → j ≤ n → members_sound ws at j ≡ true
        → members_alignment (layouts_of al) (length al) (member_rows ws at n) j ≡ ok (largest_alignment ws al at j)
    unfolding members_alignment members_sound largest_alignment
    aligned zero h e = refl
    aligned (suc j) h e =
        let p = and_parts (members_sound ws at j) _ e in
        let row : member_type (member_rows ws at n) j ≡ member_number ws at j = (rw (first j) at (row-word n j 0 h (omega arith))) in
        rw (aligned j (omega arith) p.0, row, lt-ltb (member_number ws at j) (length al) (omega (arith, whole, sound_below j p.1))) refl
      where
        first : (i : ℕ) → i * member_words + 0 ≡ i * member_words
        first i = omega arith

    pub largest_is : members_sound ws at n ≡ true → struct_alignment ws al at n ≡ largest_alignment ws al at n
    unfolding struct_alignment
    largest_is e = rw (aligned n (omega arith) e) refl

  pub sound_at : (n j : ℕ) → j < n → members_sound ws at n ≡ true → member_sound ws at j ≡ true
  unfolding members_sound
  sound_at zero j h e = absurd (not-suc-le-zero h)
  sound_at (suc n) j h e = by (dec_le n j) (and_parts (members_sound ws at n) _ e) (sound_at n j)
    where
      by : Dec (n ≤ j) → (members_sound ws at n ≡ true) × (member_sound ws at n ≡ true) → (j < n → members_sound ws at n ≡ true → member_sound ws at j ≡ true)
          → member_sound ws at j ≡ true
      by (no m) p rest = rest (omega (arith, m)) p.0
      by (yes m) p rest = let same : n ≡ j = omega (arith, m, h) in rw same at p.1

  pub largest_positive : (al : List ℕ) (j : ℕ) → 0 < largest_alignment ws al at j
  unfolding largest_alignment
  largest_positive al zero = omega arith
  largest_positive al (suc j) = omega (arith, largest_positive al j)
