-- Names put down one after the other: what each place holds then.
-- Assumes nothing.
use Rattle.std.proofs.Common.{◌≡◌, refl, ◌∙◌, ap, ℕ, zero, suc, ◌+◌, ◌-◌, ◌≤◌, ◌<◌, min, Bool, true, false, List, [], ◌∷◌, length, get_or}
use Rattle.std.proofs.Common.{set, replicate, slice_get, Option, None, Some, arith, length-set, get_or-set_other, get_or-set_same}
use native.Mathlib.Decide.{dec_le, ℕ_discrete}
use lib.ListN.{length-replicate}
use Rattle.std.specs.List.{filter, range_with_len}
use Rattle.std.proofs.lemmas.List.{get_or-replicate}
use Rattle.ir_records.specs.Result.{pick}
use Rattle.program_words.specs.declared.Span.{Span}
use Rattle.sheet_names.specs.Text.{is_struct}
use Rattle.sheet_names.specs.Serving.{struct_from, put_at, next_after, put_row}
use Rattle.sheet_names.proofs.SearchLaws.{First, first_is, first_none}

-- ---- rows
unfoldable pub rows_put : (row : ℕ) → List (Option Span) → List (Option Span) → List (Option Span)
rows_put row [] places = places
rows_put row (word ∷ words) places = rows_put (min (row + 1) 4294967295) words (put_row word row places)

-- no place is taken from row r on
abbrev pub Free : (r : ℕ) → List (Option Span) → Type 0
Free r places = (k : ℕ) → r ≤ k → k < length places → get_or places k None ≡ None

row_there : (word : Option Span) (row : ℕ) (places : List (Option Span)) → row < length places
    → Free row places → get_or (put_row word row places) row None ≡ word
row_there None row places h free = free row (omega arith) h
row_there (Some word) row places h free = get_or-set_same places row (Some word) None h

row_other : (word : Option Span) (row k : ℕ) (places : List (Option Span)) → (k ≡ row → ⊥) → get_or (put_row word row places) k None ≡ get_or places k None
row_other None row k places h = refl
row_other (Some word) row k places h = get_or-set_other places row k (Some word) None h

row_length : (word : Option Span) (row : ℕ) (places : List (Option Span)) → length (put_row word row places) ≡ length places
row_length None row places = refl
row_length (Some word) row places = length-set places row (Some word)

module _ (k : ℕ) where
  -- below the row a place stays as it is
  rows_below : (words : List (Option Span)) (row : ℕ) (places : List (Option Span)) → k < row → k < 4294967295
      → get_or (rows_put row words places) k None ≡ get_or places k None
  unfolding rows_put
  rows_below [] row places h small = refl
  rows_below (word ∷ words) row places h small =
      rows_below words (min (row + 1) 4294967295) (put_row word row places) (omega (arith, h, small)) small
      ∙ row_other word row k places (λ e. omega (arith, e, h))

  pub rows_item : (words : List (Option Span)) (row : ℕ) (places : List (Option Span)) → row ≤ k → k < length places
      → length places ≤ 4294967295 → Free row places
      → get_or (rows_put row words places) k None ≡ get_or words (k - row) None
  unfolding rows_put
  rows_item [] row places h l small free = free k h l
  rows_item (word ∷ words) row places h l small free = go (ℕ_discrete k row) (rows_item words (min (row + 1) 4294967295) (put_row word row places)) where
    next : ℕ
    next = min (row + 1) 4294967295

    p : List (Option Span)
    p = put_row word row places

    same : length p ≡ length places
    same = row_length word row places

    go : Dec (k ≡ row) → (next ≤ k → k < length p → length p ≤ 4294967295 → Free next p → get_or (rows_put next words p) k None ≡ get_or words (k - next) None)
        → get_or (rows_put next words p) k None ≡ get_or (word ∷ words) (k - row) None
    go (yes e) ih =
        let here : k - row ≡ 0 = omega (arith, e) in
        rows_below words next p (omega (arith, e, l, small)) (omega (arith, l, small))
        ∙ ap (λ (i : ℕ). get_or p i None) e ∙ row_there word row places (omega (arith, e, l)) free ∙ rw here refl
    go (no e) ih =
        let one : k - row ≡ suc (k - next) = omega (arith, e, h, l, small) in
        ih (omega (arith, e, h)) (rw same l) (rw same small)
        (λ i a b. row_other word row i places (λ s. omega (arith, s, a, h, l, small, e)) ∙ free i (omega (arith, a, h, l, small, e)) (rw same at b))
        ∙ rw one refl

-- ---- structs
unfoldable pub structs_put : (types : List ℕ) (start : ℕ) → List Span → List (Option Span) → List (Option Span)
structs_put types start [] places = places
structs_put types start (word ∷ words) places =
    let i = struct_from types start in structs_put types (next_after start i) words (put_at word i places)

module _ (types : List ℕ) where
  -- the structs from a start on and before an end
  abbrev pub structs_in : (start left : ℕ) → List ℕ
  structs_in start left = filter (is_struct types) (range_with_len start left)

  none_in : (start left : ℕ) → ((i : ℕ) → start ≤ i → i < start + left → is_struct types i ≡ false) → structs_in start left ≡ []
  none_in start zero h = refl
  none_in start (suc left) h = rw (h start (omega arith) (omega arith)) (none_in (start + 1) left (λ i a b. h i (omega (arith, a)) (omega (arith, b))))

  -- after the first struct m one less
  one_in : (a b start m : ℕ) → m ≡ start + a → ((i : ℕ) → start ≤ i → i < m → is_struct types i ≡ false) → is_struct types m ≡ true
      → length (structs_in start (a + suc b)) ≡ suc (length (structs_in (m + 1) b))
  one_in zero b start m e h is =
      let z : 0 + suc b ≡ suc b = omega arith in
      let s : start ≡ m = omega (arith, e) in
      rw (z, s, is) refl
  one_in (suc a) b start m e h is =
      let z : suc a + suc b ≡ suc (a + suc b) = omega arith in
      rw (z, h start (omega arith) (omega (arith, e))) (one_in a b (start + 1) m (omega (arith, e)) (λ i x y. h i (omega (arith, x)) y) is)

  put_there : (word : Span) (i : ℕ) (places : List (Option Span)) → i < length places → get_or (put_at word (Some i) places) i None ≡ Some word
  put_there word i places h = get_or-set_same places i (Some word) None h

  module _ (i : ℕ) where
    -- below the start a place stays as it is
    structs_below : (words : List Span) (start : ℕ) (places : List (Option Span)) → i < start
        → get_or (structs_put types start words places) i None ≡ get_or places i None
    unfolding structs_put
    structs_below [] start places h = refl
    structs_below (word ∷ words) start places h = go (struct_from types start) refl (structs_below words) where
      go : (m : Option ℕ) → struct_from types start ≡ m
          → ((s : ℕ) (p : List (Option Span)) → i < s → get_or (structs_put types s words p) i None ≡ get_or p i None)
          → get_or (structs_put types (next_after start m) words (put_at word m places)) i None ≡ get_or places i None
      go None e ih = ih start places h
      go (Some m) e ih =
          let f = first_is (is_struct types) start 1024 m e in
          ih (m + 1) (set places m (Some word)) (omega (arith, h, f.from)) ∙ get_or-set_other places m i (Some word) None (λ s. omega (arith, s, h, f.from))

    pub structs_item : (words : List Span) (start : ℕ) (places : List (Option Span)) → start ≤ i → i < 1024 → length places ≡ 1024 → Free start places
        → get_or (structs_put types start words places) i None ≡ pick (is_struct types i) (slice_get words (length (structs_in start (i - start)))) None
    unfolding structs_put
    structs_item [] start places h l long free = free i h (rw long l) ∙ nothing (is_struct types i) where
      nothing : (b : Bool) → None ≡ pick {A = Option Span} b None None
      nothing true = refl
      nothing false = refl
    structs_item (word ∷ words) start places h l long free = go (struct_from types start) refl (structs_item words) (structs_below words) where
      Item : ℕ → List Span → List (Option Span) → Type 0
      Item s ws p = get_or (structs_put types s ws p) i None ≡ pick (is_struct types i) (slice_get ws (length (structs_in s (i - s)))) None

      go : (m : Option ℕ) → struct_from types start ≡ m
          → ((s : ℕ) (p : List (Option Span)) → s ≤ i → i < 1024 → length p ≡ 1024 → Free s p → Item s words p)
          → ((s : ℕ) (p : List (Option Span)) → i < s → get_or (structs_put types s words p) i None ≡ get_or p i None)
          → get_or (structs_put types (next_after start m) words (put_at word m places)) i None
          ≡ pick (is_struct types i) (slice_get (word ∷ words) (length (structs_in start (i - start)))) None
      go None e ih below =
          let none = first_none (is_struct types) start 1024 e i h l in
          ih start places h l long free ∙ rw none refl
      go (Some m) e ih below = at (ℕ_discrete i m) (dec_le (m + 1) i) where
        f : First (is_struct types) start 1024 m
        f = first_is (is_struct types) start 1024 m e

        p : List (Option Span)
        p = set places m (Some word)

        at : Dec (i ≡ m) → Dec (m + 1 ≤ i) → get_or (structs_put types (m + 1) words p) i None
            ≡ pick (is_struct types i) (slice_get (word ∷ words) (length (structs_in start (i - start)))) None
        at (yes s) d =
            let first : structs_in start (i - start) ≡ [] = none_in start (i - start) (λ k a b. f.none k a (omega (arith, b, s, h))) in
            let is : is_struct types i ≡ true = rw s f.passes in
            below (m + 1) p (omega (arith, s)) ∙ ap (λ (k : ℕ). get_or p k None) s
            ∙ get_or-set_same places m (Some word) None (rw long f.below) ∙ rw (is, first) refl
        at (no s) (yes d) =
            let split : i - start ≡ (m - start) + suc (i - (m + 1)) = omega (arith, d, f.from) in
            let less = one_in (m - start) (i - (m + 1)) start m (omega (arith, f.from)) f.none f.passes in
            ih (m + 1) p d l (simp length-set long)
            (λ k a b. get_or-set_other places m k (Some word) None (λ t. omega (arith, t, a)) ∙ free k (omega (arith, a, f.from)) (rw length-set at b))
            ∙ rw (split, less) refl
        at (no s) (no d) =
            let none = f.none i h (omega (arith, s, d)) in
            below (m + 1) p (omega (arith, s, d)) ∙ get_or-set_other places m i (Some word) None s ∙ free i h (rw long l) ∙ rw none refl

-- ---- a table with no names
pub free_none : (n : ℕ) → Free 0 (replicate n None)
free_none n k a b = get_or-replicate n k None None (rw (length-replicate {A = Option Span} n None) at b)
