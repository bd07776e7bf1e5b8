-- Records written behind those that are held: one more member row; the bounds of one record more.
-- Assumes nothing.
use mathlib.Core.Path.{◌≡◌, refl, sym, ap, ◌∙◌}
use mathlib.Core.List.{List, [], ◌∷◌, ◌++◌, append_assoc, append-nil}
use Prim.Native.Nat.{ℕ, ◌+◌, ◌*◌, ◌≤◌, ◌<◌}
use native.Mathlib.Decide.{dec_le}
use native.Mathlib.Numerals.{add-one}
use native.Mathlib.Omega.{arith}
use lib.ListN.{length, get_or, take, drop, length-append, get_or-append, get_or-eq_default}
use lib.Seq.{get_or-append-add}
use Rattle.ir_records.specs.declared.Words.{Words}
use Rattle.ir_records.specs.Record.{type_words, member_words, type_word, type_inner, inner_in, inner_of}
use Rattle.ir_records.specs.Serving.{InnerBounds}
use Rattle.ir_rows.specs.Rows.{with_part}
use Rattle.ir_rows.proofs.RowLaws.{take_part, drop_part, part-length}
use Rattle.spirv_members.specs.Members.{member_number, offset_of, member_rows}
use Rattle.spirv_members.specs.Serving.{Bounded}
use Rattle.spirv_instruction.specs.Instruction.{listed}

-- ---- the rows of a struct, one by one
module _ (ws : List ℕ) (at : ℕ) (was : List ℕ) (m n : ℕ) where
  abbrev pub member_row : (j : ℕ) → List ℕ
  member_row j = member_number ws at j ∷ offset_of ws at j ∷ 0 ∷ 0 ∷ []

  -- j rows are written
  pub record Rows (j : ℕ) (is : List ℕ) : Type 0 where
    pub few : j ≤ n
    pub front : take ((m + j) * member_words) is ≡ take (m * member_words) was ++ member_rows ws at j
    pub rest : drop ((m + n) * member_words) is ≡ drop ((m + n) * member_words) was
    pub long : length is ≡ length was

  pub rows_start : Rows 0 was
  unfolding member_rows
  rows_start =
      let first : m + 0 ≡ m = omega arith in
      record {
        few = omega arith;
        front = ap (λ (k : ℕ). take (k * member_words) was) first ∙ sym (append-nil (take (m * member_words) was));
        rest = refl;
        long = refl;
      }

  pub rows_more : (j : ℕ) (is : List ℕ) → j < n → (m + n) * member_words ≤ length was → Rows j is
      → Rows (j + 1) (with_part member_words is ((m + j) * member_words) (member_row j))
  unfolding member_rows
  rows_more j is h room r =
      let at_row : (m + (j + 1)) * member_words ≡ (m + j) * member_words + member_words = omega arith in
      let fits : (m + j) * member_words + member_words ≤ length is = omega (arith, r.long, room, h) in
      record {
        few = omega arith;
        front =
            ap (λ (k : ℕ). take k (with_part member_words is ((m + j) * member_words) (member_row j))) at_row
            ∙ take_part member_words is (member_row j) ((m + j) * member_words) refl fits
            ∙ ap (λ l. l ++ member_row j) r.front
            ∙ append_assoc (take (m * member_words) was) (member_rows ws at j) (member_row j)
            ∙ ap (λ (k : ℕ). take (m * member_words) was ++ member_rows ws at k) (sym (add-one j));
        rest = drop_part member_words is (member_row j) ((m + j) * member_words) refl fits ((m + n) * member_words) (omega (arith, h)) ∙ r.rest;
        long = part-length member_words is (member_row j) ((m + j) * member_words) refl fits ∙ r.long;
      }

-- ---- the bounds of one record more
none_bounds : InnerBounds (inner_of 0 0 0 0 0 0)
unfolding inner_of
none_bounds = omega arith

module _ (ts : List ℕ) (w : Words) (n : ℕ) (whole : length ts ≡ n * type_words) where
  before_word : (t k : ℕ) → t < n → k < type_words → type_word (ts ++ listed w) t k ≡ type_word ts t k
  before_word t k h l = get_or-append ts (listed w) 0 (t * type_words + k) (omega (arith, whole, h, l))

  own_word : (k : ℕ) → type_word (ts ++ listed w) n k ≡ get_or (listed w) k 0
  own_word k = ap (λ (i : ℕ). get_or (ts ++ listed w) (i + k) 0) (sym whole) ∙ get_or-append-add ts (listed w) k 0

  after_word : (t k : ℕ) → n < t → type_word (ts ++ listed w) t k ≡ 0
  after_word t k h =
      get_or-eq_default (ts ++ listed w) 0 (omega (arith, whole, h, length-append ts (listed w)))

  pub bounded_more : Bounded ts → InnerBounds (inner_in w) → Bounded (ts ++ listed w)
  unfolding type_inner
  bounded_more b own t = by (dec_le n t) (dec_le t n)
    where
      by : Dec (n ≤ t) → Dec (t ≤ n) → InnerBounds (type_inner (ts ++ listed w) t)
      by (no h) l =
          let less : t < n = omega (arith, h) in
          rw (before_word t 0 less (omega arith), before_word t 1 less (omega arith), before_word t 2 less (omega arith), before_word t 3 less (omega arith), before_word t 4 less (omega arith), before_word t 5 less (omega arith)) (b t)
      by (yes h) (yes l) =
          let same : t ≡ n = omega (arith, h, l) in
          rw (same, own_word 0, own_word 1, own_word 2, own_word 3, own_word 4, own_word 5) own
      by (yes h) (no l) =
          let more : n < t = omega (arith, l) in
          zeros (after_word t 0 more) (after_word t 1 more) (after_word t 2 more) (after_word t 3 more) (after_word t 4 more) (after_word t 5 more)
        where
          zeros : type_word (ts ++ listed w) t 0 ≡ 0 → type_word (ts ++ listed w) t 1 ≡ 0 → type_word (ts ++ listed w) t 2 ≡ 0 → type_word (ts ++ listed w) t 3 ≡ 0
              → type_word (ts ++ listed w) t 4 ≡ 0 → type_word (ts ++ listed w) t 5 ≡ 0 → InnerBounds (type_inner (ts ++ listed w) t)
          zeros a b c d e f = rw (a, b, c, d, e, f) none
            where
              none : InnerBounds (inner_of 0 0 0 0 0 0)
              none = none_bounds

pub bounded_none : Bounded []
unfolding type_inner inner_of
bounded_none t = omega arith
