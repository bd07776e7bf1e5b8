-- The rows that a struct names, read from two tables with the same types and offsets.
-- Assumes nothing.
use mathlib.Core.Path.{◌≡◌, refl, sym, ◌∙◌, ap}
use mathlib.Core.Bool.{Bool, true, false, ◌&&◌}
use mathlib.Core.List.{List, []}
use Prim.Native.Nat.{ℕ, ◌+◌, ◌*◌, ◌≤◌, ◌<◌}
use native.Mathlib.Decide.{dec_lt}
use native.Mathlib.Omega.{arith}
use lib.Dec.{eqb, leb, ltb, leb→le}
use lib.ListN.{get_or, take, drop, length-take, get_or-eq_default}
use lib.Seq.{get_or-take, get_or-drop}
use Rattle.ir_records.specs.Result.{pick}
use Rattle.ir_records.specs.Record.{type_count, type_word, struct_kind, member_words, member_count, member_type, member_offset, member_source, struct_members, Sourceless}
use Rattle.ir_records.proofs.ResultLaws.{true_T, and_right}
use Rattle.valid_blend_laws.specs.SameRows.{SameRows}

-- the same type and offset of every member
pub record SameFields (part part' : List ℕ) : Type 0 where
  pub types : (j : ℕ) → member_type part j ≡ member_type part' j
  pub offsets : (j : ℕ) → member_offset part j ≡ member_offset part' j

-- ---- word w of row j of a part
row-word : (ms : List ℕ) (first count j w : ℕ) → w < member_words → j < count
    → get_or (take (count * member_words) (drop (first * member_words) ms)) (j * member_words + w) 0 ≡ get_or ms ((first + j) * member_words + w) 0
row-word ms first count j w h l =
    let at : first * member_words + (j * member_words + w) ≡ (first + j) * member_words + w = omega arith in
    get_or-take (count * member_words) (drop (first * member_words) ms) (j * member_words + w) 0 (omega (arith, h, l))
    ∙ get_or-drop (first * member_words) ms (j * member_words + w) 0
    ∙ ap (λ (k : ℕ). get_or ms k 0) at

row_past : (l : List ℕ) (count j w : ℕ) → count ≤ j → get_or (take (count * member_words) l) (j * member_words + w) 0 ≡ 0
row_past l count j w h = get_or-eq_default (take (count * member_words) l) 0 (omega (arith, h, length-take (count * member_words) l))

module _ (ts ms ms' : List ℕ) (same : SameRows ms ms') (i : ℕ) where
  abbrev first : ℕ
  first = type_word ts i 1

  abbrev rows : ℕ
  rows = type_word ts i 2

  abbrev part : List ℕ → List ℕ
  part l = take (rows * member_words) (drop (first * member_words) l)

  -- word w of row j, of a part that lies in the table
  word_same : (w : ℕ) → w < member_words → ((k : ℕ) → k < member_count ms → get_or ms (k * member_words + w) 0 ≡ get_or ms' (k * member_words + w) 0)
      → first + rows ≤ member_count ms → (j : ℕ) → get_or (part ms) (j * member_words + w) 0 ≡ get_or (part ms') (j * member_words + w) 0
  word_same w h read within j = go (dec_lt j rows)
    where
      go : Dec (j < rows) → get_or (part ms) (j * member_words + w) 0 ≡ get_or (part ms') (j * member_words + w) 0
      go (yes l) = row-word ms first rows j w h l ∙ read (first + j) (omega (arith, l, within)) ∙ sym (row-word ms' first rows j w h l)
      go (no l) = row_past (drop (first * member_words) ms) rows j w (omega arith) ∙ sym (row_past (drop (first * member_words) ms') rows j w (omega arith))

  parts_same : (t : Bool) → ltb i (type_count ts) && eqb (type_word ts i 0) struct_kind && leb (first + rows) (member_count ms) ≡ t
      → SameFields (pick t (part ms) []) (pick t (part ms') [])
  parts_same false e = record { types = λ j. refl; offsets = λ j. refl }
  parts_same true e =
      let within = leb→le (first + rows) (member_count ms) (and_right (ltb i (type_count ts) && eqb (type_word ts i 0) struct_kind) _ (true_T e)) in
      record {
        types = λ j. ap (λ (k : ℕ). get_or (part ms) k 0) (plus_none j) ∙ word_same 0 (omega arith) (λ k l. ap (λ (x : ℕ). get_or ms x 0) (sym (plus_none k)) ∙ same.types k l ∙ ap (λ (x : ℕ). get_or ms' x 0) (plus_none k)) within j ∙ ap (λ (k : ℕ). get_or (part ms') k 0) (sym (plus_none j));
        offsets = word_same 1 (omega arith) same.offsets within;
      }
    where
      plus_none : (k : ℕ) → k * member_words ≡ k * member_words + 0
      plus_none k = omega arith

  pub same_fields : SameFields (struct_members ts ms i) (struct_members ts ms' i)
  unfolding struct_members
  same_fields = rw (← same.count) (parts_same (ltb i (type_count ts) && eqb (type_word ts i 0) struct_kind && leb (first + rows) (member_count ms)) refl)

-- ---- no word past a part's rows is a blend source
pub never_sourced : (part : List ℕ) → Sourceless part (member_count part) → (j : ℕ) → member_source part j ≡ 0
never_sourced part none j = go (dec_lt j (member_count part))
  where
    go : Dec (j < member_count part) → member_source part j ≡ 0
    go (yes l) = none j l
    go (no l) = get_or-eq_default part 0 (omega arith)
