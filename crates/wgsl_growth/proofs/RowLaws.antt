-- The records that a reading adds, in whatever tables start with them: a type record, and the record and the member records of a struct.
-- Assumes nothing.
use mathlib.Core.Path.{◌≡◌, refl, sym, ap, ◌∙◌}
use mathlib.Core.List.{List, [], ◌∷◌, ◌++◌, append_assoc, append-nil}
use Prim.Native.Nat.{ℕ, zero, suc, ◌+◌, ◌-◌, ◌*◌, ◌≤◌, ◌<◌, min}
use native.Mathlib.Omega.{arith}
use lib.ListN.{length, get_or, take, drop, length-append, get_or-append}
use lib.Seq.{take_at, drop_at, get_or-append-add}
use Rattle.ir_records.specs.Record.{type_words, member_words, type_word, type_count, member_count, member_type, member_offset, inner_of, inner_in, type_inner, struct_members}
use Rattle.ir_records.specs.declared.Words.{Words}
use Rattle.ir_records.specs.declared.TypeInner.TheVariants.{Struct}
use Rattle.ir_records.proofs.RecordLaws.{members-part}
use Rattle.proc_alignment.specs.Alignment.{round_up, most}
use Rattle.proc_alignment.proofs.RoundLaws.{round_up_next}
use Rattle.wgsl_tokens.specs.Tokens.{Token}
use Rattle.wgsl_placement.specs.Placement.{words_of, struct_record}
use Rattle.wgsl_tables.specs.Tables.{Records}
use Rattle.wgsl_members.specs.Members.{Members, with_member}
use Rattle.wgsl_structs.specs.Structs.{Declared, start_of, span_of}
use Rattle.wgsl_growth.specs.Written.{Each, Written, align_of, size_of, placed_after, with_record, Extends}
use Rattle.wgsl_growth.proofs.InductionLaws.{Whole}
use Rattle.wgsl_growth.proofs.PlacingLaws.{end_from, align_from, offsets_from, align_above, placed_end, placed_align}

-- ---- a type record more, in tables that start with it
module _ (t : Records) (w : Words) (whole : Whole type_words t) (ts : List ℕ) (more : Extends (with_record t w).words ts) where
  long : length ts ≡ t.made * type_words + type_words + length more.0
  long =
      ap length more.1 ∙ length-append (t.words ++ words_of w) more.0
      ∙ ap (λ (n : ℕ). n + length more.0) (length-append t.words (words_of w) ∙ ap (λ (n : ℕ). n + type_words) whole)

  word_there : (j : ℕ) → j < type_words → type_word ts t.made j ≡ get_or (words_of w) j 0
  word_there j h =
      ap (λ (l : List ℕ). get_or l (t.made * type_words + j) 0) more.1
      ∙ get_or-append (t.words ++ words_of w) more.0 0 (t.made * type_words + j) (omega (arith, length-append t.words (words_of w), whole))
      ∙ ap (λ (n : ℕ). get_or (t.words ++ words_of w) (n + j) 0) (sym whole)
      ∙ get_or-append-add t.words (words_of w) j 0

  pub inner_there : type_inner ts t.made ≡ inner_in w
  unfolding type_inner
  inner_there =
      rw (word_there 0 (omega arith), word_there 1 (omega arith), word_there 2 (omega arith), word_there 3 (omega arith), word_there 4 (omega arith), word_there 5 (omega arith))

  kind_there : type_word ts t.made 0 ≡ w.kind
  kind_there = word_there 0 (omega arith)

  first_there : type_word ts t.made 1 ≡ w.a
  first_there = word_there 1 (omega arith)

  count_there : type_word ts t.made 2 ≡ w.b
  count_there = word_there 2 (omega arith)

  record_within : t.made < type_count ts
  record_within = omega (arith, long)

-- ---- the member records that members make, from an end on
unfoldable pub rows_from : ℕ → List Written → List ℕ
rows_from e [] = []
rows_from e (w ∷ ws) = w.shape.number ∷ min (round_up (align_of w) e) most ∷ 0 ∷ 0 ∷ rows_from (round_up (align_of w) e + size_of w) ws

placed_rows : (m : Members) (ws : List Written) → (placed_after m ws).members.words ≡ m.members.words ++ rows_from m.end ws
unfolding placed_after rows_from with_member
placed_rows m [] = sym (append-nil m.members.words)
placed_rows m (w ∷ ws) =
    placed_rows (with_member m w.attributes w.name w.shape w.types w.rest) ws
    ∙ append_assoc m.members.words (w.shape.number ∷ min (round_up (align_of w) m.end) most ∷ 0 ∷ 0 ∷ [])
    (rows_from (round_up (align_of w) m.end + size_of w) ws)

placed_made : (m : Members) (ws : List Written) → (placed_after m ws).members.made ≡ m.members.made + length ws
unfolding placed_after with_member
placed_made m [] = omega arith
placed_made m (w ∷ ws) = let h = placed_made (with_member m w.attributes w.name w.shape w.types w.rest) ws in omega arith

rows_length : (e : ℕ) (ws : List Written) → length (rows_from e ws) ≡ length ws * member_words
unfolding rows_from
rows_length e [] = refl
rows_length e (w ∷ ws) = let h = rows_length (round_up (align_of w) e + size_of w) ws in omega arith

-- after the first
module _ (a b c d : ℕ) (rest : List ℕ) (i : ℕ) where
  pub type_later : member_type (a ∷ b ∷ c ∷ d ∷ rest) (suc i) ≡ member_type rest i
  type_later =
      let four : suc i * member_words ≡ suc (suc (suc (suc (i * member_words)))) = omega arith in
      ap (λ (k : ℕ). get_or (a ∷ b ∷ c ∷ d ∷ rest) k 0) four

  offset-later : member_offset (a ∷ b ∷ c ∷ d ∷ rest) (suc i) ≡ member_offset rest i
  offset-later =
      let four : suc i * member_words + 1 ≡ suc (suc (suc (suc (i * member_words + 1)))) = omega arith in
      ap (λ (k : ℕ). get_or (a ∷ b ∷ c ∷ d ∷ rest) k 0) four

-- ---- the offsets in them: up to the limit
row_offset : (e : ℕ) (ws : List Written) (j : ℕ) → j < length ws → member_offset (rows_from e ws) j ≡ min (get_or (offsets_from e ws) j 0) most
unfolding rows_from offsets_from
row_offset e [] j h = absurd (omega arith)
row_offset e (w ∷ ws) zero h = refl
row_offset e (w ∷ ws) (suc j) h =
    offset-later w.shape.number (min (round_up (align_of w) e) most) 0 0 (rows_from (round_up (align_of w) e + size_of w) ws) j
    ∙ row_offset (round_up (align_of w) e + size_of w) ws j (omega arith)

end_above : (e : ℕ) (ws : List Written) → Each (λ w. 1 ≤ align_of w) ws → e ≤ end_from e ws
unfolding end_from
end_above e [] p = omega arith
end_above e (w ∷ ws) p =
    let up = (round_up_next (align_of w) e p.0).0 in
    let rest = end_above (round_up (align_of w) e + size_of w) ws p.1 in
    omega arith

offset-within : (e : ℕ) (ws : List Written) → Each (λ w. 1 ≤ align_of w) ws → (j : ℕ) → j < length ws → get_or (offsets_from e ws) j 0 ≤ end_from e ws
unfolding end_from offsets_from
offset-within e [] p j h = absurd (omega arith)
offset-within e (w ∷ ws) p zero h = let rest = end_above (round_up (align_of w) e + size_of w) ws p.1 in omega arith
offset-within e (w ∷ ws) p (suc j) h = offset-within (round_up (align_of w) e + size_of w) ws p.1 j (omega arith)

-- none is above the limit where the span is not
pub row_offset_is : (ws : List Written) → Each (λ w. 1 ≤ align_of w) ws → round_up (align_from 1 ws) (end_from 0 ws) ≤ most → (j : ℕ) → j < length ws
    → member_offset (rows_from 0 ws) j ≡ get_or (offsets_from 0 ws) j 0
row_offset_is ws p small j h =
    let limited = row_offset 0 ws j h in
    let within = offset-within 0 ws p j h in
    let up = (round_up_next (align_from 1 ws) (end_from 0 ws) (align_above 1 ws)).0 in
    omega arith

-- ---- a struct, in tables that start with its record and its rows
module _ (d : Declared) (tokens : List Token) (ws : List Written) where
  abbrev pub all : Members
  all = placed_after (start_of d tokens) ws

  abbrev pub words : Words
  words = struct_record d.members.made (all.members.made - d.members.made) (span_of all)

  pub span_is : span_of all ≡ round_up (align_from 1 ws) (end_from 0 ws)
  span_is = rw (placed_align (start_of d tokens) ws, placed_end (start_of d tokens) ws)

  total : all.members.made - d.members.made ≡ length ws
  total = omega (arith, placed_made (start_of d tokens) ws)

  module _ (whole : Whole member_words d.members) (types-whole : Whole type_words all.types) (members-whole : Whole member_words all.members) (ts ms : List ℕ)
      (x : Extends (with_record all.types words).words ts) (y : Extends all.members.words ms) where
    pub struct_there : type_inner ts all.types.made ≡ Struct (length ws) (span_of all)
    unfolding inner_of
    struct_there = inner_there all.types words types-whole ts x ∙ ap (λ (n : ℕ). Struct n (span_of all)) total

    table_is : ms ≡ d.members.words ++ (rows_from 0 ws ++ y.0)
    table_is = y.1 ∙ ap (λ (l : List ℕ). l ++ y.0) (placed_rows (start_of d tokens) ws) ∙ append_assoc d.members.words (rows_from 0 ws) y.0

    within : type_word ts all.types.made 1 + type_word ts all.types.made 2 ≤ member_count ms
    within =
        let first = first_there all.types words types-whole ts x in
        let count = count_there all.types words types-whole ts x in
        let long : length ms ≡ all.members.made * member_words + length y.0 =
        ap length y.1 ∙ length-append all.members.words y.0 ∙ ap (λ (n : ℕ). n + length y.0) members-whole in
        omega (arith, placed_made (start_of d tokens) ws)

    pub rows_there : struct_members ts ms all.types.made ≡ rows_from 0 ws
    rows_there =
        members-part ts ms all.types.made (record_within all.types words types-whole ts x) (kind_there all.types words types-whole ts x) within
        ∙ ap (λ (n : ℕ). take (n * member_words) (drop (type_word ts all.types.made 1 * member_words) ms)) (count_there all.types words types-whole ts x ∙ total)
        ∙ ap (λ (n : ℕ). take (length ws * member_words) (drop (n * member_words) ms)) (first_there all.types words types-whole ts x)
        ∙ ap (λ (l : List ℕ). take (length ws * member_words) (drop (d.members.made * member_words) l)) table_is
        ∙ ap (λ (l : List ℕ). take (length ws * member_words) l) (drop_at d.members.words (rows_from 0 ws ++ y.0) (d.members.made * member_words) whole)
        ∙ take_at (rows_from 0 ws) y.0 (length ws * member_words) (rows_length 0 ws)
