-- Laws of a struct's row that is made with its layout, and of any type's by the words of its record.
-- Assumes nothing.
use mathlib.Core.Path.{◌≡◌, refl, sym, ◌∙◌, ap}
use mathlib.Core.Bool.{Bool, true, false}
use mathlib.Core.List.{List}
use Prim.Native.Nat.{ℕ, ◌+◌, ◌*◌, ◌≤◌}
use native.Mathlib.Omega.{arith}
use lib.ListN.{length, take, drop}
use Rattle.ir_records.specs.Result.{ok, err, require}
use Rattle.ir_records.specs.Record.{member_words, member_count, type_count, type_word, struct_kind, inner_of, type_inner, struct_members}
use Rattle.ir_records.specs.Serving.{record_words}
use Rattle.ir_records.specs.Fields.{fields_ok, sources_located}
use Rattle.ir_records.specs.declared.Words.{Words}
use Rattle.ir_records.specs.declared.TypeInner.{TypeInner}
use Rattle.ir_records.specs.declared.TypeInner.TheVariants.{Struct}
use Rattle.ir_records.proofs.ResultLaws.{refused_twice, require_then}
use Rattle.ir_records.proofs.RecordLaws.{members_no_struct, members-part, no_rows_located}
use Rattle.proc_type_methods.specs.TypeMethods.{try_size}
use Rattle.proc_type_alignment.specs.TypeAlignment.{members_alignment, alignment_of}
use Rattle.proc_type_alignment.specs.Serving.{layouts_in}
use Rattle.proc_type_layout.specs.TypeLayout.{layout_of}
use Rattle.proc_type_layout.specs.Serving.{record_layout}
use Rattle.proc_type_layout.proofs.TypeLayoutLaws.{members-within}
use Rattle.valid_type_info.specs.TypeInfo.{rows_in}
use Rattle.valid_types.specs.ValidateType.{judge}
use Rattle.valid_types.specs.Serving.{words_row, record_row}

-- a struct whose fields are in order
module _ (least c m n : ℕ) (inner : ℕ → TypeInner) (words : List ℕ) (i first count span d e : ℕ) (members : List ℕ) (fit : fields_ok m struct_kind first count span d e ≡ true) where
  pub struct_row_is : (alignment : ℕ) → members_alignment (layouts_in words) i members count ≡ ok alignment
      → words_row least c m n inner words i struct_kind first count span d e members
      ≡ judge least c inner (rows_in words) i (record { size = span; alignment = alignment }) (Struct count span) members
  unfolding inner_of layout_of try_size alignment_of
  struct_row_is alignment a = rw (fit, a) refl

  pub struct_row_refused : (located : Bool) {number member detail : ℕ} → require located 2 0 0 (members_alignment (layouts_in words) i members count) ≡ err number member detail
      → require located 2 0 0 (words_row least c m n inner words i struct_kind first count span d e members) ≡ err number member detail
  unfolding inner_of layout_of try_size alignment_of
  struct_row_refused true a = rw (fit, a) refl
  struct_row_refused false {number} {member} {detail} a = let t : (2 ≡ number) × (0 ≡ member) × (0 ≡ detail) = (cc, cc, cc) in rw (← t.0, ← t.1, ← t.2) refl

-- ---- record i, by the words that were read of it
module _ (least c : ℕ) (ts ms words : List ℕ) (i : ℕ) (w : Words) (read : w ≡ record_words ts i) where
  -- a record that is no struct has no rows
  pub by_words : (kind : ℕ) → w.kind ≡ kind → (kind ≡ struct_kind → ⊥) → i * 6 + 6 ≤ length ts
      → words_row least c (member_count ms) (type_count ts) (type_inner ts) words i kind w.a w.b w.c w.d w.e (struct_members ts ms i) ≡ record_row least c ts ms words i
  unfolding record_row record_layout type_inner
  by_words kind e other h =
      let none = members_no_struct ts ms i (omega (arith, h)) (λ q. other (sym e ∙ ap (λ (x : Words). x.kind) read ∙ q)) in
      rw (← e, read, no_rows_located (struct_members ts ms i) none) refl

  -- a struct: its member rows are read only where its fields are in order
  pub struct-words : w.kind ≡ struct_kind → i * 6 + 6 ≤ length ts
      → require (sources_located (take (w.b * member_words) (drop (w.a * member_words) ms))) 2 0 0
      (words_row least c (member_count ms) (type_count ts) (type_inner ts) words i struct_kind w.a w.b w.c w.d w.e (take (w.b * member_words) (drop (w.a * member_words) ms)))
      ≡ record_row least c ts ms words i
  unfolding record_row record_layout type_inner
  struct-words k h =
      rw read (go (fields_ok (member_count ms) struct_kind (type_word ts i 1) (type_word ts i 2) (type_word ts i 3) (type_word ts i 4) (type_word ts i 5)) refl)
    where
      kind : type_word ts i 0 ≡ struct_kind
      kind = rw read at k

      go : (t : Bool) → fields_ok (member_count ms) struct_kind (type_word ts i 1) (type_word ts i 2) (type_word ts i 3) (type_word ts i 4) (type_word ts i 5) ≡ t
          → require (sources_located (take (type_word ts i 2 * member_words) (drop (type_word ts i 1 * member_words) ms))) 2 0 0
          (words_row least c (member_count ms) (type_count ts) (type_inner ts) words i struct_kind (type_word ts i 1) (type_word ts i 2) (type_word ts i 3) (type_word ts i 4) (type_word ts i 5)
          (take (type_word ts i 2 * member_words) (drop (type_word ts i 1 * member_words) ms)))
          ≡ record_row least c ts ms words i
      go true e =
          let within = members-within (member_count ms) (type_word ts i 1) (type_word ts i 2) (type_word ts i 3) (type_word ts i 4) (type_word ts i 5) e in
          rw (members-part ts ms i (omega (arith, h)) kind within, kind)
          (require_then (sources_located (take (type_word ts i 2 * member_words) (drop (type_word ts i 1 * member_words) ms))) 2 0 0 _ _)
      go false e =
          rw (kind, e, refused_twice 2 0 0 (sources_located (take (type_word ts i 2 * member_words) (drop (type_word ts i 1 * member_words) ms))), refused_twice 2 0 0 (sources_located (struct_members ts ms i))) refl
