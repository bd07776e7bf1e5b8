-- Laws of layouts: one type, one record.
-- Assumes nothing.
use mathlib.Core.Path.{◌≡◌, refl, sym, ◌∙◌, ap}
use mathlib.Core.Bool.{Bool, true, false, ◌&&◌}
use mathlib.Core.List.{List}
use Prim.Native.Nat.{ℕ, ◌+◌, ◌*◌, ◌≤◌}
use native.Mathlib.Omega.{arith}
use lib.Dec.{eqb, leb, leb→le}
use lib.ListN.{length, take, drop}
use Rattle.ir_records.specs.Result.{err, pick, require, and_then}
use Rattle.ir_records.specs.Record.{member_words, member_count, type_count, type_word, struct_kind, struct_members, inner_of}
use Rattle.std.specs.Prelude.{Option, Some, None, Ok, Err}
use Rattle.std.specs.Option.{ok_or}
use Rattle.ir_records.specs.Serving.{record_words, size_of}
use Rattle.ir_records.specs.Fields.{fields_ok, sources_located}
use Rattle.ir_records.specs.Serving.{InnerBounds}
use Rattle.ir_records.specs.declared.Words.{Words}
use Rattle.ir_records.specs.declared.TypeInner.TheVariants.{Array, RuntimeArray}
use Rattle.ir_records.proofs.ResultLaws.{true_T, and_left, refused_twice}
use Rattle.ir_records.proofs.RecordLaws.{members_no_struct, members-part, no_rows_located, fields_bounds}
use Rattle.proc_type_methods.specs.TypeMethods.{try_size}
use Rattle.proc_type_methods.specs.Serving.{size_by_count}
use Rattle.proc_type_alignment.specs.declared.TypeLayout.{TypeLayout}
use Rattle.proc_type_alignment.specs.TypeAlignment.{base_alignment, alignment_of}
use Rattle.proc_type_layout.specs.TypeLayout.{sized_layout, layout_of}
use Rattle.proc_type_layout.specs.Serving.{words_layout, record_layout}

-- ---- one type
-- the bounds of fields that are in order
pub taken_bounds : (kind a b c d e : ℕ) → ((m : ℕ) → fields_ok m kind a b c d e ≡ true) → InnerBounds (inner_of kind a b c d e)
taken_bounds kind a b c d e taken = fields_bounds 0 kind a b c d e (true_T (taken 0))

-- an array, by its form
pub array_laid : (layouts : ℕ → TypeLayout) (i base form count stride : ℕ) (part : List ℕ)
    → and_then (size_by_count (size_of form count) stride) (sized_layout (base_alignment layouts i base))
    ≡ layout_of layouts i (pick (eqb form 0) (Array base count stride) (RuntimeArray base stride)) part
unfolding layout_of try_size alignment_of
array_laid layouts i base form count stride part = go (eqb form 0)
  where
    go : (t : Bool) → and_then (size_by_count (pick t (Some count) None) stride) (sized_layout (base_alignment layouts i base))
        ≡ layout_of layouts i (pick t (Array base count stride) (RuntimeArray base stride)) part
    go true = refl
    go false = refl

-- a size that is there, or is not
pub some_size : {E : Type 0} (size : Option ℕ) (e : E) (n : ℕ) → ok_or size e ≡ Ok n → size ≡ Some n
some_size (Some k) e n same = cc
some_size None e n same = cc

pub no_size : {E : Type 0} (size : Option ℕ) (e f : E) → ok_or size e ≡ Err f → (size ≡ None) × (f ≡ e)
no_size (Some k) e f same = cc
no_size None e f same = (refl, cc)

-- ---- one record, by the words that were read of it
module _ (ts ms : List ℕ) (layouts : ℕ → TypeLayout) (i : ℕ) (w : Words) (read : w ≡ record_words ts i) where
  -- a record that is no struct has no rows
  pub by_words : (kind : ℕ) → w.kind ≡ kind → (kind ≡ struct_kind → ⊥) → i * 6 + 6 ≤ length ts
      → words_layout (member_count ms) (type_count ts) layouts i kind w.a w.b w.c w.d w.e (struct_members ts ms i) ≡ record_layout ts ms layouts i
  unfolding record_layout
  by_words kind e other h =
      let none = members_no_struct ts ms i (omega (arith, h)) (λ q. other (sym e ∙ ap (λ (x : Words). x.kind) read ∙ q)) in
      rw (← e, read, no_rows_located (struct_members ts ms i) none) refl

  pub unfit_words : fields_ok (member_count ms) w.kind w.a w.b w.c w.d w.e ≡ false → err 2 0 0 ≡ record_layout ts ms layouts i
  unfolding record_layout
  unfit_words e = rw (rw read at e) (sym (refused_twice 2 0 0 (sources_located (struct_members ts ms i))))

-- the member rows of a struct whose fields are in order lie in the table
pub members-within : (m a b c d e : ℕ) → fields_ok m struct_kind a b c d e ≡ true → a + b ≤ m
unfolding fields_ok
members-within m a b c d e h =
    leb→le (a + b) m (and_left (leb (a + b) m) (eqb d 0) (and_left (leb (a + b) m && eqb d 0) (eqb e 0) (true_T h)))

-- a struct: its rows are read only where its fields are in order
pub struct-words : (ts ms : List ℕ) (layouts : ℕ → TypeLayout) (i : ℕ) (w : Words) → w ≡ record_words ts i → w.kind ≡ struct_kind → i * 6 + 6 ≤ length ts
    → require (sources_located (take (w.b * member_words) (drop (w.a * member_words) ms))) 2 0 0
    (words_layout (member_count ms) (type_count ts) layouts i struct_kind w.a w.b w.c w.d w.e (take (w.b * member_words) (drop (w.a * member_words) ms)))
    ≡ record_layout ts ms layouts i
unfolding record_layout
struct-words ts ms layouts i w read k h =
    rw read (go (fields_ok (member_count ms) struct_kind (type_word ts i 1) (type_word ts i 2) (type_word ts i 3) (type_word ts i 4) (type_word ts i 5)) refl)
  where
    kind : type_word ts i 0 ≡ struct_kind
    kind = rw read at k

    go : (t : Bool) → fields_ok (member_count ms) struct_kind (type_word ts i 1) (type_word ts i 2) (type_word ts i 3) (type_word ts i 4) (type_word ts i 5) ≡ t
        → require (sources_located (take (type_word ts i 2 * member_words) (drop (type_word ts i 1 * member_words) ms))) 2 0 0
        (words_layout (member_count ms) (type_count ts) layouts i struct_kind (type_word ts i 1) (type_word ts i 2) (type_word ts i 3) (type_word ts i 4) (type_word ts i 5)
        (take (type_word ts i 2 * member_words) (drop (type_word ts i 1 * member_words) ms)))
        ≡ record_layout ts ms layouts i
    go true e =
        let within = members-within (member_count ms) (type_word ts i 1) (type_word ts i 2) (type_word ts i 3) (type_word ts i 4) (type_word ts i 5) e in
        rw (members-part ts ms i (omega (arith, h)) kind within, kind) refl
    go false e =
        rw (kind, e)
        (refused_twice 2 0 0 (sources_located (take (type_word ts i 2 * member_words) (drop (type_word ts i 1 * member_words) ms)))
        ∙ sym (refused_twice 2 0 0 (sources_located (struct_members ts ms i))))
