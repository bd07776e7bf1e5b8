-- Laws of a row that is made with its layout in one choice by the kind.
-- Assumes nothing.
use Rattle.std.specs.Prelude as std
use Rattle.ir_records.specs.declared.TypeRefusal.{TypeRefusal}
use Rattle.ir_records.specs.declared.Words.{Words}
use Rattle.ir_records.specs.Refusal.{judged, number_of}
use mathlib.Core.Path.{◌≡◌, refl, sym, ◌∙◌, ap}
use mathlib.Core.Bool.{false}
use mathlib.Core.List.{List}
use Prim.Native.Nat.{ℕ, ◌*◌}
use Rattle.ir_records.specs.Result.{Result, err, ok, require, and_then}
use Rattle.ir_records.specs.Record.{array_kind, inner_of}
use Rattle.ir_records.specs.Fields.{fields_ok, base_within}
use Rattle.ir_records.specs.declared.Leaf.{Leaf}
use Rattle.ir_records.specs.declared.TypeInner.{TypeInner}
use Rattle.ir_records.specs.declared.TypeInner.TheVariants.{Plain}
use Rattle.ir_records.proofs.ResultLaws.{required}
use Rattle.proc_type_alignment.specs.declared.TypeLayout.{TypeLayout}
use Rattle.proc_type_alignment.specs.TypeAlignment.{leaf_width, leaf_factor, alignment_of}
use Rattle.proc_type_alignment.specs.Serving.{layouts_in}
use Rattle.proc_type_alignment.proofs.AcceptedAlignment.{leaf_accepted}
use Rattle.proc_type_layout.specs.TypeLayout.{layout_of}
use Rattle.proc_type_layout.specs.Serving.{words_layout}
use Rattle.proc_type_layout.proofs.AcceptedParts.{layout_parts}
use Rattle.valid_type_info.specs.TypeInfo.{rows_in, row_sizes, row_flags}
use Rattle.valid_types.specs.declared.PlainRow.{PlainRow}
use Rattle.valid_types.specs.ValidateType.{flags_of, row_of, judge}
use Rattle.valid_types.specs.Serving.{plain_row, array_of, RowIn}
use Rattle.valid_types.specs.Serving.{words_row}
use Rattle.valid_types.proofs.RowParts.{array_judged}

-- what follows a result may differ where there is none
pub and_then_same {ℓ κ} : {A : Type ℓ} {B : Type κ} (o : Result A) (f g : A → Result B) → ((a : A) → o ≡ ok a → f a ≡ g a) → and_then o f ≡ and_then o g
and_then_same (ok a) f g h = h a refl
and_then_same (err n m d) f g h = refl

-- the alignment in the layout of a leaf
pub leaf_alignment_in : (m n i : ℕ) (layouts : ℕ → TypeLayout) (kind a b c d e : ℕ) (members : List ℕ) (leaf : Leaf) → inner_of kind a b c d e ≡ Plain leaf
    → (l : TypeLayout) → words_layout m n layouts i kind a b c d e members ≡ ok l → l.alignment ≡ leaf_factor leaf * leaf_width leaf
unfolding alignment_of
leaf_alignment_in m n i layouts kind a b c d e members leaf says l w =
    let p = required (fields_ok m kind a b c d e) 2 0 0 (require (base_within n kind a) 3 0 0 (layout_of layouts i (inner_of kind a b c d e) members)) l w in
    let q = required (base_within n kind a) 3 0 0 (layout_of layouts i (inner_of kind a b c d e) members) l p.1 in
    let parts = layout_parts layouts i (Plain leaf) members l (rw says at q.1) in
    sym (leaf_accepted leaf l.alignment parts.1).1

-- a record of this kind with the words w, by its layout and its flags
module _ (c n : ℕ) (inner : ℕ → TypeInner) (words : List ℕ) (kind : ℕ) (w : Words) (laid : std.Result TypeLayout TypeRefusal)
    (told : (m i : ℕ) (members : List ℕ) → judged laid ≡ words_layout m n (layouts_in words) i kind w.a w.b w.c w.d w.e members) where
  -- of which the layout is refused
  pub layout_refused : (e : TypeRefusal) → laid ≡ std.Err e → (r : std.Result PlainRow TypeRefusal) → r ≡ std.Err e → RowIn r c n inner words kind w
  layout_refused e was r same =
      λ least m i members.
      let layout : words_layout m n (layouts_in words) i kind w.a w.b w.c w.d w.e members ≡ err (number_of e.fault) e.member e.detail =
      sym (told m i members) ∙ ap judged was in
      rw (same, layout) refl

  module _ (l : TypeLayout) (was : laid ≡ std.Ok l) (flags : std.Result ℕ TypeRefusal)
      (by : (members : List ℕ) → judged flags ≡ flags_of c inner (row_sizes (rows_in words)) (row_flags (rows_in words)) (inner_of kind w.a w.b w.c w.d w.e) members) where
    laid_out : (m i : ℕ) (members : List ℕ) → words_layout m n (layouts_in words) i kind w.a w.b w.c w.d w.e members ≡ ok l
    laid_out m i members = sym (told m i members) ∙ ap judged was

    -- of which the flags are
    pub flags_refused : (e : TypeRefusal) → flags ≡ std.Err e → (r : std.Result PlainRow TypeRefusal) → r ≡ std.Err e → RowIn r c n inner words kind w
    unfolding judge
    flags_refused e is r same =
        λ least m i members. rw (same, laid_out m i members, sym (by members) ∙ ap judged is) refl

    -- of which none is
    pub row_made : (f : ℕ) → flags ≡ std.Ok f → (row : PlainRow)
        → ((least m i : ℕ) (members : List ℕ) → words_layout m n (layouts_in words) i kind w.a w.b w.c w.d w.e members ≡ ok l
        → plain_row row.layout row.verdict row.immediates row.flags ≡ row_of least inner (rows_in words) i l (inner_of kind w.a w.b w.c w.d w.e) members f)
        → RowIn (std.Ok row) c n inner words kind w
    unfolding judge
    row_made f is row made =
        λ least m i members.
        let layout = laid_out m i members in
        rw (layout, sym (by members) ∙ ap judged is) (ap ok (made least m i members layout))

-- no kind: number 2
pub no_row : (least c m n : ℕ) (inner : ℕ → TypeInner) (words : List ℕ) (i : ℕ) (members : List ℕ) (kind a b d e f : ℕ) → fields_ok m kind a b d e f ≡ false
    → err 2 0 0 ≡ words_row least c m n inner words i kind a b d e f members
no_row least c m n inner words i members kind a b d e f none = rw none refl

-- an array that passes 2 to 7
pub array_row_is : (least c m n : ℕ) (inner : ℕ → TypeInner) (words : List ℕ) (i base form count stride e : ℕ) (members : List ℕ) (l : TypeLayout)
    → words_layout m n (layouts_in words) i array_kind base form count stride e members ≡ ok l
    → words_row least c m n inner words i array_kind base form count stride e members ≡ array_of least form i stride (rows_in words base) l
unfolding inner_of
array_row_is least c m n inner words i base form count stride e members l w =
    rw w (sym (array_judged least c inner (rows_in words) i l members (inner_of array_kind base form count stride e) base form count stride refl))

-- a type that 2 to 7 refuse
pub refused_row : (least c m n : ℕ) (inner : ℕ → TypeInner) (words : List ℕ) (i kind a b d e f : ℕ) (members : List ℕ) {number member detail : ℕ}
    → words_layout m n (layouts_in words) i kind a b d e f members ≡ err number member detail
    → words_row least c m n inner words i kind a b d e f members ≡ err number member detail
refused_row least c m n inner words i kind a b d e f members w = rw w refl
