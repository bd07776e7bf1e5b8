-- The structs of a text are the types that it denotes, as the standard places them.
-- Assumes nothing.
use mathlib.Core.Path.{◌≡◌, refl, sym, ap, subst, ◌∙◌}
use mathlib.Core.Bool.{true}
use mathlib.Core.List.{List, ◌∷◌, ◌++◌}
use mathlib.Core.Option.{Option, none, some}
use Prim.Native.Nat.{ℕ, ◌≤◌}
use lib.ListN.{length}
use Rattle.ir_records.specs.Record.{type_words, member_words, decoded}
use Rattle.ir_records.specs.declared.TypeInner.TheVariants.{Struct}
use Rattle.proc_alignment.specs.Alignment.{round_up, most}
use Rattle.w3c_agreement.specs.Wgsl as wgsl
use Rattle.w3c_agreement.proofs.Agreement.{tables_agreement}
use Rattle.wgsl_tokens.specs.Tokens.{Token}
use Rattle.wgsl_placement.specs.Placement.{shape, words_of, scalar_record, template_record, array_record}
use Rattle.wgsl_members.specs.Members.{Members, attributes_fit}
use Rattle.wgsl_structs.specs.Structs.{Declared, start_of, span_of}
use Rattle.wgsl_growth.specs.Tree.{mapped}
use Rattle.wgsl_growth.specs.Written.{Each, Written, with_record, Extends, fields_of}
use Rattle.wgsl_growth.proofs.ReadLaws.{named_map}
use Rattle.wgsl_growth.proofs.InductionLaws.{each_map, extends_both, Whole, Claim, Fitting, Laws, text_held}
use Rattle.wgsl_growth.proofs.PlacingLaws.{end_from, align_from, placed_align}
use Rattle.wgsl_growth.proofs.RowLaws.{inner_there, all, words, span_is, struct_there, rows_there}
use Rattle.wgsl_placed.specs.Denoted.{Measured, MeasuredTree, TextDenoted, LayoutsMeasured}
use Rattle.wgsl_placed.proofs.LeafLaws.{scalar_measured, template_measured, array_measured}
use Rattle.wgsl_placed.proofs.TreeLaws.{fields-tree}
use Rattle.wgsl_placed.proofs.StructLaws.{struct_measured}

-- what is measured in whatever tables start with the records so far
abbrev Described : Claim
Described t m e x = (ts ms : List ℕ) → Extends t.words ts → Extends m.words ms → MeasuredTree (decoded ts ms) e x

-- ---- a struct, in tables that start with its record and its rows
module _ (d : Declared) (tokens : List Token) (w : Written) (ws : List Written) where
  abbrev members : Members
  members = all d tokens (w ∷ ws)

  abbrev struct_words : List ℕ
  struct_words = words_of (words d tokens (w ∷ ws))

  struct_described : Whole member_words d.members → Whole type_words members.types → Whole member_words members.members → span_of members ≤ most
      → Each (Fitting Described members.types members.members) (w ∷ ws)
      → Described (with_record members.types (words d tokens (w ∷ ws))) members.members
      (shape members.types.made (span_of members) members.align members.fixed) (mapped (λ x. wgsl.struct x) (fields_of w ws))
  struct_described whole types-whole members-whole small fits ts ms x y = go (fields_of w ws) refl
    where
      go : (z : Option wgsl.Members) → fields_of w ws ≡ z
          → MeasuredTree (decoded ts ms) (shape members.types.made (span_of members) members.align members.fixed) (mapped (λ x. wgsl.struct x) z)
      go none is = tt
      go (some fields) is =
          let more : Extends members.types.words (members.types.words ++ struct_words) = (struct_words, refl) in
          let before = extends_both members.types.words (members.types.words ++ struct_words) ts more x in
          let measured =
          each_map (Fitting Described members.types members.members) (λ w. MeasuredTree (decoded ts ms) w.shape w.tree) (λ w f. f.1 ts ms before y) (w ∷ ws) fits in
          let attributes =
          each_map (Fitting Described members.types members.members) (λ w. attributes_fit w.attributes w.shape ≡ true) (λ w f. f.0) (w ∷ ws) fits in
          let tree = fields-tree (decoded ts ms) w ws fields is measured in
          let inner = struct_there d tokens (w ∷ ws) whole types-whole members-whole ts ms x y in
          let rows = rows_there d tokens (w ∷ ws) whole types-whole members-whole ts ms x y in
          let placed =
          struct_measured (decoded ts ms) members.types.made w ws tree.0 attributes members.fixed (rw (span_is d tokens (w ∷ ws)) at small)
          (inner ∙ ap (λ (n : ℕ). Struct (length (w ∷ ws)) n) (span_is d tokens (w ∷ ws))) rows in
          subst (λ (n : ℕ). Measured (decoded ts ms) (shape members.types.made n members.align members.fixed) (wgsl.struct fields)) (sym (span_is d tokens (w ∷ ws)))
          (subst
          (λ (a : ℕ). Measured (decoded ts ms) (shape members.types.made (round_up (align_from 1 (w ∷ ws)) (end_from 0 (w ∷ ws))) a members.fixed) (wgsl.struct fields))
          (sym (placed_align (start_of d tokens) (w ∷ ws)))
          (subst
          (λ (f : wgsl.Members).
          Measured (decoded ts ms) (shape members.types.made (round_up (align_from 1 (w ∷ ws)) (end_from 0 (w ∷ ws))) (align_from 1 (w ∷ ws)) members.fixed) (wgsl.struct f))
          (sym tree.1) placed))

-- ---- every record
described : Laws Described Described
described =
    record {
      keeps = λ t m t' m' e z x y p ts ms x' y'. p ts ms (extends_both t.words t'.words ts x x') (extends_both m.words m'.words ms y y');
      keeps_struct = λ t m t' m' e z x y p ts ms x' y'. p ts ms (extends_both t.words t'.words ts x x') (extends_both m.words m'.words ms y y');
      of_struct = λ t m e z p. p;
      scalar = λ t m s whole ts ms x y. scalar_measured (decoded ts ms) t.made s (inner_there t (scalar_record s) whole ts x);
      template = λ t m v s whole ts ms x y. template_measured (decoded ts ms) t.made v s (inner_there t (template_record v s) whole ts x);
      array = λ t m c e z whole p ts ms x y.
          let more : Extends t.words (t.words ++ words_of (array_record c e)) = (words_of (array_record c e), refl) in
          array_measured (decoded ts ms) t.made c e z (inner_there t (array_record c e) whole ts x)
          (p ts ms (extends_both t.words (t.words ++ words_of (array_record c e)) ts more x) y);
      struct = λ d tokens w ws whole types members small fits. struct_described d tokens w ws whole types members small fits;
    }

pub text_denoted : TextDenoted
text_denoted types members s d e ts ms x y =
    let held = text_held Described Described described types members s d e in (
      held.0,
      held.1,
      named_map (Described d.types d.members) (λ e z. MeasuredTree (decoded ts ms) e z) (λ e z p. p ts ms x y) d.structs held.0 held.2.named,
    )

-- ---- laid out
pub layouts_measured : LayoutsMeasured
layouts_measured ts ms e type m accepted shareable h =
    let a = tables_agreement ts ms accepted type shareable e.number h m.is in
    (a.0 ∙ m.size, rw m.align at (a.1 m.formed))
