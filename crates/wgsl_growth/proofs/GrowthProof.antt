-- Growth: of members as the reader places them, and of the structs of texts.
-- Assumes nothing.
use mathlib.Core.Path.{refl}
use mathlib.Core.List.{List, [], ◌∷◌}
use mathlib.Core.Option.{Option}
use Prim.Native.Nat.{ℕ, ◌≤◌}
use native.Mathlib.Nat.{le_refl}
use Rattle.ir_records.specs.Record.{type_words, member_words}
use Rattle.proc_alignment.specs.Alignment.{Power, round_up, most}
use Rattle.proc_alignment.proofs.PowerLaws.{power_positive, power_vector}
use Rattle.proc_alignment.proofs.RoundLaws.{round_up_multiple, round_up_next}
use Rattle.wgsl_tokens.specs.Tokens.{Token}
use Rattle.wgsl_names.specs.Names.{bytes_of, number_of}
use Rattle.wgsl_names.specs.declared.Scalar.{Scalar}
use Rattle.wgsl_names.specs.declared.Scalar.TheVariants.{Bool as BoolScalar, I32, U32, F32, F16}
use Rattle.wgsl_names.specs.declared.Template.{Template}
use Rattle.wgsl_names.specs.declared.Template.TheVariants.{Vector, Matrix, Atomic}
use Rattle.wgsl_placement.specs.Placement.{shape, align_of_template}
use Rattle.wgsl_placement.specs.declared.Shape.{Shape}
use Rattle.wgsl_tables.specs.Tables.{Named}
use Rattle.wgsl_structs.specs.Structs.{Declared, start_of, span_of}
use Rattle.w3c_agreement.specs.Wgsl.{WgslType, struct, Members as WgslMembers}
use Rattle.wgsl_growth.specs.Tree.{NamedTree, mapped}
use Rattle.wgsl_growth.specs.Written.{Each, Written, align_of, with_record, Extends, fields_of, AllNamed}
use Rattle.wgsl_growth.specs.Growth.{GrowthOfMembers, StructIn, StructsOfText, GrowthOfStructs}
use Rattle.wgsl_growth.proofs.InductionLaws.{each_map, extends_same, extends_both, Whole, Claim, Fitting, Laws, text_held}
use Rattle.wgsl_growth.proofs.PlacingLaws.{round_mono, round_shift, end_from, align_from, placed_end, placed_align, placed_offsets, align_power, written_power}
use Rattle.wgsl_growth.proofs.RowLaws.{row_offset_is, all, words, span_is, struct_there, rows_there}
use Rattle.wgsl_growth.proofs.GrowthLaws.{each_divides, grown_length, grown_align, grown_ends, grown_offsets}

power_one : Power 1
power_one = record { exponent = 0; is = refl }

-- ---- members
positive : (ws : List Written) → Each (λ w. Power (align_of w)) ws → Each (λ w. 1 ≤ align_of w) ws
positive ws powers = each_map (λ w. Power (align_of w)) (λ w. 1 ≤ align_of w) (λ w p. power_positive p) ws powers

pub growth_of_members : GrowthOfMembers
growth_of_members i d a b s t ws vs powers grows =
    let A : ℕ = align_from 1 ws in
    let power = align_power 1 ws power_one powers in
    let one = power_positive power in
    let D : ℕ = round_up (align_from 1 ws) d in
    let whole = round_up_multiple (align_from 1 ws) d one in
    let divides = each_divides (align_from 1 ws) (round_up (align_from 1 ws) d) power whole 1 ws powers (le_refl (align_from 1 ws)) in
    let ends = grown_ends d (round_up (align_from 1 ws) d) (round_up_next (align_from 1 ws) d one).0 i ws vs grows divides 0 in
    let same = grown_align d i ws vs grows 1 in
    record {
      no_more =
          rw (placed_end (start_of b t) vs, placed_align (start_of b t) vs, placed_end (start_of a s) ws, placed_align (start_of a s) ws, same)
          (round_shift (align_from 1 ws) (end_from 0 vs) (end_from 0 ws) (round_up (align_from 1 ws) d) one whole ends.1);
      no_less =
          rw (placed_end (start_of b t) vs, placed_align (start_of b t) vs, placed_end (start_of a s) ws, placed_align (start_of a s) ws, same)
          (round_mono (align_from 1 ws) (end_from 0 ws) (end_from 0 vs) one ends.0);
      offsets = λ j.
          rw (placed_offsets (start_of b t) vs, placed_offsets (start_of a s) ws)
          (grown_offsets d i ws vs grows (positive ws powers) 0 j);
    }

-- ---- alignments of a text are powers of two
scalar_power : (s : Scalar) → Power (bytes_of s)
scalar_power BoolScalar = record { exponent = 2; is = refl }
scalar_power I32 = record { exponent = 2; is = refl }
scalar_power U32 = record { exponent = 2; is = refl }
scalar_power F32 = record { exponent = 2; is = refl }
scalar_power F16 = record { exponent = 1; is = refl }

template_power : (x : Template) (s : Scalar) → Power (align_of_template x s)
template_power (Vector n) s = power_vector (number_of n) (bytes_of s) (scalar_power s)
template_power (Matrix columns rows) s = power_vector (number_of rows) (bytes_of s) (scalar_power s)
template_power Atomic s = scalar_power s

-- ---- structs in tables
struct_power : (ts ms : List ℕ) (e : Shape) → StructIn ts ms e → Power e.align
struct_power ts ms e p =
    rw (p.align, placed_align (start_of p.before p.tokens) p.members) (align_power 1 p.members power_one p.powers)

abbrev PowerOf : Claim
PowerOf t m e x = Power e.align

-- in whatever tables start with the records so far
abbrev IsStruct : Claim
IsStruct t m e x = (ts ms : List ℕ) → Extends t.words ts → Extends m.words ms → StructIn ts ms e

struct_in : (d : Declared) (tokens : List Token) (ws : List Written) (z : Option WgslType) → Whole member_words d.members → Whole type_words (all d tokens ws).types
    → Whole member_words (all d tokens ws).members → span_of (all d tokens ws) ≤ most → Each (λ w. Power (align_of w)) ws
    → IsStruct (with_record (all d tokens ws).types (words d tokens ws)) (all d tokens ws).members
    (shape (all d tokens ws).types.made (span_of (all d tokens ws)) (all d tokens ws).align (all d tokens ws).fixed) z
struct_in d tokens ws z whole types members small powers ts ms x y =
    record {
      before = d;
      tokens = tokens;
      members = ws;
      powers = powers;
      align = refl;
      size = refl;
      record_is = struct_there d tokens ws whole types members ts ms x y;
      offset-is = λ j h.
          rw (rows_there d tokens ws whole types members ts ms x y, placed_offsets (start_of d tokens) ws)
          (row_offset_is ws (positive ws powers) (rw (span_is d tokens ws) at small) j h);
    }

powers : Laws PowerOf IsStruct
powers =
    record {
      keeps = λ t m t' m' e z x y p. p;
      keeps_struct = λ t m t' m' e z x y p ts ms x' y'. p ts ms (extends_both t.words t'.words ts x x') (extends_both m.words m'.words ms y y');
      of_struct = λ t m e z p. struct_power t.words m.words e (p t.words m.words (extends_same t.words) (extends_same m.words));
      scalar = λ t m s whole. scalar_power s;
      template = λ t m x s whole. template_power x s;
      array = λ t m c e z whole p. p;
      struct = λ d tokens w ws whole types members small each.
          struct_in d tokens (w ∷ ws) (mapped (λ (y : WgslMembers). struct y) (fields_of w ws)) whole types members small
          (each_map (Fitting PowerOf (all d tokens (w ∷ ws)).types (all d tokens (w ∷ ws)).members) (λ w. Power (align_of w)) (λ w f. written_power w f.0 f.1) (w ∷ ws) each);
    }

-- ---- the structs of a text
each_named : (P : Shape → Option WgslType → Type 0) (Q : Shape → Type 0) → ((e : Shape) (x : Option WgslType) → P e x → Q e) → (ns : List Named) (xs : List NamedTree)
    → AllNamed P ns xs → Each (λ (n : Named). Q n.shape) ns
each_named P Q f [] [] h = tt
each_named P Q f [] (x ∷ xs) h = absurd h
each_named P Q f (n ∷ ns) [] h = absurd h
each_named P Q f (n ∷ ns) (x ∷ xs) h = (f n.shape x.tree h.1, each_named P Q f ns xs h.2)

pub structs_of_text : StructsOfText
structs_of_text types members s d e ts ms x y =
    let held = text_held PowerOf IsStruct powers types members s d e in
    each_named (IsStruct d.types d.members) (StructIn ts ms) (λ e z p. p ts ms x y) d.structs held.0 held.2.named

pub growth_of_structs : GrowthOfStructs
growth_of_structs ts ms ts' ms' e f p q i d grows =
    let g = growth_of_members i d p.before q.before p.tokens q.tokens p.members q.members p.powers grows in (
      rw (p.size, p.align, q.size) g.no_more,
      rw (p.size, q.size) g.no_less,
      λ j h. rw (p.offset-is j h, q.offset-is j (rw (grown_length d i p.members q.members grows) h)) (g.offsets j),
    )
