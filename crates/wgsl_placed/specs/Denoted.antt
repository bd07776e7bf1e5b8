-- 02, E7: 'Offsets, spans and strides follow the standard's placement.' Each struct of an accepted text is the WGSL type that it denotes, as the W3C WGSL
-- specification places it, in the definitions of the crate w3c. The reader takes matrices and atomics of any scalar: what reaches one that WGSL does
-- not have denotes no type, and nothing is said of it.
-- Assumes nothing.
use Rattle.std.specs.Prelude.{◌≡◌, List, ℕ, ◌<◌, T}
use Rattle.std.proofs.Math.Option.{Option, none, some}
use Rattle.std.specs.Int.{◌∣◌}
use Rattle.ir_records.specs.Record.{Decoded, decoded, type_count}
use Rattle.ir_records.specs.Outcome.{Accepted}
use Rattle.proc_layouter.specs.Layouter.{layout, layout_outcome}
use Rattle.w3c_agreement.specs.Wgsl.{WgslType, align_of, size_of, HostShareable, FixedSize, WellFormed}
use Rattle.w3c_agreement.specs.Placement.{IsType}
use Rattle.wgsl_grammar.specs.Grammar.{read}
use Rattle.wgsl_placement.specs.declared.Shape.{Shape}
use Rattle.wgsl_structs.specs.Structs.{Declared}
use Rattle.wgsl_read.specs.Text.{text_of}
use Rattle.wgsl_growth.specs.Tree.{NamedTree, trees_of}
use Rattle.wgsl_growth.specs.Written.{Extends, AllNamed}

-- ---- the record of a shape is a WGSL type with attributes as the standard asks of them, as the standard places it; and the reader's own SizeOf and
-- AlignOf of it are the standard's
pub record Measured (types : ℕ → Decoded) (e : Shape) (type : WgslType) : Type 0 where
  pub is : IsType type types e.number
  pub formed : WellFormed type
  pub size : size_of type ≡ e.size
  pub align : align_of type ≡ e.align
  pub fixed : T e.fixed → FixedSize type

-- where WGSL has a type for it
abbrev pub MeasuredTree : (types : ℕ → Decoded) → Shape → Option WgslType → Type 0
MeasuredTree types e none = Unit {0}
MeasuredTree types e (some type) = Measured types e type

-- ---- an accepted text denotes its structs, and each is placed so, in whatever tables start with the text's records
abbrev pub TextDenoted : Type 0
TextDenoted =
    (types members : ℕ) (s : List ℕ) (d : Declared) → text_of types members s ≡ read d
    → (ts ms : List ℕ) → Extends d.types.words ts → Extends d.members.words ms
    → (trees : List NamedTree) × (trees_of s ≡ read trees) × AllNamed (λ e x. MeasuredTree (decoded ts ms) e x) d.structs trees

-- ---- what the layouter makes of it: where it accepts the tables, a host-shareable type so measured is laid out with this SizeOf, and with an
-- alignment that divides this AlignOf
abbrev pub LayoutsMeasured : Type 0
LayoutsMeasured =
    (ts ms : List ℕ) (e : Shape) (type : WgslType) → Measured (decoded ts ms) e type → layout_outcome ts ms ≡ Accepted → HostShareable type → e.number < type_count ts
    → ((layout (decoded ts ms) e.number).size ≡ e.size) × ((layout (decoded ts ms) e.number).alignment ∣ e.align)
