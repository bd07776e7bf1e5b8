-- Serves the contracts of functions inside the library: it adds nothing to what the other files say, and a reader may skip it.
-- Assumes nothing.
use Rattle.std.specs.Prelude.{List, Option, None, Some, ℕ, ◌≤◌, eqb, T}
use Rattle.ir_records.specs.declared.Words.{Words}
use Rattle.ir_records.specs.Result.{pick}
use Rattle.ir_records.specs.Record.{type_word}
use Rattle.ir_records.specs.declared.Leaf.{Leaf}
use Rattle.ir_records.specs.declared.Leaf.TheVariants.{Scalar, Vector, Matrix, CooperativeMatrix, Atomic, RayQuery}
use Rattle.ir_records.specs.declared.TypeInner.{TypeInner}
use Rattle.ir_records.specs.declared.TypeInner.TheVariants.{Plain, Array, RuntimeArray, Struct, Other}
use Rattle.ir_records.specs.Fields.{cooperative_size_ok}

-- the six words of record i, as the code carries them
abbrev pub record_words : List ℕ → ℕ → Words
record_words ts i =
    record {
      kind = type_word ts i 0;
      a = type_word ts i 1;
      b = type_word ts i 2;
      c = type_word ts i 3;
      d = type_word ts i 4;
      e = type_word ts i 5;
    }

-- how many elements an array's record says, by its form and its count; none for a runtime array
abbrev pub size_of : (form count : ℕ) → Option ℕ
size_of form count = pick (eqb form 0) (Some count) None

-- ---- what number 2 leaves: the bounds by which sizes fit 32 bits
abbrev pub LeafBounds : Leaf → Type 0
LeafBounds (Scalar kind width) = width ≤ 255
LeafBounds (Vector size kind width) = (size ≤ 4) × (width ≤ 255)
LeafBounds (Matrix columns rows kind width) = (columns ≤ 4) × (rows ≤ 4) × (width ≤ 255)
LeafBounds (CooperativeMatrix columns rows kind width role) = T (cooperative_size_ok columns) × T (cooperative_size_ok rows) × (width ≤ 255)
LeafBounds (Atomic kind width) = width ≤ 255
LeafBounds (RayQuery v) = Unit {0}

abbrev pub InnerBounds : TypeInner → Type 0
InnerBounds (Plain leaf) = LeafBounds leaf
InnerBounds (Array base count stride) = Unit {0}
InnerBounds (RuntimeArray base stride) = Unit {0}
InnerBounds (Struct count span) = Unit {0}
InnerBounds (Other o) = Unit {0}
