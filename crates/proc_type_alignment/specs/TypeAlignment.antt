-- 01, 'The layout': the alignment of one type (`Layouter::update` of naga's proc/layouter.rs) from the layouts of the types before it,
-- numbers 5 to 7.
-- Assumes nothing.
use Rattle.std.specs.Prelude.{List, ℕ, zero, suc, ◌*◌, max, ltb}
use Rattle.ir_records.specs.Result.{Result, ok, require, and_then}
use Rattle.ir_records.specs.Record.{member_type}
use Rattle.ir_records.specs.declared.Leaf.{Leaf}
use Rattle.ir_records.specs.declared.Leaf.TheVariants.{Scalar, Vector, Matrix, CooperativeMatrix, Atomic, RayQuery}
use Rattle.ir_records.specs.declared.TypeInner.{TypeInner}
use Rattle.ir_records.specs.declared.TypeInner.TheVariants.{Plain, Array, RuntimeArray, Struct, Other}
use Rattle.proc_alignment.specs.Alignment.{power_of_two, vector_alignment}
use Rattle.proc_type_alignment.specs.declared.TypeLayout.{TypeLayout}

-- the width that has to be a power of two
abbrev pub leaf_width : Leaf → ℕ
leaf_width (Scalar kind width) = width
leaf_width (Vector size kind width) = width
leaf_width (Matrix columns rows kind width) = width
leaf_width (CooperativeMatrix columns rows kind width role) = width
leaf_width (Atomic kind width) = width
leaf_width (RayQuery vertexReturn) = 1

-- what the width is multiplied by
abbrev pub leaf_factor : Leaf → ℕ
leaf_factor (Scalar kind width) = 1
leaf_factor (Vector size kind width) = vector_alignment size
leaf_factor (Matrix columns rows kind width) = vector_alignment rows
leaf_factor (CooperativeMatrix columns rows kind width role) = rows
leaf_factor (Atomic kind width) = 1
leaf_factor (RayQuery vertexReturn) = 1

-- the largest alignment of the first j members; number 6 with the member's position
unfoldable pub members_alignment : (layouts : ℕ → TypeLayout) (i : ℕ) (members : List ℕ) → ℕ → Result ℕ
members_alignment layouts i members zero = ok 1
members_alignment layouts i members (suc j) =
    and_then (members_alignment layouts i members j)
    (λ a. require (ltb (member_type members j) i) 6 j 0 (ok (max a (layouts (member_type members j)).alignment)))

-- number 5: an array's element is an earlier type
abbrev pub base_alignment : (layouts : ℕ → TypeLayout) (i base : ℕ) → Result ℕ
base_alignment layouts i base = require (ltb base i) 5 0 0 (ok (layouts base).alignment)

-- number 7: the width is a power of two
abbrev pub width_alignment : (factor width : ℕ) → Result ℕ
width_alignment factor width = require (power_of_two width) 7 0 0 (ok (factor * width))

abbrev pub leaf_alignment : Leaf → Result ℕ
leaf_alignment leaf = width_alignment (leaf_factor leaf) (leaf_width leaf)

-- of type i, from the layouts of those before it
unfoldable pub alignment_of : (layouts : ℕ → TypeLayout) → ℕ → TypeInner → (members : List ℕ) → Result ℕ
alignment_of layouts i (Plain leaf) members = leaf_alignment leaf
alignment_of layouts i (Array base count stride) members = base_alignment layouts i base
alignment_of layouts i (RuntimeArray base stride) members = base_alignment layouts i base
alignment_of layouts i (Struct count span) members = members_alignment layouts i members count
alignment_of layouts i (Other o) members = ok 1
