-- The layout sheet: names that can be printed, scalars by the numbers of their kinds, the types inside arrays, and the column step of a record.
-- Assumes nothing.
use Rattle.std.specs.Prelude.{◌≡◌, ◌<◌, Bool, not, ◌&&◌, List, ℕ, zero, suc, eqb, leb, length, Option, None, Some, MatchOption}
use Rattle.std.specs.List.{list_all}
use Rattle.ir_records.specs.Result.{pick}
use Rattle.ir_records.specs.Record.{type_word, array_kind}
use Rattle.ir_records.specs.Kinds.{scalar_number}
use Rattle.ir_records.specs.declared.Leaf.{Leaf}
use Rattle.ir_records.specs.declared.Leaf.TheVariants.{Scalar, Vector, Matrix, CooperativeMatrix, Atomic, RayQuery}
use Rattle.ir_records.specs.declared.TypeInner.{TypeInner}
use Rattle.ir_records.specs.declared.TypeInner.TheVariants.{Plain, Array, RuntimeArray, Struct, Other}
use Rattle.proc_type_methods.specs.TypeMethods.{column_step}
use Rattle.program_output.specs.Bytes.{decimal}
use Rattle.sheet_types.specs.declared.Scalar as of_scalar

-- ---- names
-- neither a blank nor a control character, and ASCII
abbrev pub is_visible : (byte : ℕ) → Bool
is_visible byte = leb 33 byte && leb byte 126

-- every byte of the name; an empty name is none
abbrev pub is_printable : (name : List ℕ) → Bool
is_printable name = list_all is_visible name && not (eqb (length name) 0)

-- how many bytes stand for member j: its name's, or the digits of its number
abbrev pub name_length : (name : Option (List ℕ)) (j : ℕ) → ℕ
name_length None j = length (decimal j)
name_length (Some name) j = pick (is_printable name) (length name) (length (decimal j))

-- ---- scalars
-- the kind with this number and the width; none where the number lies above all kinds
abbrev pub ScalarIs : (kind width : ℕ) → Option of_scalar.Scalar → Type 0
ScalarIs kind width scalar = MatchOption scalar (5 < kind) (λ s. (scalar_number (s.kind) ≡ kind) × (s.width ≡ width))

-- ---- types
-- more arrays in one another are not written out
abbrev pub most_depth : ℕ
most_depth = 32

-- the type inside so many arrays, from type t on, or inside all where there are fewer
unfoldable pub inside_arrays : (types : List ℕ) (depth t : ℕ) → ℕ
inside_arrays types zero t = t
inside_arrays types (suc depth) t = pick (eqb (type_word types t 0) array_kind) (inside_arrays types depth (type_word types t 1)) t

-- the column step of a matrix; none for what is no matrix
abbrev pub leaf_step : Leaf → Option ℕ
leaf_step (Scalar kind width) = None
leaf_step (Vector size kind width) = None
leaf_step (Matrix columns rows kind width) = Some (column_step rows width)
leaf_step (CooperativeMatrix columns rows kind width role) = None
leaf_step (Atomic kind width) = None
leaf_step (RayQuery vertexReturn) = None

abbrev pub inner_step : TypeInner → Option ℕ
inner_step (Plain leaf) = leaf_step leaf
inner_step (Array base count stride) = None
inner_step (RuntimeArray base stride) = None
inner_step (Struct count span) = None
inner_step (Other o) = None
