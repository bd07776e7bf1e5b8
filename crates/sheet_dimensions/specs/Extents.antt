-- The layout sheet: the dimensions that a value of the program has.
-- Assumes nothing.
use Rattle.std.specs.Prelude.{◌≡◌, List, ◌++◌, ℕ, ◌+◌, length, take, Option, None, Some, MatchOption}
use Rattle.std.specs.Bool.{⊤}
use Rattle.ir_records.specs.Kinds.{scalar_number}
use Rattle.ir_rows.specs.Rows.{row_word}
use Rattle.sheet_types.specs.Types.{inner_step}
use Rattle.sheet_names.specs.declared.Sheet.{Sheet}
use Rattle.ir_records.specs.Record.{type_inner}
use Rattle.sheet_names.specs.declared.Type as Of
use Rattle.sheet_dimensions.specs.declared.Base.{Base}
use Rattle.sheet_dimensions.specs.declared.Base.TheVariants as base
use Rattle.sheet_dimensions.specs.declared.Dimensions.{Dimensions}
use Rattle.sheet_dimensions.specs.declared.Extents.{Extents}
use Rattle.sheet_dimensions.specs.declared.Within.{Within}
use Rattle.sheet_dimensions.specs.Shapes.{Inside, scalar, struct, Shape, onto, matrix_extents, array_extents, struct_shape, base_shape}

-- those of the places that are in use
abbrev pub in_use : Extents → List (Option ℕ)
in_use e = take (e.count) (e.list)

-- so many dimensions more
pub record Extends (was : Extents) (more : List (Option ℕ)) (is : Extents) : Type 0 where
  pub shows : in_use is ≡ in_use was ++ more
  pub counts : is.count ≡ was.count + length more
  pub room : length (is.list) ≡ length (was.list)

-- the same of a type inside arrays; none where there are no such dimensions
abbrev pub Grows : (was : Within) (more : Option (List (Option ℕ))) → Option Within → Type 0
Grows was more result =
    MatchOption result (more ≡ None) (λ is. (ns : List (Option ℕ)) × (more ≡ Some ns) × (is.t ≡ was.t) × Extends was.extents ns is.extents)

-- the same of a matrix, by its column step; none for what is no matrix
abbrev pub GrowsByMatrix : (was : Within) (columns width : ℕ) → Option Within → Type 0
GrowsByMatrix was columns width result =
    MatchOption (inner_step (type_inner (was.t.sheet.types.now) was.t.i)) (result ≡ None)
    (λ column. Grows was (matrix_extents was.step columns column width) result)

-- the type is the element of the one before, and its elements lie a stride apart
pub record Enters (was : Within) (element : Of.Type) (stride : ℕ) (ns : List (Option ℕ)) (is : Within) : Type 0 where
  pub one : length ns ≡ 1
  pub t : is.t ≡ element
  pub step : is.step ≡ Some stride
  pub extents : Extends was.extents ns is.extents

-- one array less
abbrev pub EntersArray : (was : Within) (element : Of.Type) (stride : ℕ) → Option Within → Type 0
EntersArray was element stride result =
    let more = array_extents was.step (type_inner was.t.sheet.types.now was.t.i) stride in
    MatchOption result (more ≡ None) (λ is. (ns : List (Option ℕ)) × (more ≡ Some ns) × Enters was element stride ns is)

-- what stands inside all dimensions
abbrev pub inside_of : Base → Inside
inside_of (base.Scalar s) = scalar (scalar_number (s.kind)) (s.width)
inside_of (base.Struct t) = struct (t.i)

abbrev pub shape : Dimensions → Shape
shape d = record { extents = in_use (d.extents); inside = inside_of (d.base) }

-- a struct is one of this sheet
abbrev pub IsOf : Sheet → Base → Type 0
IsOf sheet (base.Scalar s) = ⊤
IsOf sheet (base.Struct t) = t.sheet ≡ sheet

-- the dimensions have this shape, and what is inside them is of this sheet; none where there is none
abbrev pub ShapeIs : Sheet → Option Shape → Option Dimensions → Type 0
ShapeIs sheet expected result = MatchOption result (expected ≡ None) (λ d. (expected ≡ Some (shape d)) × IsOf sheet (d.base))

-- the same of what is left of a type inside the arrays that were passed
abbrev pub LeftIs : (was : Within) (left : Option Shape) → Option Dimensions → Type 0
LeftIs was left result = ShapeIs was.t.sheet (onto (in_use was.extents) left) result

abbrev pub struct_left : Within → Option Shape
struct_left was = struct_shape was.step was.t.i (row_word (was.t.sheet.rows.now) was.t.i 0)

abbrev pub base_left : Within → Option Shape
base_left was = base_shape was.step was.t.i (row_word (was.t.sheet.rows.now) was.t.i 0) (type_inner (was.t.sheet.types.now) was.t.i)
