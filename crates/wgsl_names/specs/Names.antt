-- 02, E7: the names that WGSL has: its keywords, and the types that are declared before any text. Words are compared byte by byte.
-- Assumes nothing.
use Rattle.std.specs.Prelude.{Bool, ◌||◌, List, [], ◌∷◌, Option, Some, None, ℕ, nat_eq}
use Rattle.std.specs.Cmp.Lexicographic.{pointwise}
use Rattle.ir_records.specs.Result.{pick}
use Rattle.wgsl_names.specs.declared.Scalar.{Scalar}
use Rattle.wgsl_names.specs.declared.Scalar.TheVariants.{Bool as BoolScalar, I32, U32, F32, F16}
use Rattle.wgsl_names.specs.declared.Dimension.{Dimension}
use Rattle.wgsl_names.specs.declared.Dimension.TheVariants.{Two, Three, Four}
use Rattle.wgsl_names.specs.declared.Template.TheVariants.{Vector, Matrix, Atomic}
use Rattle.wgsl_names.specs.declared.TypeName.{TypeName}
use Rattle.wgsl_names.specs.declared.TypeName.TheVariants.{OfScalar, OfTemplate, Array}

unfoldable pub same : List ℕ → List ℕ → Bool
same s t = pointwise nat_eq s t

-- ---- keywords
-- alias, break, case, const, const_assert, continue, continuing, default, diagnostic
unfoldable pub first_keyword : List ℕ → Bool
first_keyword w =
    same w (97 ∷ 108 ∷ 105 ∷ 97 ∷ 115 ∷ [])
    || same w (98 ∷ 114 ∷ 101 ∷ 97 ∷ 107 ∷ [])
    || same w (99 ∷ 97 ∷ 115 ∷ 101 ∷ [])
    || same w (99 ∷ 111 ∷ 110 ∷ 115 ∷ 116 ∷ [])
    || same w (99 ∷ 111 ∷ 110 ∷ 115 ∷ 116 ∷ 95 ∷ 97 ∷ 115 ∷ 115 ∷ 101 ∷ 114 ∷ 116 ∷ [])
    || same w (99 ∷ 111 ∷ 110 ∷ 116 ∷ 105 ∷ 110 ∷ 117 ∷ 101 ∷ [])
    || same w (99 ∷ 111 ∷ 110 ∷ 116 ∷ 105 ∷ 110 ∷ 117 ∷ 105 ∷ 110 ∷ 103 ∷ [])
    || same w (100 ∷ 101 ∷ 102 ∷ 97 ∷ 117 ∷ 108 ∷ 116 ∷ [])
    || same w (100 ∷ 105 ∷ 97 ∷ 103 ∷ 110 ∷ 111 ∷ 115 ∷ 116 ∷ 105 ∷ 99 ∷ [])

-- discard, else, enable, false, fn, for, if, let, loop
unfoldable pub middle_keyword : List ℕ → Bool
middle_keyword w =
    same w (100 ∷ 105 ∷ 115 ∷ 99 ∷ 97 ∷ 114 ∷ 100 ∷ [])
    || same w (101 ∷ 108 ∷ 115 ∷ 101 ∷ [])
    || same w (101 ∷ 110 ∷ 97 ∷ 98 ∷ 108 ∷ 101 ∷ [])
    || same w (102 ∷ 97 ∷ 108 ∷ 115 ∷ 101 ∷ [])
    || same w (102 ∷ 110 ∷ [])
    || same w (102 ∷ 111 ∷ 114 ∷ [])
    || same w (105 ∷ 102 ∷ [])
    || same w (108 ∷ 101 ∷ 116 ∷ [])
    || same w (108 ∷ 111 ∷ 111 ∷ 112 ∷ [])

-- override, requires, return, struct, switch, true, var, while
unfoldable pub last_keyword : List ℕ → Bool
last_keyword w =
    same w (111 ∷ 118 ∷ 101 ∷ 114 ∷ 114 ∷ 105 ∷ 100 ∷ 101 ∷ [])
    || same w (114 ∷ 101 ∷ 113 ∷ 117 ∷ 105 ∷ 114 ∷ 101 ∷ 115 ∷ [])
    || same w (114 ∷ 101 ∷ 116 ∷ 117 ∷ 114 ∷ 110 ∷ [])
    || same w (115 ∷ 116 ∷ 114 ∷ 117 ∷ 99 ∷ 116 ∷ [])
    || same w (115 ∷ 119 ∷ 105 ∷ 116 ∷ 99 ∷ 104 ∷ [])
    || same w (116 ∷ 114 ∷ 117 ∷ 101 ∷ [])
    || same w (118 ∷ 97 ∷ 114 ∷ [])
    || same w (119 ∷ 104 ∷ 105 ∷ 108 ∷ 101 ∷ [])

unfoldable pub is_keyword : List ℕ → Bool
is_keyword w = first_keyword w || middle_keyword w || last_keyword w

-- ---- words of the grammar
-- struct
abbrev pub struct_word : List ℕ
struct_word = 115 ∷ 116 ∷ 114 ∷ 117 ∷ 99 ∷ 116 ∷ []

-- align
abbrev pub align_word : List ℕ
align_word = 97 ∷ 108 ∷ 105 ∷ 103 ∷ 110 ∷ []

-- size
abbrev pub size_word : List ℕ
size_word = 115 ∷ 105 ∷ 122 ∷ 101 ∷ []

-- ---- types
-- mat2x2, mat2x3, mat2x4, mat3x2, mat3x3, mat3x4, mat4x2, mat4x3, mat4x4
unfoldable pub matrix_named : List ℕ → Option TypeName
matrix_named w =
    pick (same w (109 ∷ 97 ∷ 116 ∷ 50 ∷ 120 ∷ 50 ∷ [])) (Some (OfTemplate (Matrix Two Two)))
    (pick (same w (109 ∷ 97 ∷ 116 ∷ 50 ∷ 120 ∷ 51 ∷ [])) (Some (OfTemplate (Matrix Two Three)))
    (pick (same w (109 ∷ 97 ∷ 116 ∷ 50 ∷ 120 ∷ 52 ∷ [])) (Some (OfTemplate (Matrix Two Four)))
    (pick (same w (109 ∷ 97 ∷ 116 ∷ 51 ∷ 120 ∷ 50 ∷ [])) (Some (OfTemplate (Matrix Three Two)))
    (pick (same w (109 ∷ 97 ∷ 116 ∷ 51 ∷ 120 ∷ 51 ∷ [])) (Some (OfTemplate (Matrix Three Three)))
    (pick (same w (109 ∷ 97 ∷ 116 ∷ 51 ∷ 120 ∷ 52 ∷ [])) (Some (OfTemplate (Matrix Three Four)))
    (pick (same w (109 ∷ 97 ∷ 116 ∷ 52 ∷ 120 ∷ 50 ∷ [])) (Some (OfTemplate (Matrix Four Two)))
    (pick (same w (109 ∷ 97 ∷ 116 ∷ 52 ∷ 120 ∷ 51 ∷ [])) (Some (OfTemplate (Matrix Four Three)))
    (pick (same w (109 ∷ 97 ∷ 116 ∷ 52 ∷ 120 ∷ 52 ∷ [])) (Some (OfTemplate (Matrix Four Four)))
    None))))))))

-- vec2, vec3, vec4, and those above
unfoldable pub vector_named : List ℕ → Option TypeName
vector_named w =
    pick (same w (118 ∷ 101 ∷ 99 ∷ 50 ∷ [])) (Some (OfTemplate (Vector Two)))
    (pick (same w (118 ∷ 101 ∷ 99 ∷ 51 ∷ [])) (Some (OfTemplate (Vector Three)))
    (pick (same w (118 ∷ 101 ∷ 99 ∷ 52 ∷ [])) (Some (OfTemplate (Vector Four)))
    (matrix_named w)))

-- bool, i32, u32, f32, f16, atomic, array, and those above
unfoldable pub predeclared : List ℕ → Option TypeName
predeclared w =
    pick (same w (98 ∷ 111 ∷ 111 ∷ 108 ∷ [])) (Some (OfScalar BoolScalar))
    (pick (same w (105 ∷ 51 ∷ 50 ∷ [])) (Some (OfScalar I32))
    (pick (same w (117 ∷ 51 ∷ 50 ∷ [])) (Some (OfScalar U32))
    (pick (same w (102 ∷ 51 ∷ 50 ∷ [])) (Some (OfScalar F32))
    (pick (same w (102 ∷ 49 ∷ 54 ∷ [])) (Some (OfScalar F16))
    (pick (same w (97 ∷ 116 ∷ 111 ∷ 109 ∷ 105 ∷ 99 ∷ [])) (Some (OfTemplate Atomic))
    (pick (same w (97 ∷ 114 ∷ 114 ∷ 97 ∷ 121 ∷ [])) (Some Array)
    (vector_named w)))))))

-- ---- what a record says of a scalar, and the bytes that it takes in the standard's placement
-- kinds: 0 Sint, 1 Uint, 2 Float, 3 Bool
abbrev pub kind_of : Scalar → ℕ
kind_of BoolScalar = 3
kind_of I32 = 0
kind_of U32 = 1
kind_of F32 = 2
kind_of F16 = 2

-- a bool's leaf is one byte
abbrev pub width_of : Scalar → ℕ
width_of BoolScalar = 1
width_of I32 = 4
width_of U32 = 4
width_of F32 = 4
width_of F16 = 2

-- bool, i32, u32, f32: 4 and 4. f16: 2 and 2
abbrev pub bytes_of : Scalar → ℕ
bytes_of BoolScalar = 4
bytes_of I32 = 4
bytes_of U32 = 4
bytes_of F32 = 4
bytes_of F16 = 2

abbrev pub number_of : Dimension → ℕ
number_of Two = 2
number_of Three = 3
number_of Four = 4
