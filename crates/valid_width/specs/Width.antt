-- Widths and capabilities: `check_width` of naga's valid/type.rs, numbers 8 to 10 and 12. The detail of 8 is the capability's bit.
-- Assumes nothing.
use Rattle.std.specs.Prelude.{Bool, ◌&&◌, ◌||◌, ℕ, ◌+◌, eqb, leb}
use Rattle.ir_records.specs.Result.{Result, err, ok, pick, require}
use Rattle.valid_flags.specs.Flags.{bit}

-- ---- 01's capability word, by bit
abbrev pub float64 : ℕ
float64 = 0

abbrev pub shader_float16 : ℕ
shader_float16 = 1

abbrev pub shader_int16 : ℕ
shader_int16 = 2

abbrev pub shader_int64 : ℕ
shader_int64 = 3

abbrev pub shader_float32_atomic : ℕ
shader_float32_atomic = 4

abbrev pub shader_int64_atomic_min_max : ℕ
shader_int64_atomic_min_max = 5

abbrev pub shader_int64_atomic_all_ops : ℕ
shader_int64_atomic_all_ops = 6

abbrev pub cooperative_matrix : ℕ
cooperative_matrix = 7

abbrev pub cube_array_textures : ℕ
cube_array_textures = 8

abbrev pub texture_external : ℕ
texture_external = 9

abbrev pub ray_query : ℕ
ray_query = 10

abbrev pub ray_tracing_pipeline : ℕ
ray_tracing_pipeline = 11

abbrev pub ray_hit_vertex_position : ℕ
ray_hit_vertex_position = 12

abbrev pub dual_source_blending : ℕ
dual_source_blending = 13

-- ---- scalar kinds
abbrev pub sint : ℕ
sint = 0

abbrev pub uint : ℕ
uint = 1

abbrev pub float : ℕ
float = 2

abbrev pub bool : ℕ
bool = 3

-- a capability that a type needs
abbrev pub capability {ℓ} : {A : Type ℓ} → (c b : ℕ) → Result A → Result A
capability c b rest = require (bit c b) 8 0 b rest

-- a width that is allowed with a capability; one that is the only one left
abbrev pub allowed_with : Bool → (b : ℕ) → Result (Unit {0})
allowed_with capable b = require capable 8 0 b (ok tt)

abbrev pub allowed_only : Bool → (number : ℕ) → Result (Unit {0})
allowed_only right number = require right number 0 0 (ok tt)

-- ---- scalars, vectors, matrices and value pointers
unfoldable pub integer_width : (c width : ℕ) → Result (Unit {0})
integer_width c width =
    pick (eqb width 2) (allowed_with (bit c shader_int16) shader_int16)
    (pick (eqb width 8) (allowed_with (bit c shader_int64) shader_int64) (allowed_only (eqb width 4) 9))

unfoldable pub float_width : (c width : ℕ) → Result (Unit {0})
float_width c width =
    pick (eqb width 8) (allowed_with (bit c float64) float64)
    (pick (eqb width 2) (allowed_with (bit c shader_float16) shader_float16) (allowed_only (eqb width 4) 9))

-- number 10: an abstract scalar
unfoldable pub check_width : (c kind width : ℕ) → Result (Unit {0})
check_width c kind width =
    pick (leb kind uint) (integer_width c width)
    (pick (eqb kind float) (float_width c width)
    (pick (eqb kind bool) (allowed_only (eqb width 1) 9)
    (err 10 0 0)))

-- ---- atomics, number 12
unfoldable pub integer_atomic : (c width : ℕ) → Result (Unit {0})
integer_atomic c width =
    pick (eqb width 8)
    (allowed_with (bit c shader_int64_atomic_min_max || bit c shader_int64_atomic_all_ops) shader_int64_atomic_all_ops)
    (allowed_only (eqb width 4) 12)

unfoldable pub atomic_width : (c kind width : ℕ) → Result (Unit {0})
atomic_width c kind width =
    pick (leb kind uint) (integer_atomic c width)
    (pick (eqb kind float && eqb width 4) (allowed_with (bit c shader_float32_atomic) shader_float32_atomic)
    (err 12 0 0))

-- ---- the immediates word: 0, or 1 plus the scalar kind, for an integer or float of width 2
abbrev pub immediates_word : (kind width : ℕ) → ℕ
immediates_word kind width = pick (eqb width 2 && leb kind float) (1 + kind) 0
