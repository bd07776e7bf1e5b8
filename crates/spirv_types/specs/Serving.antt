-- Serves the contracts of functions inside the library: it adds nothing to what the other files say, and a reader may skip it.
-- What the code makes of an instruction whose id is fresh: test by test, 29 before 30.
-- Assumes nothing.
use Rattle.std.specs.Prelude.{Bool, not, List, Option, Some, None, ℕ, ◌*◌, ◌/◌, eqb, leb, ltb, length}
use Rattle.std.specs.Prelude as std
use Rattle.ir_records.specs.Result.{Result, err, ok, pick, require, and_then, value_or}
use Rattle.ir_records.specs.declared.Words.{Words}
use Rattle.ir_records.specs.declared.Fault.{Fault}
use Rattle.ir_records.specs.declared.ScalarKind.{ScalarKind}
use Rattle.ir_records.specs.Kinds.{scalar_number}
use Rattle.ir_records.specs.Refusal.{number_of}
use Rattle.ir_records.specs.Record.{type_word, scalar_kind, vector_kind, matrix_kind, struct_kind, record_of, array_words}
use Rattle.ir_records.specs.Serving.{record_words}
use Rattle.proc_alignment.specs.Alignment.{vector_alignment, round_up, most}
use Rattle.proc_type_alignment.specs.TypeAlignment.{width_alignment, base_alignment}
use Rattle.spirv_words.specs.Module.{word_count, word, found, type_bool, type_int, type_float, type_vector, type_matrix, type_array, type_runtime_array}
use Rattle.spirv_members.specs.Members.{is_other, member_count_at, layouts_of}
use Rattle.spirv_members.specs.Serving.{type_named, members_made}
use Rattle.spirv_members.specs.declared.Members.{Members}
use Rattle.spirv_types.specs.Types.{width_ok, sign_kind, parts_ok, base_sort, stride_at, stride_of, length_of, length_sort}
use Rattle.spirv_types.specs.declared.Typed.{Typed}
use Rattle.spirv_types.specs.declared.Parts.{Parts}

-- ---- scalars
abbrev pub leaf : Words → (factor width : ℕ) → Typed
leaf w factor width = record { words = w; alignment = value_or 1 (width_alignment factor width) }

abbrev pub width_of : (bits : ℕ) → Result ℕ
width_of bits = require (width_ok bits) 29 0 0 (ok (bits / 8))

abbrev pub kinded : std.Result ScalarKind Fault → Result ℕ
kinded (std.Ok kind) = ok (scalar_number kind)
kinded (std.Err fault) = err (number_of fault) 0 0

abbrev pub sign_of : (signedness : ℕ) → Result ℕ
sign_of signedness = require (not (ltb 1 signedness)) 29 0 0 (ok (sign_kind signedness))

abbrev pub int_made : (ws : List ℕ) (at : ℕ) → Result Typed
int_made ws at = and_then (width_of (word ws at 2)) (λ w. and_then (sign_of (word ws at 3)) (λ k. ok (leaf (record_of scalar_kind k w 0 0) 1 w)))

abbrev pub float_made : (ws : List ℕ) (at : ℕ) → Result Typed
float_made ws at =
    require (not (ltb 3 (word_count ws at))) 29 0 0 (and_then (width_of (word ws at 2)) (λ w. ok (leaf (record_of scalar_kind 2 w 0 0) 1 w)))

-- ---- vectors and matrices
abbrev pub parts_made : (ws ts : List ℕ) (at kind : ℕ) → Result Parts
parts_made ws ts at kind =
    require (parts_ok (word ws at 3)) 29 0 0
    (and_then (type_named (base_sort ws at)) (λ t.
    require (eqb (type_word ts t 0) kind) 30 0 0 (ok (record { count = word ws at 3; part = record_words ts t }))))

abbrev pub vector_made : (ws ts : List ℕ) (at : ℕ) → Result Typed
vector_made ws ts at =
    and_then (parts_made ws ts at scalar_kind) (λ p. ok (leaf (record_of vector_kind p.count p.part.a p.part.b 0) (vector_alignment p.count) p.part.b))

abbrev pub matrix_made : (ws ts : List ℕ) (at : ℕ) → Result Typed
matrix_made ws ts at =
    and_then (parts_made ws ts at vector_kind) (λ p. ok (leaf (record_of matrix_kind p.count p.part.a p.part.b p.part.c) (vector_alignment p.part.a) p.part.c))

-- ---- arrays
abbrev pub stride_made : (ws : List ℕ) (at : ℕ) → Result ℕ
stride_made ws at = require (not (eqb (stride_at ws at) 0)) 30 0 0 (ok (stride_of ws at))

-- 29, or a length, 0 for none
abbrev pub length_made : (ws : List ℕ) (at : ℕ) → Result (Option ℕ)
length_made ws at =
    require (not (is_other (length_sort ws at))) 29 0 0
    (ok (found (length_of ws (length_sort ws at))))

abbrev pub array_typed : (al : List ℕ) (base : ℕ) → Option ℕ → (stride : ℕ) → Typed
array_typed al base size stride =
    record { words = array_words size base stride; alignment = value_or 1 (base_alignment (layouts_of al) (length al) base) }

abbrev pub counted_made : (al : List ℕ) (base : ℕ) → Option ℕ → (stride : ℕ) → Result Typed
counted_made al base (Some n) stride = require (leb (n * stride) most) 30 0 0 (ok (array_typed al base (Some n) stride))
counted_made al base None stride = err 30 0 0

abbrev pub array_made : (ws al : List ℕ) (at : ℕ) → Result Typed
array_made ws al at =
    and_then (length_made ws at) (λ n. and_then (type_named (base_sort ws at)) (λ b. and_then (stride_made ws at) (λ s. counted_made al b n s)))

abbrev pub runtime_array_made : (ws al : List ℕ) (at : ℕ) → Result Typed
runtime_array_made ws al at = and_then (type_named (base_sort ws at)) (λ b. and_then (stride_made ws at) (λ s. ok (array_typed al b None s)))

-- ---- structs
abbrev pub spanned : Members → (first n : ℕ) → Result Typed
spanned m first n =
    require (leb (round_up m.alignment m.end) most) 30 0 0
    (ok (record { words = record_of struct_kind first n (round_up m.alignment m.end) 0; alignment = m.alignment }))

abbrev pub struct_made : (ws ts al : List ℕ) (rows at : ℕ) → Result Typed
struct_made ws ts al rows at = and_then (members_made ws ts al at (member_count_at ws at)) (λ m. spanned m rows (member_count_at ws at))

-- ---- by its opcode
abbrev pub type_made : (ws ts al : List ℕ) (rows at op : ℕ) → Result Typed
type_made ws ts al rows at op =
    pick (eqb op type_bool) (ok (leaf (record_of scalar_kind 3 1 0 0) 1 1))
    (pick (eqb op type_int) (int_made ws at)
    (pick (eqb op type_float) (float_made ws at)
    (pick (eqb op type_vector) (vector_made ws ts at)
    (pick (eqb op type_matrix) (matrix_made ws ts at)
    (pick (eqb op type_array) (array_made ws al at)
    (pick (eqb op type_runtime_array) (runtime_array_made ws al at)
    (struct_made ws ts al rows at)))))))
