-- The hypotheses of term 3 by the module's words can be met: a module of 57 words, a struct with a mat3x3 and an array with gaps, its places
-- computed from the words.
-- Assumes nothing.
use mathlib.Core.Path.{◌≡◌, refl}
use mathlib.Core.Logic.{◌≢◌, inl, inr}
use mathlib.Core.List.{List, [], ◌∷◌}
use Prim.Native.Nat.{ℕ, zero, suc, ◌≤◌, ◌<◌}
use native.Mathlib.Omega.{arith}
use lib.ListN.{get_elem?}
use Rattle.ir_records.specs.Result.{ok}
use Rattle.ir_records.specs.Record.{decoded, inner_of, type_inner, struct_members}
use Rattle.ir_records.specs.Fields.{tables_fit, fields_ok, record_at, located_to}
use Rattle.ir_records.specs.Table.{result_at, value_at}
use Rattle.ir_records.specs.Outcome.{Accepted}
use Rattle.proc_type_methods.specs.TypeMethods.{column_step, try_size}
use Rattle.proc_type_alignment.specs.TypeAlignment.{members_alignment, alignment_of}
use Rattle.proc_type_layout.specs.TypeLayout.{layout_of}
use Rattle.proc_layouter.specs.Layouter.{layout_outcome}
use Rattle.valid_width.specs.Width.{integer_width, float_width, check_width}
use Rattle.valid_type_flags.specs.TypeFlags.{leaf_flags}
use Rattle.valid_type_info.specs.declared.UniformRule.{UniformRule}
use Rattle.valid_type_info.specs.Verdict.{array_verdict, share_verdict, member_verdict, distance_verdict, distance_ok, unsized_verdict, span_verdict, previous_of}
use Rattle.valid_member_bounds.specs.MemberBounds.{member_bounds}
use Rattle.valid_blend.specs.Blend.{source_at, source_result, blended_after, other_location, struct_blend}
use Rattle.valid_member_rules.specs.MemberRules.{uniform_after, storage_after, immediates_after}
use Rattle.valid_types.specs.ValidateType.{flags_of, uniform_of, storage_of, immediates_of, row_of, judge, judge_common}
use Rattle.valid_arena.specs.Arena.{judge_outcome, arena_outcome, arena}
use Rattle.valid_arena.proofs.ArenaLaws.{accepted_types}
use Rattle.place_descent.specs.Place.{At, NoPlace}
use Rattle.place_term3.specs.Term3.{row_in, HostShareableData, stride_covers, StridesCover, rewrite}
use Rattle.place_term3.proofs.ReachedLaws.{strides_cover}
use Rattle.spirv_words.specs.Module.{word, starts, first, only, count}
use Rattle.spirv_ids.specs.Ids.{integer_before, is_constant, gives, giver, type_number, sort_at, sort}
use Rattle.spirv_members.specs.Members.{member_number, offset_at, member_rows, column_step_in, stored_otherwise, member_unsupported, members_unsupported, member_sound, members_sound, struct_alignment, size_in, last_end}
use Rattle.spirv_types.specs.Types.{State, is_fresh, bool_type, int_type, float_type, vector_type, matrix_type, stride_at, length_of, array_type, runtime_array_type, struct_type, type_by, type_at}
use Rattle.spirv_instruction.specs.Instruction.{least_words, words_ok, type_read, other_read, instruction}
use Rattle.spirv_read.specs.Read.{read_from, read_module}
use Rattle.spirv_records.specs.TypesRead.{TypeReadAt}
use Rattle.spirv_place.specs.ModulePlace.{matrix_rows, matrix_width, module_step, module_place, module_bytes, itself}
use Rattle.spirv_place.specs.SpirvTerm3.{ReadType, ModuleLeaf, InModuleLeaf}
use Rattle.spirv_place.proofs.SpirvTerm3Proof.{spirv_term3}

-- ---- the module
abbrev pub words : List ℕ
words =
    119734787 ∷ 65536 ∷ 0 ∷ 8 ∷ 0
    -- OpDecorate %6 ArrayStride 16
    ∷ 262215 ∷ 6 ∷ 6 ∷ 16
    -- OpMemberDecorate %7 0 Offset 0, 1 Offset 16, 1 MatrixStride 16, 2 Offset 64
    ∷ 327752 ∷ 7 ∷ 0 ∷ 35 ∷ 0
    ∷ 327752 ∷ 7 ∷ 1 ∷ 35 ∷ 16
    ∷ 327752 ∷ 7 ∷ 1 ∷ 7 ∷ 16
    ∷ 327752 ∷ 7 ∷ 2 ∷ 35 ∷ 64
    -- word 29: %1 = OpTypeFloat 32
    ∷ 196630 ∷ 1 ∷ 32
    -- word 32: %2 = OpTypeVector %1 3
    ∷ 262167 ∷ 2 ∷ 1 ∷ 3
    -- word 36: %3 = OpTypeMatrix %2 3
    ∷ 262168 ∷ 3 ∷ 2 ∷ 3
    -- word 40: %4 = OpTypeInt 32 0
    ∷ 262165 ∷ 4 ∷ 32 ∷ 0
    -- %5 = OpConstant %4 2
    ∷ 262187 ∷ 4 ∷ 5 ∷ 2
    -- word 48: %6 = OpTypeArray %1 %5
    ∷ 262172 ∷ 6 ∷ 1 ∷ 5
    -- word 52: %7 = OpTypeStruct %1 %3 %6
    ∷ 327710 ∷ 7 ∷ 1 ∷ 3 ∷ 6
    ∷ []

-- ---- its records: f32, vec3, mat3x3, u32, the array, and the struct with a span of 96
abbrev pub types : List ℕ
types =
    0 ∷ 2 ∷ 4 ∷ 0 ∷ 0 ∷ 0
    ∷ 1 ∷ 3 ∷ 2 ∷ 4 ∷ 0 ∷ 0
    ∷ 2 ∷ 3 ∷ 3 ∷ 2 ∷ 4 ∷ 0
    ∷ 0 ∷ 1 ∷ 4 ∷ 0 ∷ 0 ∷ 0
    ∷ 7 ∷ 0 ∷ 0 ∷ 2 ∷ 16 ∷ 0
    ∷ 8 ∷ 0 ∷ 3 ∷ 96 ∷ 0 ∷ 0
    ∷ []

abbrev pub members : List ℕ
members = 0 ∷ 0 ∷ 0 ∷ 0 ∷ 2 ∷ 16 ∷ 0 ∷ 0 ∷ 4 ∷ 64 ∷ 0 ∷ 0 ∷ []

abbrev pub state : State
state = record { types = types; members = members; alignments = 4 ∷ 16 ∷ 16 ∷ 4 ∷ 4 ∷ 16 ∷ [] }

pub is-read : read_module 6 3 words ≡ ok state
unfolding read_module read_from instruction type_read other_read least_words words_ok type_at type_by is_fresh bool_type int_type float_type vector_type matrix_type stride_at length_of array_type runtime_array_type struct_type member_number offset_at member_rows column_step_in stored_otherwise member_unsupported members_unsupported member_sound members_sound struct_alignment size_in last_end integer_before is_constant gives giver type_number sort_at sort starts first only count type_inner inner_of members_alignment alignment_of
is-read = refl

-- the struct stands at word 52, and has number 5
pub struct-at : TypeReadAt words 52
unfolding starts
struct-at = record { among = inr (inr (inr (inr (inr (inr (inr (inr (inr (inr (inr (inl refl))))))))))); reads = refl }

pub the_struct : ReadType 6 3 words state 52
the_struct = record { is_read = is-read; is_type = struct-at }

pub number : type_number words 52 ≡ 5
unfolding type_number starts count
number = refl

-- ---- places by the words: the float, two columns of the matrix, the second element of the array; the matrix without a column is no place
pub float_place : module_place words 52 (0 ∷ []) ≡ At 0 29
unfolding module_place module_step giver gives is_constant integer_before offset_at stride_at length_of sort sort_at type_number starts first only count
float_place = refl

pub second_column : module_place words 52 (1 ∷ 1 ∷ []) ≡ At 32 36
unfolding module_place module_step giver gives is_constant integer_before offset_at stride_at length_of sort sort_at type_number starts first only count
second_column = refl

pub third_column : module_place words 52 (1 ∷ 2 ∷ []) ≡ At 48 36
unfolding module_place module_step giver gives is_constant integer_before offset_at stride_at length_of sort sort_at type_number starts first only count
third_column = refl

-- the columns as leaves
abbrev the_second : ModuleLeaf words 52
the_second = record { steps = 1 ∷ 1 ∷ []; byte = 32; ty = 36; place = second_column }

abbrev the_third : ModuleLeaf words 52
the_third = record { steps = 1 ∷ 2 ∷ []; byte = 48; ty = 36; place = third_column }

pub element : module_place words 52 (2 ∷ 1 ∷ []) ≡ At 80 29
unfolding module_place module_step giver gives is_constant integer_before offset_at stride_at length_of sort sort_at type_number starts first only count
element = refl

pub no_places : (module_place words 52 (1 ∷ []) ≡ NoPlace) × (module_place words 52 (2 ∷ 2 ∷ []) ≡ NoPlace) × (module_place words 52 (3 ∷ []) ≡ NoPlace)
unfolding module_place module_step giver gives is_constant integer_before offset_at stride_at length_of sort sort_at type_number starts first only count
no_places = (refl, refl, refl)

-- twelve bytes a column, four the float
pub leaves : (module_bytes words 36 ≡ 12) × (module_bytes words 29 ≡ 4)
unfolding module_bytes giver gives is_constant integer_before starts first
leaves = (refl, refl)

-- ---- the arena
pub accepted : arena 0 types members ≡ Accepted
unfolding arena arena_outcome layout_outcome judge_outcome tables_fit record_at located_to fields_ok type_inner inner_of struct_members result_at value_at try_size members_alignment alignment_of layout_of integer_width float_width check_width array_verdict share_verdict member_verdict distance_verdict distance_ok unsized_verdict span_verdict previous_of member_bounds blended_after source_result source_at other_location struct_blend uniform_after storage_after immediates_after leaf_flags flags_of uniform_of storage_of immediates_of row_of judge judge_common
accepted = refl

float_size : (rule : UniformRule) → (row_in rule 0 types members 0).size ≡ 4
unfolding type_inner inner_of struct_members result_at value_at try_size members_alignment alignment_of layout_of integer_width float_width check_width leaf_flags flags_of uniform_of storage_of immediates_of row_of judge
float_size rule = refl

-- DATA, SIZED, COPY, HOST_SHAREABLE, ARGUMENT, CONSTRUCTIBLE and CREATION_RESOLVED
flags : (rule : UniformRule) → (row_in rule 0 types members 5).flags ≡ 247
unfolding type_inner inner_of struct_members result_at value_at try_size members_alignment alignment_of layout_of integer_width float_width check_width array_verdict share_verdict member_verdict distance_verdict distance_ok unsized_verdict span_verdict previous_of member_bounds blended_after source_result source_at other_location struct_blend uniform_after storage_after immediates_after leaf_flags flags_of uniform_of storage_of immediates_of row_of judge
flags rule = refl

shareable : (rule : UniformRule) → HostShareableData rule 0 types members (type_number words 52)
shareable rule = rw number (record { accepted = accepted; within = omega arith; is_data = rw (flags rule) tt; host_shareable = rw (flags rule) tt })

each_covers : (rule : UniformRule) (a : ℕ) → a < 6 → stride_covers (row_in rule 0 types members) (decoded types members a).inner
unfolding type_inner inner_of
each_covers rule zero h = tt
each_covers rule (suc zero) h = tt
each_covers rule (suc (suc zero)) h = tt
each_covers rule (suc (suc (suc zero))) h = tt
each_covers rule (suc (suc (suc (suc zero)))) h = rw (float_size rule) (omega arith)
each_covers rule (suc (suc (suc (suc (suc zero))))) h = tt
each_covers rule (suc (suc (suc (suc (suc (suc a)))))) h = absurd (omega arith)

covers : (rule : UniformRule) → StridesCover (row_in rule 0 types members) (decoded types members) (type_number words 52)
covers rule = rw number (strides_cover rule 0 (decoded types members) 6 (accepted_types 0 types members accepted) (each_covers rule) 5 (omega arith))

-- ---- what the theorem says of them
different : ◌≢◌ {A = List ℕ} (1 ∷ 1 ∷ []) (1 ∷ 2 ∷ [])
different e = let z : ◌≡◌ {A = ℕ} 1 2 = cc in omega arith

-- whatever is written to the twelve bytes of the second column, those of the third stay
pub column_stays : (rule : UniformRule) (buffer bytes : List ℕ) (k : ℕ) → 48 ≤ k → k < 60 → get_elem? (rewrite buffer 32 12 bytes) k ≡ get_elem? buffer k
column_stays rule buffer bytes k low high =
    rw leaves.0 at
    (spirv_term3.others rule 0 6 3 words state 52 the_struct (shareable rule) (covers rule) the_second the_third different k (low, rw leaves.0 high) buffer bytes)

-- the four bytes between the two are in no leaf
pub gap : (rule : UniformRule) (k : ℕ) → 44 ≤ k → k < 48 → ¬ InModuleLeaf words 52 k
unfolding giver gives is_constant integer_before starts first
gap rule k low high =
    (spirv_term3.gaps rule 0 6 3 words state 52 k the_struct (shareable rule)).1 (covers rule)
    (record { leaf = the_second; matrix = refl; past = rw leaves.0 low; below = high })

-- the column step of the matrix is the MatrixStride that the module gives for member 1
pub matrix-stride : word words 19 4 ≡ column_step (matrix_rows words 36) (matrix_width words 36)
unfolding giver gives is_constant integer_before starts first
matrix-stride = (spirv_term3.columns 6 3 words state 52 the_struct refl 1 (omega arith) 36 itself refl 19 (inr (inr (inr (inl refl)))) refl refl).1 refl
