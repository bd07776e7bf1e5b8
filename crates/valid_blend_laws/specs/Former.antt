-- 02, E9: "Arenas without blend sources give the former rows." The former definitions: member records of two words, type and offset, and no
-- rule of blend sources. They are those of valid_arena (Arena) and of the crates below it but for what stands here. Rows are by the older uniform rule.
-- Assumes nothing.
use Rattle.std.specs.Prelude.{Bool, ◌&&◌, List, [], ◌∷◌, ℕ, ◌+◌, ◌*◌, ◌/◌, ◌%◌, ◌<◌, eqb, leb, ltb, length, get_or}
use Rattle.ir_records.specs.Result.{Result, ok, pick, require, and_then}
use Rattle.ir_records.specs.Record.{Decoded, decoded, type_words, type_count, member_count, member_type, member_offset, struct_members, Sourceless}
use Rattle.ir_records.specs.Fields.{most_types, most_members, row_words, fields_at}
use Rattle.ir_records.specs.Table.{result_at, value_at, also, first_refusal, flat}
use Rattle.ir_records.specs.Outcome.{Outcome}
use Rattle.ir_records.specs.Outcome.{Refused}
use Rattle.ir_records.specs.declared.TypeInner.{TypeInner}
use Rattle.ir_records.specs.declared.TypeInner.TheVariants.{Plain, Array, RuntimeArray, Struct, Other}
use Rattle.proc_layouter.specs.LentRows.{lent_after}
use Rattle.proc_layouter.specs.Layouter.{layout, layout_at}
use Rattle.valid_type_info.specs.declared.Row.{Row}
use Rattle.valid_type_info.specs.TypeInfo.{empty_row, words_of, row_sizes, row_flags}
use Rattle.valid_type_info.specs.Verdict.{min_uniform}
use Rattle.valid_member_bounds.specs.MemberBounds.{bounds_after}
use Rattle.valid_types.specs.ValidateType.{flags_of, row_of}

-- ---- the former tables
abbrev pub pair_words : ℕ
pair_words = 2

-- bits 0 to 12
abbrev pub former_capabilities : ℕ
former_capabilities = 8191

-- the last two words of each record dropped
abbrev pub dropped : List ℕ → List ℕ
dropped ms = flat (λ k. member_type ms k ∷ member_offset ms k ∷ []) (member_count ms)

-- a former table as the definitions read it: type and offset of each record
abbrev pub widened : List ℕ → List ℕ
widened pairs = flat (λ k. get_or pairs (k * pair_words) 0 ∷ get_or pairs (k * pair_words + 1) 0 ∷ 0 ∷ 0 ∷ []) (length pairs / pair_words)

abbrev pub former_fits : (c : ℕ) (ts pairs rows : List ℕ) → Bool
former_fits c ts pairs rows =
    leb c former_capabilities
    && (eqb (length ts % type_words) 0 && leb (length ts) (most_types * type_words) && eqb (length pairs % pair_words) 0
    && leb (length pairs) (most_members * pair_words) && leb (length ts / type_words * row_words) (length rows))

-- ---- the flags of a type: a struct's are those that its members leave
abbrev pub former_flags : (c : ℕ) (inner : ℕ → TypeInner) (sizes flags : ℕ → ℕ) → TypeInner → (members : List ℕ) → Result ℕ
former_flags c inner sizes flags (Plain leaf) members = flags_of c inner sizes flags (Plain leaf) members
former_flags c inner sizes flags (Array base count stride) members = flags_of c inner sizes flags (Array base count stride) members
former_flags c inner sizes flags (RuntimeArray base stride) members = flags_of c inner sizes flags (RuntimeArray base stride) members
former_flags c inner sizes flags (Struct count span) members =
    require (ltb 0 count) 16 0 0 (and_then (bounds_after inner sizes flags count span members count) (λ b. ok b.flags))
former_flags c inner sizes flags (Other o) members = flags_of c inner sizes flags (Other o) members

abbrev pub former_step : (c : ℕ) (types : ℕ → Decoded) → (ℕ → Row) → ℕ → Result Row
former_step c types rows i =
    and_then (former_flags c (λ k. (types k).inner) (row_sizes rows) (row_flags rows) (types i).inner (types i).members)
    (λ flags. ok (row_of min_uniform (λ k. (types k).inner) rows i (layout types i) (types i).inner (types i).members flags))

-- ---- the arena: numbers 2 and 3 by the fields alone
abbrev pub former_outcome : (c : ℕ) (ts ms : List ℕ) → Outcome
former_outcome c ts ms =
    also (also (first_refusal (fields_at ts ms) (type_count ts)) (first_refusal (layout_at (decoded ts ms)) (type_count ts)))
    (first_refusal (result_at empty_row (former_step c (decoded ts ms))) (type_count ts))

abbrev pub former_rows : (c : ℕ) (ts ms : List ℕ) → ℕ → List ℕ
former_rows c ts ms n = flat (λ i. words_of (value_at empty_row (former_step c (decoded ts ms)) i)) n

unfoldable pub former_answer : (c : ℕ) (ts pairs rows : List ℕ) → Outcome
former_answer c ts pairs rows = pick (former_fits c ts pairs rows) (former_outcome c ts (widened pairs)) (Refused 1 0 0 0)

unfoldable pub former_words : (c : ℕ) (ts pairs rows : List ℕ) → List ℕ
former_words c ts pairs rows =
    lent_after (former_fits c ts pairs rows) (former_outcome c ts (widened pairs)) (former_rows c ts (widened pairs) (type_count ts)) (type_count ts) rows

-- ---- no member of a struct of the arena has a blend source
abbrev pub NoSources : (ts ms : List ℕ) → Type 0
NoSources ts ms = (i : ℕ) → i < type_count ts → Sourceless (struct_members ts ms i) (member_count (struct_members ts ms i))
