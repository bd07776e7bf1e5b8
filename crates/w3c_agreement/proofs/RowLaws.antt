-- The rows of an accepted arena by the older uniform rule, by what the record says: flags, and the verdicts of both address spaces.
-- Assumes nothing.
use mathlib.Core.Path.{◌≡◌, refl, sym, ◌∙◌, ap}
use mathlib.Core.List.{List}
use Prim.Native.Nat.{ℕ, ◌<◌}
use lib.Dec.{T, ltb}
use Rattle.ir_records.specs.Result.{ok}
use Rattle.ir_records.specs.Record.{Decoded}
use Rattle.ir_records.specs.Table.{table, result_at, first_refusal}
use Rattle.ir_records.specs.Outcome.{Accepted}
use Rattle.ir_records.specs.declared.Leaf.{Leaf}
use Rattle.ir_records.specs.declared.TypeInner.{TypeInner}
use Rattle.ir_records.specs.declared.TypeInner.TheVariants.{Plain, Array, RuntimeArray, Struct}
use borrow.Author.Tests.{ltb-true}
use Rattle.ir_records.proofs.ResultLaws.{required, and_then_ok, ok_inj, T_true}
use Rattle.ir_records.proofs.TableLaws.{all_ok, value_ok, table_value}
use Rattle.proc_layouter.specs.Layouter.{layout}
use Rattle.valid_flags.specs.Flags.{bit, data_bit, host_shareable_bit, array_flags, runtime_array_flags, is_sized_data}
use Rattle.valid_type_flags.specs.TypeFlags.{leaf_flags}
use Rattle.valid_type_info.specs.declared.Verdict.{Verdict}
use Rattle.valid_type_info.specs.declared.Row.{Row}
use Rattle.valid_type_info.specs.TypeInfo.{empty_row, row_sizes, row_flags}
use Rattle.valid_type_info.specs.Verdict.{min_uniform, ok_verdict, array_verdict, span_verdict}
use Rattle.valid_member_bounds.specs.declared.Bounds.{Bounds}
use Rattle.valid_member_bounds.specs.MemberBounds.{bounds_after}
use Rattle.valid_member_rules.specs.MemberRules.{uniform_after, storage_after}
use Rattle.valid_blend.proofs.BlendLaws.{blend_bit}
use Rattle.valid_types.proofs.StructFlags.{struct_flags}
use Rattle.valid_types.specs.ValidateType.{flags_of, leaf_verdict_alignment, uniform_of, storage_of, row_of, judge}
use Rattle.valid_types.proofs.JudgeLaws.{is_data_inner, flags_data}
use Rattle.valid_arena.specs.Arena.{judge_step, judged_at, row}
use Rattle.w3c_agreement.specs.Placed.{Space, storage, uniform}
use Rattle.w3c_agreement.proofs.PlainLaws.{least_in}

-- the verdict of a row in an address space
abbrev pub verdict_in : Row → Space → Verdict
verdict_in r storage = r.storage
verdict_in r uniform = r.uniform

-- the verdict after j members in an address space
abbrev pub after_in : (inner : ℕ → TypeInner) (rows : ℕ → Row) (i : ℕ) (members : List ℕ) → ℕ → Space → Verdict
after_in inner rows i members j storage = storage_after rows i members j
after_in inner rows i members j uniform = uniform_after min_uniform inner rows i members j

-- what each record says
abbrev pub inner_in : (ℕ → Decoded) → ℕ → TypeInner
inner_in types k = (types k).inner

-- the rows of the types before type t
abbrev pub rows_until : (c : ℕ) (types : ℕ → Decoded) (t : ℕ) → ℕ → Row
rows_until c types t = table empty_row (judge_step min_uniform c types) t

module _ (c : ℕ) (types : ℕ → Decoded) (n : ℕ) (accepted : first_refusal (judged_at min_uniform c types) n ≡ Accepted) (t : ℕ) (h : t < n) where
  -- both, of this arena and type
  abbrev inner_at : ℕ → TypeInner
  inner_at = inner_in types

  abbrev rows_before : ℕ → Row
  rows_before = rows_until c types t

  -- the row of type t is made from the rows of the types before it
  judged_step : judge_step min_uniform c types rows_before t ≡ ok (row min_uniform c types t)
  unfolding result_at
  judged_step =
      let a = all_ok (judged_at min_uniform c types) n accepted t h in
      a.1 ∙ ap ok (sym (value_ok empty_row (judge_step min_uniform c types) t a.0 a.1))

  -- the row with these flags, where the record says `inner`
  abbrev row_with : TypeInner → ℕ → Row
  row_with inner flags = row_of min_uniform inner_at rows_before t (layout types t) inner (types t).members flags

  -- its flags, and itself by its flags
  row_parts : (inner : TypeInner) → (types t).inner ≡ inner
      → (flags_of c inner_at (row_sizes rows_before) (row_flags rows_before) inner (types t).members ≡ ok (row min_uniform c types t).flags) × (row min_uniform c types t ≡ row_with inner (row min_uniform c types t).flags)
  unfolding judge row_of
  row_parts inner e =
      let s = and_then_ok (flags_of c inner_at (row_sizes rows_before) (row_flags rows_before) inner (types t).members) (λ flags. ok (row_with inner flags)) (row min_uniform c types t) (rw e at judged_step) in
      let q = ok_inj s.2 in
      let f : s.0 ≡ (row min_uniform c types t).flags = ap (λ (r : Row). r.flags) q in
      (s.1 ∙ ap ok f, sym q ∙ ap (row_with inner) f)

  -- its size and alignment are those of the layout
  pub row_layout : ((row min_uniform c types t).size ≡ (layout types t).size) × ((row min_uniform c types t).alignment ≡ (layout types t).alignment)
  unfolding row_of
  row_layout =
      let p = (row_parts (types t).inner refl).1 in
      (ap (λ (r : Row). r.size) p, ap (λ (r : Row). r.alignment) p)

  -- DATA is set exactly in the rows of what is data
  pub row_data : (inner : TypeInner) → (types t).inner ≡ inner → bit (row min_uniform c types t).flags data_bit ≡ is_data_inner inner
  row_data inner e = flags_data c inner_at (row_sizes rows_before) (row_flags rows_before) inner (types t).members (row min_uniform c types t).flags (row_parts inner e).0

  -- ---- a leaf
  -- the flags of a leaf
  pub leaf-flags : (leaf : Leaf) → (types t).inner ≡ Plain leaf → leaf_flags c leaf ≡ ok (row min_uniform c types t).flags
  unfolding flags_of
  leaf-flags leaf e = (row_parts (Plain leaf) e).0

  -- both verdicts of a leaf are Ok
  pub leaf_verdict : (leaf : Leaf) → (types t).inner ≡ Plain leaf → (space : Space) → verdict_in (row min_uniform c types t) space ≡ ok_verdict (leaf_verdict_alignment leaf)
  unfolding row_of uniform_of storage_of
  leaf_verdict leaf e storage = ap (λ (r : Row). r.storage) (row_parts (Plain leaf) e).1
  leaf_verdict leaf e uniform = ap (λ (r : Row). r.uniform) (row_parts (Plain leaf) e).1

  -- ---- arrays
  -- the row of an earlier type is among those before type t
  pub earlier_row : (k : ℕ) → k < t → rows_before k ≡ row min_uniform c types k
  earlier_row k l = table_value empty_row (judge_step min_uniform c types) t k l

  -- the base of an array is data, sized and resolved; the array has the base's flags of its kind
  pub array-flags : (base count stride : ℕ) → (types t).inner ≡ Array base count stride → base < t
      → T (is_sized_data (row min_uniform c types base).flags) × ((row min_uniform c types t).flags ≡ array_flags (row min_uniform c types base).flags)
  unfolding flags_of
  array-flags base count stride e l =
      let r = required (is_sized_data (rows_before base).flags) 15 0 0 (ok (array_flags (rows_before base).flags)) (row min_uniform c types t).flags (row_parts (Array base count stride) e).0 in
      (rw (earlier_row base l) at r.0, rw (earlier_row base l) at (sym (ok_inj r.1)))

  -- so it is of a runtime-sized array
  pub runtime-array-flags : (base stride : ℕ) → (types t).inner ≡ RuntimeArray base stride → base < t
      → T (is_sized_data (row min_uniform c types base).flags) × ((row min_uniform c types t).flags ≡ runtime_array_flags (row min_uniform c types base).flags)
  unfolding flags_of
  runtime-array-flags base stride e l =
      let r = required (is_sized_data (rows_before base).flags) 15 0 0 (ok (runtime_array_flags (rows_before base).flags)) (row min_uniform c types t).flags (row_parts (RuntimeArray base stride) e).0 in
      (rw (earlier_row base l) at r.0, rw (earlier_row base l) at (sym (ok_inj r.1)))

  -- the verdicts of an array, from the element's
  pub array-verdict : (base count stride : ℕ) → (types t).inner ≡ Array base count stride → base < t → (space : Space)
      → verdict_in (row min_uniform c types t) space ≡ array_verdict (least_in space) t stride (row min_uniform c types base).alignment (verdict_in (row min_uniform c types base) space)
  unfolding row_of uniform_of storage_of
  array-verdict base count stride e l storage =
      ap (λ (r : Row). r.storage) (row_parts (Array base count stride) e).1
      ∙ ap (λ (r : Row). array_verdict 1 t stride r.alignment r.storage) (earlier_row base l)
  array-verdict base count stride e l uniform =
      ap (λ (r : Row). r.uniform) (row_parts (Array base count stride) e).1
      ∙ ap (λ (r : Row). array_verdict 16 t stride r.alignment r.uniform) (earlier_row base l)

  -- and so those of a runtime-sized array
  pub runtime_array_verdict : (base stride : ℕ) → (types t).inner ≡ RuntimeArray base stride → base < t → (space : Space)
      → verdict_in (row min_uniform c types t) space ≡ array_verdict (least_in space) t stride (row min_uniform c types base).alignment (verdict_in (row min_uniform c types base) space)
  unfolding row_of uniform_of storage_of
  runtime_array_verdict base stride e l storage =
      ap (λ (r : Row). r.storage) (row_parts (RuntimeArray base stride) e).1
      ∙ ap (λ (r : Row). array_verdict 1 t stride r.alignment r.storage) (earlier_row base l)
  runtime_array_verdict base stride e l uniform =
      ap (λ (r : Row). r.uniform) (row_parts (RuntimeArray base stride) e).1
      ∙ ap (λ (r : Row). array_verdict 16 t stride r.alignment r.uniform) (earlier_row base l)

  -- ---- structs
  -- a struct is HOST_SHAREABLE where it is so after its members
  pub struct_bounds : (count span : ℕ) → (types t).inner ≡ Struct count span
      → (b : Bounds) × (bounds_after inner_at (row_sizes rows_before) (row_flags rows_before) count span (types t).members count ≡ ok b) × (bit (row min_uniform c types t).flags host_shareable_bit ≡ bit b.flags host_shareable_bit)
  struct_bounds count span e =
      let s = struct_flags c inner_at (row_sizes rows_before) (row_flags rows_before) count span (types t).members (row min_uniform c types t).flags (row_parts (Struct count span) e).0 in
      (s.after, s.accepted, blend_bit inner_at (row_flags rows_before) (types t).members count s.after.flags (row min_uniform c types t).flags s.blend host_shareable_bit refl)

  -- it has a member
  pub struct_some : (count span : ℕ) → (types t).inner ≡ Struct count span → 0 < count
  struct_some count span e =
      let s = struct_flags c inner_at (row_sizes rows_before) (row_flags rows_before) count span (types t).members (row min_uniform c types t).flags (row_parts (Struct count span) e).0 in
      ltb-true 0 count (T_true (ltb 0 count) s.nonempty)

  -- and so are its verdicts, under the span rule
  pub struct_verdict : (count span : ℕ) → (types t).inner ≡ Struct count span → (space : Space)
      → verdict_in (row min_uniform c types t) space ≡ span_verdict t span (layout types t).alignment (after_in inner_at rows_before t (types t).members count space)
  unfolding row_of uniform_of storage_of
  struct_verdict count span e storage = ap (λ (r : Row). r.storage) (row_parts (Struct count span) e).1
  struct_verdict count span e uniform = ap (λ (r : Row). r.uniform) (row_parts (Struct count span) e).1
