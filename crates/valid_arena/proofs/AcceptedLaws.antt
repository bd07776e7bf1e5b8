-- What an arena whose first n types are accepted says of each of them: its row by its kind, powers of two, references, DATA.
-- Assumes nothing.
use mathlib.Core.Path.{◌≡◌, refl, sym, ◌∙◌, ap, subst}
use mathlib.Core.Bool.{◌&&◌, not}
use mathlib.Core.Logic.{◌⊎◌}
use mathlib.Core.List.{List}
use Prim.Native.Nat.{ℕ, zero, suc, ◌*◌, ◌/◌, ◌%◌, ◌^◌, ◌≤◌, ◌<◌}
use native.Mathlib.Nat.{not-suc-le-zero, le_refl}
use native.Mathlib.Decide.{ℕ_discrete}
use native.Mathlib.Omega.{arith}
use lib.Bits.{bit_and, bit_or}
use lib.Dec.{T, ltb→lt}
use Rattle.ir_records.specs.Result.{ok}
use Rattle.ir_records.specs.Record.{Decoded, member_type}
use Rattle.ir_records.specs.Serving.{InnerBounds}
use Rattle.ir_records.specs.Table.{table, result_at, first_refusal}
use Rattle.ir_records.specs.Outcome.{Accepted}
use Rattle.ir_records.specs.declared.Leaf.{Leaf}
use Rattle.ir_records.specs.declared.Leaf.TheVariants.{Scalar, Vector, Matrix, CooperativeMatrix, Atomic, RayQuery}
use Rattle.ir_records.specs.declared.NonData.{NonData}
use Rattle.ir_records.specs.declared.NonData.TheVariants.{Pointer, BindingArray}
use Rattle.ir_records.specs.declared.TypeInner.{TypeInner}
use Rattle.ir_records.specs.declared.TypeInner.TheVariants.{Plain, Array, RuntimeArray, Struct, Other}
use Rattle.ir_records.proofs.ResultLaws.{required, ok_inj, and_left, and_right}
use Rattle.ir_records.proofs.TableLaws.{table_value, value_ok, same_value, same_good, all_ok, accepted_all}
use Rattle.proc_alignment.specs.Alignment.{Power}
use Rattle.proc_alignment.proofs.PowerLaws.{power_of_width, power_vector}
use Rattle.proc_type_methods.specs.TypeMethods.{leaf_size}
use Rattle.proc_type_alignment.specs.TypeAlignment.{leaf_width}
use Rattle.proc_type_alignment.proofs.AcceptedAlignment.{members_earlier}
use Rattle.proc_type_alignment.proofs.AlignmentPower.{power_one}
use Rattle.proc_layouter.specs.Layouter.{no_layout, layout_step, layout_at, layout}
use Rattle.proc_layouter.proofs.LayoutAccepted.{plain_layout, plain-width, array_layout, runtime_array_layout, struct_layout}
use Rattle.proc_layouter.proofs.LayoutPower.{layout_power}
use Rattle.valid_flags.specs.Flags.{bit, io_shareable_flag, data_bit, sized_bit, creation_resolved_bit, is_sized_data}
use Rattle.valid_flags.proofs.BitLaws.{bit_or_left, bit_or_right}
use Rattle.valid_type_flags.specs.TypeFlags.{leaf_flags, pointer_to, is_binding_base, is_external_image, binding_array_of}
use Rattle.valid_type_info.specs.declared.Row.{Row}
use Rattle.valid_type_info.specs.TypeInfo.{empty_row, row_sizes, row_flags}
use Rattle.valid_type_info.specs.Verdict.{min_storage, ok_verdict, array_verdict, span_verdict}
use Rattle.valid_type_info.proofs.VerdictLaws.{OkPower, ok_power, array_power, span_ok, same_power}
use Rattle.valid_member_bounds.specs.declared.Bounds.{Bounds}
use Rattle.valid_member_bounds.specs.MemberBounds.{is_array, bounds_after}
use Rattle.valid_member_rules.specs.MemberRules.{uniform_after, storage_after, immediates_after}
use Rattle.valid_member_bounds.proofs.BoundsLaws.{MemberIn, members-in}
use Rattle.valid_member_rules.proofs.MemberLaws.{storage_power_after, uniform_power_after}
use Rattle.valid_member_bounds.proofs.BoundsSame.{bounds-read}
use Rattle.valid_member_rules.proofs.MemberSame.{uniform_rows, storage_rows, immediates_rows}
use Rattle.valid_types.specs.ValidateType.{non_data_flags, flags_of, leaf_verdict_alignment, leaf_immediates, uniform_of, storage_of, immediates_of, row_of, judge}
use Rattle.valid_arena.specs.Arena.{judge_step, judged_at, row}
use Rattle.valid_blend.specs.Blend.{struct_blend}
use Rattle.valid_blend.proofs.BlendLaws.{blend_read, blend_bit}
use Rattle.valid_types.proofs.StructFlags.{struct_flags}
use Rattle.valid_types.proofs.CapabilityLaws.{HasAll, judge_more}
use Rattle.valid_types.proofs.JudgeLaws.{Judged, judged_parts, is_data_inner, flags_data}
use Rattle.valid_arena.proofs.DependLaws.{inner_in, rows_before, flagged_earlier, layout_at_depends, row_depends, judged_depends}

-- the first n types are accepted: fields within their bounds, layouts, and rows by any minimum alignment of uniform verdicts
pub record AcceptedTypes (c : ℕ) (types : ℕ → Decoded) (n : ℕ) : Type 0 where
  pub bounds : (i : ℕ) → i < n → InnerBounds (types i).inner
  pub layouts : first_refusal (layout_at types) n ≡ Accepted
  pub rows : (least : ℕ) → first_refusal (judged_at least c types) n ≡ Accepted

-- ---- rows by kind
-- the row r of a leaf
pub record PlainRow (c : ℕ) (leaf : Leaf) (r : Row) : Type 0 where
  pub flags : leaf_flags c leaf ≡ ok r.flags
  pub size : r.size ≡ leaf_size leaf
  pub uniform : r.uniform ≡ ok_verdict (leaf_verdict_alignment leaf)
  pub storage : r.storage ≡ ok_verdict (leaf_verdict_alignment leaf)
  pub immediates : r.immediates ≡ leaf_immediates leaf

-- the row r of array i whose base has the row `base`
pub record ArrayRow (least i bytes stride mask : ℕ) (base r : Row) : Type 0 where
  pub is_base : T (is_sized_data base.flags)
  pub flags : r.flags ≡ bit_and base.flags mask
  pub size : r.size ≡ bytes
  pub uniform : r.uniform ≡ array_verdict least i stride base.alignment base.uniform
  pub storage : r.storage ≡ array_verdict min_storage i stride base.alignment base.storage
  pub immediates : r.immediates ≡ base.immediates

-- an array's base is DATA
pub base_data : {least i bytes stride mask : ℕ} {base r : Row} → ArrayRow least i bytes stride mask base r → T (bit base.flags data_bit)
base_data {base = base} a =
    and_left (bit base.flags data_bit) (bit base.flags sized_bit)
    (and_left (bit base.flags data_bit && bit base.flags sized_bit) (bit base.flags creation_resolved_bit) a.is_base)

-- an array's base is SIZED
pub base_sized : {least i bytes stride mask : ℕ} {base r : Row} → ArrayRow least i bytes stride mask base r → T (bit base.flags sized_bit)
base_sized {base = base} a =
    and_right (bit base.flags data_bit) (bit base.flags sized_bit)
    (and_left (bit base.flags data_bit && bit base.flags sized_bit) (bit base.flags creation_resolved_bit) a.is_base)

-- the row r of struct i
pub record StructRow (least : ℕ) (inner : ℕ → TypeInner) (rows : ℕ → Row) (i alignment count span : ℕ) (members : List ℕ) (r : Row) : Type 0 where
  pub nonempty : 0 < count
  pub after : Bounds
  pub accepted : bounds_after inner (row_sizes rows) (row_flags rows) count span members count ≡ ok after
  pub blend : struct_blend inner (row_flags rows) members count after.flags ≡ ok r.flags
  -- blend sources may add IO_SHAREABLE, and nothing else
  pub flags : (k : ℕ) → io_shareable_flag / 2 ^ k % 2 ≡ 0 → bit r.flags k ≡ bit after.flags k
  pub size : r.size ≡ span
  pub uniform : r.uniform ≡ span_verdict i span alignment (uniform_after least inner rows i members count)
  pub storage : r.storage ≡ span_verdict i span alignment (storage_after rows i members count)
  pub immediates : r.immediates ≡ immediates_after rows members count

-- both verdict alignments are powers of two where the verdict is Ok
pub record RowPower (r : Row) : Type 0 where
  pub uniform : OkPower r.uniform
  pub storage : OkPower r.storage

-- the verdict alignment of a leaf is a power of two, where its width is
leaf_verdict_power : (leaf : Leaf) → Power (leaf_width leaf) → Power (leaf_verdict_alignment leaf)
leaf_verdict_power (Scalar k w) p = p
leaf_verdict_power (Vector n k w) p = power_vector n w p
leaf_verdict_power (Matrix cs rs k w) p = power_vector rs w p
leaf_verdict_power (CooperativeMatrix cs rs k w o) p = p
leaf_verdict_power (Atomic k w) p = p
leaf_verdict_power (RayQuery v) p = power_one

module _ (least c : ℕ) (types : ℕ → Decoded) (n : ℕ) (acc : AcceptedTypes c types n) where
  -- the row of an accepted type is what its judgement gives
  pub row_judged : (i : ℕ) → i < n
      → judge least c (inner_in types) (rows_before least c types i) i (layout types i) (types i).inner (types i).members ≡ ok (row least c types i)
  unfolding result_at
  row_judged i h =
      let a = all_ok (judged_at least c types) n (acc.rows least) i h in
      a.1 ∙ ap ok (sym (value_ok empty_row (judge_step least c types) i a.0 a.1))

  -- the rows before i are the arena's
  pub row_before : (i k : ℕ) → k < i → rows_before least c types i k ≡ row least c types k
  row_before i k h = table_value empty_row (judge_step least c types) i k h

  -- the parts of that judgement, by what the record says
  pub row_parts : (i : ℕ) → i < n → (this : TypeInner) → (types i).inner ≡ this
      → Judged least c (inner_in types) (rows_before least c types i) i (layout types i) this (types i).members (row least c types i)
  row_parts i h this e =
      subst (λ (x : TypeInner). Judged least c (inner_in types) (rows_before least c types i) i (layout types i) x (types i).members (row least c types i)) e
      (judged_parts least c (inner_in types) (rows_before least c types i) i (layout types i) (types i).inner (types i).members (row least c types i) (row_judged i h))

  -- the size in a row is the layout's
  pub row_size : (i : ℕ) → i < n → (row least c types i).size ≡ (layout types i).size
  unfolding row_of
  row_size i h = ap (λ (r : Row). r.size) (row_parts i h (types i).inner refl).is

  -- and so is the alignment
  pub row_alignment : (i : ℕ) → i < n → (row least c types i).alignment ≡ (layout types i).alignment
  unfolding row_of
  row_alignment i h = ap (λ (r : Row). r.alignment) (row_parts i h (types i).inner refl).is

  -- the layout alignment is a power of two
  pub row_alignment_power : (i : ℕ) → i < n → Power (row least c types i).alignment
  row_alignment_power i h = rw (row_alignment i h) (layout_power types n acc.bounds acc.layouts i h)

  -- the row of a leaf
  pub plain-row : (i : ℕ) → i < n → (leaf : Leaf) → (types i).inner ≡ Plain leaf → PlainRow c leaf (row least c types i)
  unfolding flags_of uniform_of storage_of immediates_of row_of
  plain-row i h leaf e =
      let p = row_parts i h (Plain leaf) e in
      record {
        flags = p.flags;
        size = row_size i h ∙ (plain_layout types n acc.layouts i h leaf e).0;
        uniform = ap (λ (r : Row). r.uniform) p.is;
        storage = ap (λ (r : Row). r.storage) p.is;
        immediates = ap (λ (r : Row). r.immediates) p.is;
      }

  -- the base of an array is an earlier type; the array's row is made from the base's
  pub array_row : (i : ℕ) → i < n → (base count stride : ℕ) → (types i).inner ≡ Array base count stride
      → (base < i) × ArrayRow least i (count * stride) stride 247 (row least c types base) (row least c types i)
  unfolding flags_of uniform_of storage_of immediates_of row_of
  array_row i h base count stride e =
      let p = row_parts i h (Array base count stride) e in
      let l = array_layout types n acc.layouts i h base count stride e in
      let a = required (is_sized_data (rows_before least c types i base).flags) 15 0 0 _ (row least c types i).flags p.flags in (
        l.1,
        subst (λ (b : Row). ArrayRow least i (count * stride) stride 247 b (row least c types i)) (row_before i base l.1)
            (record {
              is_base = a.0;
              flags = sym (ok_inj a.1);
              size = row_size i h ∙ l.0;
              uniform = ap (λ (r : Row). r.uniform) p.is;
              storage = ap (λ (r : Row). r.storage) p.is;
              immediates = ap (λ (r : Row). r.immediates) p.is;
            }),
      )

  -- the base of a runtime array is an earlier type; the array's row is made from the base's
  pub runtime_array_row : (i : ℕ) → i < n → (base stride : ℕ) → (types i).inner ≡ RuntimeArray base stride
      → (base < i) × ArrayRow least i stride stride 149 (row least c types base) (row least c types i)
  unfolding flags_of uniform_of storage_of immediates_of row_of
  runtime_array_row i h base stride e =
      let p = row_parts i h (RuntimeArray base stride) e in
      let l = runtime_array_layout types n acc.layouts i h base stride e in
      let a = required (is_sized_data (rows_before least c types i base).flags) 15 0 0 _ (row least c types i).flags p.flags in (
        l.1,
        subst (λ (b : Row). ArrayRow least i stride stride 149 b (row least c types i)) (row_before i base l.1)
            (record {
              is_base = a.0;
              flags = sym (ok_inj a.1);
              size = row_size i h ∙ l.0;
              uniform = ap (λ (r : Row). r.uniform) p.is;
              storage = ap (λ (r : Row). r.storage) p.is;
              immediates = ap (λ (r : Row). r.immediates) p.is;
            }),
      )

  -- the members of a struct are of earlier types
  pub member_earlier : (i : ℕ) → i < n → (count span : ℕ) → (types i).inner ≡ Struct count span → (j : ℕ) → j < count → member_type (types i).members j < i
  member_earlier i h count span e =
      members_earlier (table no_layout (layout_step types) i) i (types i).members count (layout types i).alignment
      (struct_layout types n acc.layouts i h count span e).1

  -- the row of a struct is made from those of its members' types
  pub struct_row : (i : ℕ) → i < n → (count span : ℕ) → (types i).inner ≡ Struct count span
      → StructRow least (inner_in types) (row least c types) i (layout types i).alignment count span (types i).members (row least c types i)
  unfolding flags_of uniform_of storage_of immediates_of row_of
  struct_row i h count span e =
      let p = row_parts i h (Struct count span) e in
      let members = (types i).members in
      let before = rows_before least c types i in
      let same : (j : ℕ) → j < count → before (member_type members j) ≡ row least c types (member_type members j) =
      λ j l. row_before i (member_type members j) (member_earlier i h count span e j l) in
      let same_flags : (j : ℕ) → j < count → (before (member_type members j)).flags ≡ (row least c types (member_type members j)).flags =
      λ j l. ap (λ (r : Row). r.flags) (same j l) in
      let s = struct_flags c (inner_in types) (row_sizes before) (row_flags before) count span members (row least c types i).flags p.flags in
      record {
        nonempty = ltb→lt 0 count s.nonempty;
        after = s.after;
        accepted =
            sym (bounds-read (row_sizes before) (row_sizes (row least c types)) (row_flags before) (row_flags (row least c types)) members count (λ j l. ap (λ (r : Row). r.size) (same j l)) same_flags (inner_in types) count span count (le_refl count))
            ∙ s.accepted;
        blend = sym (blend_read (inner_in types) (row_flags before) (row_flags (row least c types)) members count s.after.flags same_flags) ∙ s.blend;
        flags = blend_bit (inner_in types) (row_flags before) members count s.after.flags (row least c types i).flags s.blend;
        size = row_size i h ∙ (struct_layout types n acc.layouts i h count span e).0;
        uniform =
            ap (λ (r : Row). r.uniform) p.is
            ∙ ap (span_verdict i span (layout types i).alignment) (uniform_rows before (row least c types) members count same least (inner_in types) i count (le_refl count));
        storage =
            ap (λ (r : Row). r.storage) p.is
            ∙ ap (span_verdict i span (layout types i).alignment) (storage_rows before (row least c types) members count same i count (le_refl count));
        immediates = ap (λ (r : Row). r.immediates) p.is ∙ immediates_rows before (row least c types) members count same count (le_refl count);
      }

  -- what an accepted struct says of its member j
  pub struct_member : (i : ℕ) (h : i < n) (count span : ℕ) (e : (types i).inner ≡ Struct count span) (j : ℕ) → j < count
      → MemberIn (inner_in types) (row_sizes (row least c types)) (row_flags (row least c types)) count span (types i).members j (struct_row i h count span e).after
  struct_member i h count span e j l =
      let s = struct_row i h count span e in
      members-in (inner_in types) (row_sizes (row least c types)) (row_flags (row least c types)) count span (types i).members count s.after s.accepted j l

  -- what is no data has Ok verdicts of alignment 1
  pub other_verdicts : (i : ℕ) → i < n → (o : NonData) → (types i).inner ≡ Other o
      → ((row least c types i).uniform ≡ ok_verdict 1) × ((row least c types i).storage ≡ ok_verdict 1)
  unfolding uniform_of storage_of row_of
  other_verdicts i h o e =
      let p = row_parts i h (Other o) e in
      (ap (λ (r : Row). r.uniform) p.is, ap (λ (r : Row). r.storage) p.is)

  -- the base of a pointer is an earlier type; the pointer's flags are made from the base's
  pub pointer_row : (i : ℕ) → i < n → (base space : ℕ) → (types i).inner ≡ Other (Pointer base space)
      → (base < i) × (pointer_to (row least c types base).flags space ≡ ok (row least c types i).flags)
  unfolding flags_of non_data_flags
  pointer_row i h base space e =
      let p = (row_parts i h (Other (Pointer base space)) e).flags in
      let a = required (bit (rows_before least c types i base).flags data_bit) 13 0 0 _ (row least c types i).flags p in
      let l = flagged_earlier least c types i base data_bit a.0 in
      (l, ap (λ (b : Row). pointer_to b.flags space) (sym (row_before i base l)) ∙ p)

  -- the base of a binding array is an earlier type; the binding array's flags are made from the base's
  pub binding_array_row : (i : ℕ) → i < n → (base form count : ℕ) → (types i).inner ≡ Other (BindingArray base form count)
      → (base < i) × (binding_array_of (types base).inner (row least c types base).flags form ≡ ok (row least c types i).flags)
  unfolding flags_of non_data_flags
  binding_array_row i h base form count e =
      let p = (row_parts i h (Other (BindingArray base form count)) e).flags in
      let flags = (rows_before least c types i base).flags in
      let x = required (is_binding_base (types base).inner flags) 23 0 0 _ (row least c types i).flags p in
      let y = required (not (is_external_image (types base).inner)) 24 0 0 _ (row least c types i).flags x.1 in
      let z = required (bit flags creation_resolved_bit) 17 0 0 _ (row least c types i).flags y.1 in
      let l = flagged_earlier least c types i base creation_resolved_bit z.0 in
      (l, ap (λ (b : Row). binding_array_of (types base).inner b.flags form) (sym (row_before i base l)) ∙ p)

  -- ---- DATA: just leaves, arrays and structs
  pub data_kind : (i : ℕ) → i < n → bit (row least c types i).flags data_bit ≡ is_data_inner (types i).inner
  data_kind i h =
      flags_data c (inner_in types) (row_sizes (rows_before least c types i)) (row_flags (rows_before least c types i)) (types i).inner (types i).members (row least c types i).flags (row_parts i h (types i).inner refl).flags

  -- ---- verdict alignments are powers of two, where the minimum alignment is
  module _ (least-is : Power least) where
    -- those of an array are, where the base's are
    array_row_power : (i bytes stride mask : ℕ) (base r : Row) → ArrayRow least i bytes stride mask base r → Power base.alignment → RowPower base → RowPower r
    array_row_power i bytes stride mask base r a l p =
        record {
          uniform = rw a.uniform (array_power least i stride base.alignment base.uniform least-is l p.uniform);
          storage = rw a.storage (array_power min_storage i stride base.alignment base.storage power_one l p.storage);
        }

    -- those of type i are, where the earlier types' are
    power_step : (i : ℕ) → i < n → (this : TypeInner) → (types i).inner ≡ this → ((k : ℕ) → k < i → RowPower (row least c types k)) → RowPower (row least c types i)
    power_step i h (Plain leaf) e ih =
        let p = plain-row i h leaf e in
        let w = leaf_verdict_power leaf (power_of_width (leaf_width leaf) (plain-width types n acc.layouts i h leaf e)) in
        record {
          uniform = rw p.uniform (ok_power (leaf_verdict_alignment leaf) w);
          storage = rw p.storage (ok_power (leaf_verdict_alignment leaf) w);
        }
    power_step i h (Array base count stride) e ih =
        let a = array_row i h base count stride e in
        array_row_power i (count * stride) stride 247 (row least c types base) (row least c types i) a.1 (row_alignment_power base (omega (arith, a.0))) (ih base a.0)
    power_step i h (RuntimeArray base stride) e ih =
        let a = runtime_array_row i h base stride e in
        array_row_power i stride stride 149 (row least c types base) (row least c types i) a.1 (row_alignment_power base (omega (arith, a.0))) (ih base a.0)
    power_step i h (Struct count span) e ih =
        let s = struct_row i h count span e in
        let members = (types i).members in
        let u = uniform_after least (inner_in types) (row least c types) i members count in
        let t = storage_after (row least c types) i members count in
        let a = (layout types i).alignment in
        record {
          uniform =
              rw s.uniform
              (same_power u (span_verdict i span a u) (span_ok i span a u)
              (uniform_power_after least (inner_in types) (row least c types) i members least-is count
              (λ m l. (ih (member_type members m) (member_earlier i h count span e m l)).uniform)));
          storage =
              rw s.storage
              (same_power t (span_verdict i span a t) (span_ok i span a t)
              (storage_power_after (row least c types) i members count
              (λ m l. (ih (member_type members m) (member_earlier i h count span e m l)).storage)));
        }
    power_step i h (Other o) e ih =
        let v = other_verdicts i h o e in
        record { uniform = rw v.0 (ok_power 1 power_one); storage = rw v.1 (ok_power 1 power_one) }

    -- those of the first m types are
    powers_below : (m : ℕ) → m ≤ n → (i : ℕ) → i < m → RowPower (row least c types i)
    powers_below zero l i h = absurd (not-suc-le-zero h)
    powers_below (suc m) l i h = go (powers_below m (omega arith)) (ℕ_discrete i m)
      where
        go : ((k : ℕ) → k < m → RowPower (row least c types k)) → Dec (i ≡ m) → RowPower (row least c types i)
        go ih (yes q) = rw q (power_step m l (types m).inner refl ih)
        go ih (no q) = ih i (omega arith)

    -- those of each type are
    pub row_power : (i : ℕ) → i < n → RowPower (row least c types i)
    row_power = powers_below n (le_refl n)

  -- ---- unsized types: only the last member of a struct, and only an array
  pub member_sized : (i : ℕ) → i < n → (count span : ℕ) → (types i).inner ≡ Struct count span → (j : ℕ) → j < count
      → T (bit (row least c types (member_type (types i).members j)).flags sized_bit)
      ⊎ (T (is_array (types (member_type (types i).members j)).inner) × (suc j ≡ count))
  member_sized i h count span e j l = (struct_member i h count span e j l).sized_or_tail

-- ---- acceptance asks for no minimum alignment
module _ (c : ℕ) (types : ℕ → Decoded) (n : ℕ) (acc : AcceptedTypes c types n) where
  -- ---- the same records below n
  module _ (types' : ℕ → Decoded) (same : (k : ℕ) → k < n → types k ≡ types' k) where
    -- the types are accepted in the other arena too
    pub accepted_depends : AcceptedTypes c types' n
    accepted_depends =
        record {
          bounds = λ i h. subst (λ (d : Decoded). InnerBounds d.inner) (same i h) (acc.bounds i h);
          layouts = accepted_all (layout_at types') n (λ i h.
              let a = all_ok (layout_at types) n acc.layouts i h in
              (a.0, sym (layout_at_depends types types' n same i h) ∙ a.1));
          rows = λ least. accepted_all (judged_at least c types') n (λ i h.
              let a = all_ok (judged_at least c types) n (acc.rows least) i h in
              (a.0, judged_depends types types' n same least c i h a.0 a.1));
        }

  -- ---- capabilities added
  module _ (d : ℕ) (adds : HasAll c d) where
    -- what is judged with c is judged the same with d
    more : (least i : ℕ) → i < n → (r : Row) → judge_step least c types (rows_before least c types i) i ≡ ok r → judge_step least d types (rows_before least c types i) i ≡ ok r
    more least i h r e = judge_more c d adds least (inner_in types) (rows_before least c types i) i (layout types i) (types i).inner (types i).members r e

    -- the rows stay
    pub row_more : (least i : ℕ) → i < n → row least c types i ≡ row least d types i
    row_more least = same_value empty_row (judge_step least c types) (judge_step least d types) n (all_ok (judged_at least c types) n (acc.rows least)) (more least)

    -- the types stay accepted
    pub accepted_more : AcceptedTypes d types n
    accepted_more =
        record {
          bounds = acc.bounds;
          layouts = acc.layouts;
          rows = λ least. accepted_all (judged_at least d types) n
              (same_good empty_row (judge_step least c types) (judge_step least d types) n (all_ok (judged_at least c types) n (acc.rows least)) (more least));
        }

-- fewer of the types are accepted too
pub fewer_types : (c : ℕ) (types : ℕ → Decoded) (m n : ℕ) → m ≤ n → AcceptedTypes c types n → AcceptedTypes c types m
fewer_types c types m n l acc =
    record {
      bounds = λ i h. acc.bounds i (omega arith);
      layouts = accepted_all (layout_at types) m (λ i h. all_ok (layout_at types) n acc.layouts i (omega arith));
      rows = λ least. accepted_all (judged_at least c types) m (λ i h. all_ok (judged_at least c types) n (acc.rows least) i (omega arith));
    }

-- the rows of accepted types depend on their records alone, not on the capability word nor on later types
pub row_capability : (least c d : ℕ) (types types' : ℕ → Decoded) (n : ℕ) → AcceptedTypes c types n → AcceptedTypes d types' n
    → ((k : ℕ) → k < n → types k ≡ types' k) → (i : ℕ) → i < n → row least c types i ≡ row least d types' i
row_capability least c d types types' n acc acc' same i h =
    row_more c types n acc (bit_or c d) (bit_or_left c d) least i h
    ∙ row_depends types types' n same least (bit_or c d) i h
    ∙ sym (row_more d types' n acc' (bit_or c d) (bit_or_right c d) least i h)
