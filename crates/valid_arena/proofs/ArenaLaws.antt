-- Laws of an accepted arena: its parts, and what it says of the rows of its types.
-- Assumes nothing.
use mathlib.Core.Path.{◌≡◌, refl, sym, ◌∙◌}
use mathlib.Core.Bool.{Bool, true, false, ◌&&◌, ◌||◌}
use mathlib.Core.Logic.{◌⊎◌}
use mathlib.Core.List.{List, ◌++◌}
use Prim.Native.Nat.{ℕ, suc, ◌*◌, ◌<◌}
use native.Mathlib.Omega.{arith}
use lib.Dec.{T, eqb, eqb→eq}
use lib.ListN.{length}
use Rattle.ir_records.specs.Result.{ok, pick}
use Rattle.ir_records.specs.Record.{decoded, type_count, type_word, inner_of, type_inner, struct_members, member_type, scalar_kind, vector_kind, matrix_kind, cooperative_matrix_kind, atomic_kind, array_kind, struct_kind, ray_query_kind}
use Rattle.ir_records.specs.Fields.{row_words, tables_fit, capabilities_known, record_at}
use Rattle.ir_records.specs.Table.{first_refusal}
use Rattle.ir_records.specs.Outcome.{Outcome}
use Rattle.ir_records.specs.Outcome.{Accepted, Refused}
use Rattle.ir_records.specs.declared.NonData.TheVariants.{Pointer, BindingArray}
use Rattle.ir_records.specs.declared.TypeInner.{TypeInner}
use Rattle.ir_records.specs.declared.TypeInner.TheVariants.{Array, RuntimeArray, Struct, Other}
use Rattle.ir_records.proofs.ResultLaws.{required, and_left, and_right}
use Rattle.ir_records.proofs.TableLaws.{also_accepted, all_ok}
use Rattle.ir_records.proofs.RecordLaws.{record_bounds}
use Rattle.proc_alignment.specs.Alignment.{Power}
use Rattle.proc_layouter.specs.Layouter.{layout_at, layout_outcome}
use Rattle.valid_flags.specs.Flags.{bit, data_bit, sized_bit}
use Rattle.valid_type_flags.specs.TypeFlags.{is_binding_base}
use Rattle.valid_type_info.specs.declared.UniformRule.{UniformRule}
use Rattle.valid_type_info.specs.Verdict.{min_storage, least_for, is_ok, alignment_in}
use Rattle.valid_type_info.proofs.DistanceLaws.{least_power}
use Rattle.valid_member_bounds.specs.MemberBounds.{is_array}
use Rattle.valid_arena.specs.Arena.{judged_at, row, judge_outcome, arena_outcome, arena}
use Rattle.valid_types.proofs.CapabilityLaws.{HasAll}
use Rattle.valid_types.proofs.JudgeLaws.{is_data_inner}
use Rattle.valid_arena.proofs.CommonLaws.{refused_common}
use Rattle.valid_arena.proofs.AcceptedLaws.{AcceptedTypes, array_row, runtime_array_row, base_sized, member_earlier, member_sized, pointer_row, binding_array_row, data_kind, row_power, row_alignment_power, accepted_more, fewer_types, row_capability}
use Rattle.valid_arena.proofs.AppendLaws.{types_append, decoded_append}

-- ---- an accepted arena, taken apart and put together
pub record ArenaParts (c : ℕ) (ts ms : List ℕ) : Type 0 where
  pub capabilities : T (capabilities_known c)
  pub fits : T (tables_fit (length ts) (length ms) (type_count ts * row_words))
  pub records : first_refusal (record_at ts ms) (type_count ts) ≡ Accepted
  pub layouts : first_refusal (layout_at (decoded ts ms)) (type_count ts) ≡ Accepted
  pub rows : (least : ℕ) → first_refusal (judged_at least c (decoded ts ms)) (type_count ts) ≡ Accepted

-- where the outcome behind a test is Accepted, the test holds
pick_accepted : (b : Bool) (o : Outcome) → pick b o (Refused 1 0 0 0) ≡ Accepted → T b × (o ≡ Accepted)
pick_accepted true o e = (tt, e)
pick_accepted false o e = let z : ◌≡◌ {A = ℕ} 0 1 = cc in absurd (omega arith)

-- where the test holds, the outcome behind it is the outcome
accepted_pick : (b : Bool) (o : Outcome) → T b → o ≡ Accepted → pick b o (Refused 1 0 0 0) ≡ Accepted
accepted_pick true o t e = e
accepted_pick false o t e = absurd t

-- two tests that hold
and_both : (a b : Bool) → T a → T b → T (a && b)
and_both true b t u = u
and_both false b t u = t

-- an accepted arena passes every check
pub arena_parts : (c : ℕ) (ts ms : List ℕ) → arena c ts ms ≡ Accepted → ArenaParts c ts ms
unfolding arena arena_outcome layout_outcome judge_outcome
arena_parts c ts ms e =
    let known = capabilities_known c in
    let fit = tables_fit (length ts) (length ms) (type_count ts * row_words) in
    let a = pick_accepted (known && fit) (arena_outcome c ts ms) e in
    let b = also_accepted (layout_outcome ts ms) (judge_outcome c ts ms) a.1 in
    let d = also_accepted (first_refusal (record_at ts ms) (type_count ts)) (first_refusal (layout_at (decoded ts ms)) (type_count ts)) b.0 in
    record { capabilities = and_left known fit a.0; fits = and_right known fit a.0; records = d.0; layouts = d.1; rows = λ least. refused_common least c (decoded ts ms) (type_count ts) ∙ b.1 }

-- an arena that passes every check is accepted
pub arena_whole : (c : ℕ) (ts ms : List ℕ) → ArenaParts c ts ms → arena c ts ms ≡ Accepted
unfolding arena arena_outcome layout_outcome judge_outcome
arena_whole c ts ms p =
    let known = capabilities_known c in
    let fit = tables_fit (length ts) (length ms) (type_count ts * row_words) in
    accepted_pick (known && fit) (arena_outcome c ts ms) (and_both known fit p.capabilities p.fits) (rw (p.records, p.layouts) (sym (refused_common min_storage c (decoded ts ms) (type_count ts)) ∙ p.rows min_storage))

-- each record is in order
pub record_accepted : (c : ℕ) (ts ms : List ℕ) → arena c ts ms ≡ Accepted → (i : ℕ) → i < type_count ts → record_at ts ms i ≡ ok tt
record_accepted c ts ms e i h = (all_ok (record_at ts ms) (type_count ts) (arena_parts c ts ms e).records i h).1

-- each type is accepted
pub accepted_types : (c : ℕ) (ts ms : List ℕ) → arena c ts ms ≡ Accepted → AcceptedTypes c (decoded ts ms) (type_count ts)
accepted_types c ts ms e =
    let p = arena_parts c ts ms e in
    record { bounds = λ i h. record_bounds ts ms i (record_accepted c ts ms e i h); layouts = p.layouts; rows = p.rows }

-- ---- capabilities added: the arena stays accepted
pub arena_more : (c d : ℕ) → HasAll c d → T (capabilities_known d) → (ts ms : List ℕ) → arena c ts ms ≡ Accepted → arena d ts ms ≡ Accepted
arena_more c d adds known ts ms e =
    let p = arena_parts c ts ms e in
    arena_whole d ts ms
    (record {
      capabilities = known;
      fits = p.fits;
      records = p.records;
      layouts = p.layouts;
      rows = (accepted_more c (decoded ts ms) (type_count ts) (accepted_types c ts ms e) d adds).rows;
    })

-- ---- the row of a type depends on records up to it alone: on no capability, and on no appended record
pub arena_row_capability : (least c d : ℕ) (ts ms : List ℕ) → arena c ts ms ≡ Accepted → arena d ts ms ≡ Accepted
    → (t : ℕ) → t < type_count ts → row least c (decoded ts ms) t ≡ row least d (decoded ts ms) t
arena_row_capability least c d ts ms e e' =
    row_capability least c d (decoded ts ms) (decoded ts ms) (type_count ts) (accepted_types c ts ms e) (accepted_types d ts ms e') (λ k h. refl)

-- accepted records decode alike in a longer table
pub decoded_same : (c : ℕ) (ts ms ts' ms' : List ℕ) → arena c ts ms ≡ Accepted
    → (k : ℕ) → k < type_count ts → decoded ts ms k ≡ decoded (ts ++ ts') (ms ++ ms') k
decoded_same c ts ms ts' ms' e k h = decoded_append ts ms ts' ms' k h (record_accepted c ts ms e k h)

-- types appended with further member records, any capabilities
pub arena_row_append : (least c d : ℕ) (ts ms ts' ms' : List ℕ) → arena c ts ms ≡ Accepted → arena d (ts ++ ts') (ms ++ ms') ≡ Accepted
    → (t : ℕ) → t < type_count ts → row least c (decoded ts ms) t ≡ row least d (decoded (ts ++ ts') (ms ++ ms')) t
arena_row_append least c d ts ms ts' ms' e e' =
    row_capability least c d (decoded ts ms) (decoded (ts ++ ts') (ms ++ ms')) (type_count ts) (accepted_types c ts ms e)
    (fewer_types d (decoded (ts ++ ts') (ms ++ ms')) (type_count ts) (type_count (ts ++ ts')) (types_append ts ms ts' ms')
    (accepted_types d (ts ++ ts') (ms ++ ms') e'))
    (decoded_same c ts ms ts' ms' e)

-- ---- what an accepted arena says of type i, by either uniform rule
-- the kinds of data: 0 to 4 and 12 are leaves, 7 is arrays, 8 is structs
abbrev pub is_data_kind : ℕ → Bool
is_data_kind kind =
    eqb kind scalar_kind || (eqb kind vector_kind || (eqb kind matrix_kind || (eqb kind cooperative_matrix_kind || (eqb kind atomic_kind
    || (eqb kind array_kind || (eqb kind struct_kind || eqb kind ray_query_kind))))))

-- one kind of the choice by kinds
data_or : (b : Bool) (x y : TypeInner) (rest : Bool) → is_data_inner x ≡ true → is_data_inner y ≡ rest → is_data_inner (pick b x y) ≡ (b || rest)
data_or true x y rest p q = p
data_or false x y rest p q = q

-- the last kind of data: what is left is no data
data_only : (b : Bool) (x y : TypeInner) → is_data_inner x ≡ true → is_data_inner y ≡ false → is_data_inner (pick b x y) ≡ b
data_only true x y p q = p
data_only false x y p q = q

-- a kind that is no data
data_unless : (b : Bool) (x y : TypeInner) (rest : Bool) → (T b → is_data_inner x ≡ rest) → is_data_inner y ≡ rest → is_data_inner (pick b x y) ≡ rest
data_unless true x y rest p q = p tt
data_unless false x y rest p q = q

-- an array of either form is data
either_array : (b : Bool) (base count stride : ℕ) → is_data_inner (pick b (Array base count stride) (RuntimeArray base stride)) ≡ true
either_array true base count stride = refl
either_array false base count stride = refl

-- what a record says is data just for these kinds
inner_data : (kind a b c d e : ℕ) → is_data_inner (inner_of kind a b c d e) ≡ is_data_kind kind
unfolding inner_of
inner_data kind a b c d e =
    data_or (eqb kind 0) _ _ _ refl
    (data_or (eqb kind 1) _ _ _ refl
    (data_or (eqb kind 2) _ _ _ refl
    (data_or (eqb kind 3) _ _ _ refl
    (data_or (eqb kind 4) _ _ _ refl
    (data_unless (eqb kind 5) _ _ _ (λ t. rw (eqb→eq kind 5 t) refl)
    (data_unless (eqb kind 6) _ _ _ (λ t. rw (eqb→eq kind 6 t) refl)
    (data_or (eqb kind 7) _ _ _ (either_array (eqb b 0) a c d)
    (data_or (eqb kind 8) _ _ _ refl
    (data_unless (eqb kind 9) _ _ _ (λ t. rw (eqb→eq kind 9 t) refl)
    (data_unless (eqb kind 10) _ _ _ (λ t. rw (eqb→eq kind 10 t) refl)
    (data_unless (eqb kind 11) _ _ _ (λ t. rw (eqb→eq kind 11 t) refl)
    (data_only (eqb kind 12) _ _ refl refl))))))))))))

module _ (rule : UniformRule) (c : ℕ) (ts ms : List ℕ) (accepted : arena c ts ms ≡ Accepted) (i : ℕ) (within : i < type_count ts) where
  -- DATA is a matter of what the record says
  pub arena_data : bit (row (least_for rule) c (decoded ts ms) i).flags data_bit ≡ is_data_inner (type_inner ts i)
  arena_data = data_kind (least_for rule) c (decoded ts ms) (type_count ts) (accepted_types c ts ms accepted) i within

  -- DATA by the kind: true for 0 to 4, 7, 8 and 12, false for the others
  pub arena_data_kind : bit (row (least_for rule) c (decoded ts ms) i).flags data_bit ≡ is_data_kind (type_word ts i 0)
  unfolding type_inner
  arena_data_kind = arena_data ∙ inner_data (type_word ts i 0) (type_word ts i 1) (type_word ts i 2) (type_word ts i 3) (type_word ts i 4) (type_word ts i 5)

  -- the layout alignment is a power of two
  pub arena_alignment_power : Power (row (least_for rule) c (decoded ts ms) i).alignment
  arena_alignment_power = row_alignment_power (least_for rule) c (decoded ts ms) (type_count ts) (accepted_types c ts ms accepted) i within

  -- so is the alignment in a storage verdict that is Ok
  pub arena_storage_power : T (is_ok (row (least_for rule) c (decoded ts ms) i).storage) → Power (alignment_in (row (least_for rule) c (decoded ts ms) i).storage)
  arena_storage_power = (row_power (least_for rule) c (decoded ts ms) (type_count ts) (accepted_types c ts ms accepted) (least_power rule) i within).storage

  -- so is the alignment in a uniform verdict that is Ok
  pub arena_uniform_power : T (is_ok (row (least_for rule) c (decoded ts ms) i).uniform) → Power (alignment_in (row (least_for rule) c (decoded ts ms) i).uniform)
  arena_uniform_power = (row_power (least_for rule) c (decoded ts ms) (type_count ts) (accepted_types c ts ms accepted) (least_power rule) i within).uniform

  -- an array's base is an earlier type, and SIZED
  pub arena_array_base : (base count stride : ℕ) → type_inner ts i ≡ Array base count stride
      → (base < i) × T (bit (row (least_for rule) c (decoded ts ms) base).flags sized_bit)
  arena_array_base base count stride e =
      let a = array_row (least_for rule) c (decoded ts ms) (type_count ts) (accepted_types c ts ms accepted) i within base count stride e in
      (a.0, base_sized a.1)

  -- a runtime array's base is an earlier type, and SIZED
  pub arena_runtime_array_base : (base stride : ℕ) → type_inner ts i ≡ RuntimeArray base stride
      → (base < i) × T (bit (row (least_for rule) c (decoded ts ms) base).flags sized_bit)
  arena_runtime_array_base base stride e =
      let a = runtime_array_row (least_for rule) c (decoded ts ms) (type_count ts) (accepted_types c ts ms accepted) i within base stride e in
      (a.0, base_sized a.1)

  -- a struct's member is of an earlier type, and SIZED unless it is the last member and an array
  pub arena_member : (count span : ℕ) → type_inner ts i ≡ Struct count span → (j : ℕ) → j < count
      → (member_type (struct_members ts ms i) j < i)
      × (T (bit (row (least_for rule) c (decoded ts ms) (member_type (struct_members ts ms i) j)).flags sized_bit)
      ⊎ (T (is_array (type_inner ts (member_type (struct_members ts ms i) j))) × (suc j ≡ count)))
  arena_member count span e j l =
      let acc = accepted_types c ts ms accepted in (
        member_earlier (least_for rule) c (decoded ts ms) (type_count ts) acc i within count span e j l,
        member_sized (least_for rule) c (decoded ts ms) (type_count ts) acc i within count span e j l,
      )

  -- a pointer's base is an earlier type, and DATA
  pub arena_pointer_base : (base space : ℕ) → type_inner ts i ≡ Other (Pointer base space)
      → (base < i) × T (bit (row (least_for rule) c (decoded ts ms) base).flags data_bit)
  arena_pointer_base base space e =
      let a = pointer_row (least_for rule) c (decoded ts ms) (type_count ts) (accepted_types c ts ms accepted) i within base space e in
      (a.0, (required (bit (row (least_for rule) c (decoded ts ms) base).flags data_bit) 13 0 0 _ (row (least_for rule) c (decoded ts ms) i).flags a.1).0)

  -- a binding array's base is an earlier type, and a struct where it is DATA
  pub arena_binding_array_base : (base form count : ℕ) → type_inner ts i ≡ Other (BindingArray base form count)
      → (base < i) × T (is_binding_base (type_inner ts base) (row (least_for rule) c (decoded ts ms) base).flags)
  arena_binding_array_base base form count e =
      let a = binding_array_row (least_for rule) c (decoded ts ms) (type_count ts) (accepted_types c ts ms accepted) i within base form count e in
      let flags = (row (least_for rule) c (decoded ts ms) base).flags in
      (a.0, (required (is_binding_base (type_inner ts base) flags) 23 0 0 _ (row (least_for rule) c (decoded ts ms) i).flags a.1).0)
