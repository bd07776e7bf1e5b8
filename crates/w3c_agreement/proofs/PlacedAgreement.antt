-- An accepted arena judges the placement of its records as the W3C WGSL specification does. Where record t is a WGSL type, placed whatever way:
-- HOST_SHAREABLE is set exactly where the type is host-shareable and the members of its structs are in order and apart; and where it is set,
-- the verdict of an address space is Ok exactly where the constraints of that space hold of the placement, with RequiredAlignOf.
-- Assumes nothing.
use mathlib.Core.Path.{◌≡◌, sym, ◌∙◌, ap}
use mathlib.Core.Bool.{Bool, true, false, ◌&&◌}
use mathlib.Core.Logic.{◌↔◌}
use mathlib.Core.List.{List}
use Prim.Native.Nat.{ℕ, zero, suc, ◌*◌, ◌≤◌, ◌<◌}
use native.Mathlib.Omega.{arith}
use lib.Dec.{T}
use lib.ListN.{length}
use Rattle.ir_records.specs.Result.{pick}
use Rattle.ir_records.specs.Fields.{row_words, tables_fit, capabilities_known, record_at}
use Rattle.ir_records.specs.Record.{Decoded, decoded, type_count, member_type}
use Rattle.ir_records.specs.Table.{first_refusal}
use Rattle.ir_records.specs.Outcome.{Outcome}
use Rattle.ir_records.specs.Outcome.{Accepted, Refused}
use Rattle.ir_records.proofs.TableLaws.{also_accepted}
use Rattle.proc_layouter.specs.Layouter.{layout_at, layout_outcome}
use Rattle.proc_layouter.proofs.LayoutAccepted.{array_layout, runtime_array_layout}
use Rattle.valid_flags.specs.Flags.{bit, host_shareable_bit}
use Rattle.valid_type_info.specs.declared.Row.{Row}
use Rattle.valid_type_info.specs.declared.UniformRule.{UniformRule}
use Rattle.valid_type_info.specs.declared.UniformRule.TheVariants.{Older}
use Rattle.valid_type_info.specs.TypeInfo.{without_uniform}
use Rattle.valid_type_info.specs.Verdict.{min_uniform, least_for, is_ok, alignment_in}
use Rattle.valid_arena.specs.Arena.{judged_at, row, judge_outcome, arena_outcome, arena}
use Rattle.valid_arena.proofs.CommonLaws.{refused_common, row_common}
use Rattle.w3c_agreement.specs.Placed.{Space, storage, uniform, Placed, plain, array, runtime_array, struct, PlacedMembers, last, member, last_member, member_total, type_of_member, align_of, size_of, HostShareable, AllHostShareable, Apart, AllApart, required_align_of, Constraints, IsPlaced, IsMember}
use Rattle.w3c_agreement.specs.Wgsl.{size_of as sizeOfType}
use Rattle.w3c_agreement.specs.Written.{StridesCover, SpansReach, AllSpansReach, bare}
use Rattle.w3c_agreement.proofs.RowLaws.{row_layout}
use Rattle.w3c_agreement.proofs.LeastLaws.{least_size}
use Rattle.w3c_agreement.proofs.PlacedLaws.{member_shareable, member_apart}
use Rattle.w3c_agreement.proofs.PlacedStructLaws.{Marked, Shareable, Agrees, placed_layout, plain_marked, plain_agrees, array_marked, runtime_array_marked, array_agrees, runtime_array_agrees, member_earlier, struct_marked, struct_reaches, struct_agrees}

-- ---- the induction
module _ (c : ℕ) (types : ℕ → Decoded) (n : ℕ) (laid : first_refusal (layout_at types) n ≡ Accepted) (accepted : first_refusal (judged_at min_uniform c types) n ≡ Accepted) where
  mutual
    unfolding IsPlaced HostShareable Apart type_of_member

    -- HOST_SHAREABLE is set exactly where the type is host-shareable and its members are apart
    pub marked : (type : Placed) (t : ℕ) → t < n → IsPlaced type types t → Shareable type ↔ Marked c types t
    marked (plain p) t h is = let m = plain_marked c types n laid accepted t h p is in (λ s. m.0 s.0, λ t. (m.1 t, tt))
    marked (array element count stride) t h is =
        array_marked c types n laid accepted t h element count stride is (λ base l i. marked element base l i)
    marked (runtime_array element stride) t h is =
        runtime_array_marked c types n laid accepted t h element stride is (λ base l i. marked element base l i)
    marked (struct members span) t h is =
        struct_marked c types n laid accepted t h members span is
        (λ i l. marked_member members i (member_type (types t).members i) (omega (arith, member_earlier c types n laid accepted t h members span is i l)) (is.2 i l))

    -- and so it is for the types of a struct's members
    marked_member : (members : PlacedMembers) (i m : ℕ) → m < n → IsMember members types i m → Shareable (type_of_member members i) ↔ Marked c types m
    marked_member (last type offset) i m h is = marked type m h is
    marked_member (member type offset rest) zero m h is = marked type m h is
    marked_member (member type offset rest) (suc i) m h is = marked_member rest i m h is

  mutual
    unfolding IsPlaced HostShareable Apart type_of_member

    -- the verdict of a shareable type is Ok exactly where the constraints hold
    pub agrees : (type : Placed) → HostShareable type → Apart type → (space : Space) → (t : ℕ) → t < n → IsPlaced type types t → Agrees c types type space t
    agrees (plain p) shareable apart space t h is = plain_agrees c types n laid accepted t h p shareable is space
    agrees (array element count stride) shareable apart space t h is =
        array_agrees c types n laid accepted t h element count stride shareable is space (λ base l i. agrees element shareable apart space base l i)
    agrees (runtime_array element stride) shareable apart space t h is =
        runtime_array_agrees c types n laid accepted t h element stride shareable is space (λ base l i. agrees element shareable apart space base l i)
    agrees (struct members span) shareable apart space t h is =
        let below = member_earlier c types n laid accepted t h members span is in
        struct_agrees c types n laid accepted t h members span is shareable apart.0
        (λ i l. (marked_member members i (member_type (types t).members i) (omega (arith, below i l)) (is.2 i l)).0
        (member_shareable members shareable i, member_apart members apart.1 i))
        space
        (λ i l. agrees_member members shareable apart.1 space i (member_type (types t).members i) (omega (arith, below i l)) (is.2 i l))

    -- and so are those of the types of a struct's members
    agrees_member : (members : PlacedMembers) → AllHostShareable members → AllApart members → (space : Space) → (i m : ℕ) → m < n → IsMember members types i m
        → Agrees c types (type_of_member members i) space m
    agrees_member (last type offset) shareable apart space i m h is = agrees type shareable apart space m h is
    agrees_member (member type offset rest) shareable apart space zero m h is = agrees type shareable.0 apart.0 space m h is
    agrees_member (member type offset rest) shareable apart space (suc i) m h is = agrees_member rest shareable.1 apart.1 space i m h is

  mutual
    unfolding IsPlaced HostShareable SpansReach last_member

    -- the spans of a host-shareable type reach to the ends of their last members
    pub reaches : (type : Placed) → HostShareable type → (t : ℕ) → t < n → IsPlaced type types t → SpansReach type
    reaches (plain p) shareable t h is = tt
    reaches (array element count stride) shareable t h is =
        reaches element shareable is.0 (omega (arith, (array_layout types n laid t h is.0 count stride is.1).1)) is.2
    reaches (runtime_array element stride) shareable t h is =
        reaches element shareable is.0 (omega (arith, (runtime_array_layout types n laid t h is.0 stride is.1).1)) is.2
    reaches (struct members span) shareable t h is = (
      struct_reaches c types n laid accepted t h members span is shareable,
      reaches_all members shareable (λ i. member_type (types t).members i)
          (λ i l. (omega (arith, member_earlier c types n laid accepted t h members span is i l), is.2 i l)),
    )

    -- and so do those of its members, whose records f says
    reaches_all : (members : PlacedMembers) → AllHostShareable members → (f : ℕ → ℕ)
        → ((i : ℕ) → i < member_total members → (f i < n) × IsMember members types i (f i)) → AllSpansReach members
    reaches_all (last type offset) shareable f each = let this = each 0 (omega arith) in reaches type shareable (f 0) this.0 this.1
    reaches_all (member type offset rest) shareable f each =
        let this = each 0 (omega arith) in
        (reaches type shareable.0 (f 0) this.0 this.1, reaches_all rest shareable.1 (λ i. f (suc i)) (λ i l. each (suc i) (omega arith)))

-- ---- the theorem
-- an accepted arena has accepted layouts and accepted rows
pub arena_parts : (c : ℕ) (ts ms : List ℕ) → arena c ts ms ≡ Accepted
    → (first_refusal (layout_at (decoded ts ms)) (type_count ts) ≡ Accepted) × (first_refusal (judged_at min_uniform c (decoded ts ms)) (type_count ts) ≡ Accepted)
unfolding arena arena_outcome layout_outcome judge_outcome
arena_parts c ts ms e =
    let both = also_accepted (layout_outcome ts ms) (judge_outcome c ts ms)
    (passed (capabilities_known c && tables_fit (length ts) (length ms) (type_count ts * row_words)) (arena_outcome c ts ms) e) in
    ((also_accepted (first_refusal (record_at ts ms) (type_count ts)) (first_refusal (layout_at (decoded ts ms)) (type_count ts)) both.0).1, refused_common min_uniform c (decoded ts ms) (type_count ts) ∙ both.1)
  where
    passed : (b : Bool) (o : Outcome) → pick b o (Refused 1 0 0 0) ≡ Accepted → o ≡ Accepted
    passed true o p = p
    passed false o p = let z : ◌≡◌ {A = ℕ} 0 1 = cc in absurd (omega arith)

-- flags, sizes, alignments and storage verdicts by either uniform rule are those by the older
module _ (rule : UniformRule) (c : ℕ) (ts ms : List ℕ) (t : ℕ) where
  older_row : without_uniform (row (least_for rule) c (decoded ts ms) t) ≡ without_uniform (row min_uniform c (decoded ts ms) t)
  older_row = row_common (least_for rule) c (decoded ts ms) t ∙ sym (row_common min_uniform c (decoded ts ms) t)

  pub older_flags : (row (least_for rule) c (decoded ts ms) t).flags ≡ (row min_uniform c (decoded ts ms) t).flags
  older_flags = ap (λ (r : Row). r.flags) older_row

  older_storage : (row (least_for rule) c (decoded ts ms) t).storage ≡ (row min_uniform c (decoded ts ms) t).storage
  older_storage = ap (λ (r : Row). r.storage) older_row

-- in an accepted arena record t is a placed WGSL type
module _ (c : ℕ) (ts ms : List ℕ) (accepted : arena c ts ms ≡ Accepted) (type : Placed) (t : ℕ) (h : t < type_count ts) (is : IsPlaced type (decoded ts ms) t) where
  -- ---- by either uniform rule
  module _ (rule : UniformRule) where
    -- HOST_SHAREABLE is set exactly where the type is host-shareable and the members of its structs are in order and apart
    pub host_shareable_placed : (HostShareable type × Apart type) ↔ T (bit (row (least_for rule) c (decoded ts ms) t).flags host_shareable_bit)
    host_shareable_placed =
        let p = arena_parts c ts ms accepted in
        rw (older_flags rule c ts ms t) (marked c (decoded ts ms) (type_count ts) p.0 p.1 type t h is)

    -- where HOST_SHAREABLE is set
    module _ (set : T (bit (row (least_for rule) c (decoded ts ms) t).flags host_shareable_bit)) where
      -- the row's size and alignment are SizeOf and AlignOf of the placement
      pub layout_placed : ((row (least_for rule) c (decoded ts ms) t).size ≡ size_of type) × ((row (least_for rule) c (decoded ts ms) t).alignment ≡ align_of type)
      layout_placed =
          let p = arena_parts c ts ms accepted in
          let r = row_layout c (decoded ts ms) (type_count ts) p.1 t h in
          let l = placed_layout (decoded ts ms) (type_count ts) p.0 type (host_shareable_placed.1 set).0 t h is in
          (ap (λ (x : Row). x.size) (older_row rule c ts ms t) ∙ r.0 ∙ l.0, ap (λ (x : Row). x.alignment) (older_row rule c ts ms t) ∙ r.1 ∙ l.1)

      -- the storage verdict is Ok exactly where the storage constraints hold of the placement, and its alignment is then RequiredAlignOf
      pub storage_placed : (Constraints type storage ↔ T (is_ok (row (least_for rule) c (decoded ts ms) t).storage))
          × (T (is_ok (row (least_for rule) c (decoded ts ms) t).storage) → alignment_in (row (least_for rule) c (decoded ts ms) t).storage ≡ required_align_of type storage)
      storage_placed =
          let p = arena_parts c ts ms accepted in
          let s = host_shareable_placed.1 set in
          let a = agrees c (decoded ts ms) (type_count ts) p.0 p.1 type s.0 s.1 storage t h is in
          rw (older_storage rule c ts ms t) ((a.passes, a.holds), a.align)

      -- where the storage verdict is Ok and no stride is below its element's size, the row's size is at least SizeOf of the type without attributes
      pub size_placed : StridesCover type → T (is_ok (row (least_for rule) c (decoded ts ms) t).storage) → sizeOfType (bare type) ≤ (row (least_for rule) c (decoded ts ms) t).size
      size_placed covers ok =
          let p = arena_parts c ts ms accepted in
          let s = host_shareable_placed.1 set in
          rw layout_placed.0
          (least_size type (storage_placed.0.1 ok) s.1 covers (reaches c (decoded ts ms) (type_count ts) p.0 p.1 type s.0 t h is))

  -- ---- by the older: where HOST_SHAREABLE is set, the uniform verdict is Ok exactly where the uniform constraints hold, and its alignment is then RequiredAlignOf
  pub uniform_placed : T (bit (row (least_for Older) c (decoded ts ms) t).flags host_shareable_bit)
      → (Constraints type uniform ↔ T (is_ok (row (least_for Older) c (decoded ts ms) t).uniform))
      × (T (is_ok (row (least_for Older) c (decoded ts ms) t).uniform) → alignment_in (row (least_for Older) c (decoded ts ms) t).uniform ≡ required_align_of type uniform)
  uniform_placed set =
      let p = arena_parts c ts ms accepted in
      let s = (host_shareable_placed Older).1 set in
      let a = agrees c (decoded ts ms) (type_count ts) p.0 p.1 type s.0 s.1 uniform t h is in
      ((a.passes, a.holds), a.align)
