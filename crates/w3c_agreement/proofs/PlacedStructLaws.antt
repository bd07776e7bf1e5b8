-- One step of the induction on a placed type: what the layouts and the rows of an accepted arena say of a plain type, an array and a struct,
-- from what they say of the types that it contains.
-- Assumes nothing.
use mathlib.Core.Path.{◌≡◌, refl, sym, ◌∙◌, ap}
use mathlib.Core.Bool.{Bool, true, false, ◌&&◌}
use mathlib.Core.Logic.{◌↔◌}
use mathlib.Core.List.{List}
use Prim.Native.Nat.{ℕ, zero, suc, ◌+◌, ◌≤◌, ◌<◌, ◌∣◌, max}
use native.Mathlib.Nat.{not-suc-le-zero}
use native.Mathlib.Decide.{ℕ_discrete}
use native.Mathlib.Omega.{arith}
use lib.Dec.{T, eqb}
use Rattle.ir_records.specs.Result.{Result, ok, and_then}
use Rattle.ir_records.specs.Record.{Decoded, member_type, member_offset, matrix_kind, atomic_kind}
use Rattle.ir_records.specs.Table.{table, first_refusal}
use Rattle.ir_records.specs.Outcome.{Accepted}
use Rattle.ir_records.specs.declared.TypeInner.{TypeInner}
use Rattle.ir_records.specs.declared.TypeInner.TheVariants.{Plain as PlainRecord, Struct}
use Rattle.ir_records.proofs.ResultLaws.{and_then_ok, ok_inj, and_left, and_right}
use Rattle.proc_type_alignment.specs.TypeAlignment.{members_alignment}
use Rattle.proc_layouter.specs.Layouter.{no_layout, layout_step, layout_at, layout}
use Rattle.proc_layouter.proofs.LayoutAccepted.{plain_layout, array_layout, runtime_array_layout, struct_layout, member_layout}
use Rattle.valid_flags.specs.Flags.{bit, data_bit, sized_bit, host_shareable_bit, creation_resolved_bit, starting_flags, scalar_flags, is_sized_data}
use Rattle.valid_flags.proofs.BitLaws.{bit-and, bit_and_both}
use Rattle.valid_width.specs.Width.{check_width, atomic_width}
use Rattle.valid_type_flags.specs.TypeFlags.{leaf_flags}
use Rattle.valid_type_info.specs.declared.Verdict.{Verdict}
use Rattle.valid_type_info.specs.declared.Row.{Row}
use Rattle.valid_type_info.specs.Verdict.{min_uniform, array_verdict, previous_of}
use Rattle.valid_member_bounds.specs.MemberBounds.{is_array}
use Rattle.valid_arena.specs.Arena.{judged_at, row}
use Rattle.w3c_agreement.specs.Plain.{Scalar, bool, integer, i32, u32, float, Plain, scalar, vector, matrix, atomic, Numeric, NumericPlain, kind_of, width_of, leaf_of}
use Rattle.w3c_agreement.specs.Wgsl.{max_over}
use Rattle.w3c_agreement.specs.Placed.{Space, Placed, plain, array, runtime_array, struct, PlacedMembers, last, member, last_member, member_total, type_of_member, offset_of_member, align_of, align_of_member, size_of, HostShareable, AllHostShareable, MembersApart, Apart, required_align_of, StrideFits, FixedSize, Constraints, IsPlaced, IsMember}
use Rattle.w3c_agreement.proofs.PlainLaws.{plain_size, plain_align, plain_verdict, least_in}
use Rattle.w3c_agreement.proofs.VerdictLaws.{Judged, judged_same, judged_array, judged_span, DistanceKept}
use Rattle.w3c_agreement.proofs.BoundsLaws.{SizedOrLast, end_before, sized_each, within_each, shareable_each, shareable_all, apart_each}
use Rattle.w3c_agreement.proofs.RowLaws.{verdict_in, after_in, inner_in, rows_until, row_layout, leaf-flags, leaf_verdict, earlier_row, array-flags, runtime-array-flags, array-verdict, runtime_array_verdict, struct_bounds, struct_verdict}
use Rattle.w3c_agreement.proofs.PlacedLaws.{member_is, member_shareable, shareable_members, member_apart, apart_members, offsets_grow, align_positive, required_array, required_runtime_array, required_plain, required_least, stride_fits, NextDistance, MemberFits, struct_fits}
use Rattle.w3c_agreement.proofs.PlacedMemberLaws.{Known, distance_same, members_judged}

-- ---- members are earlier types
-- each of the first j members of an accepted struct has an earlier type
pub members_earlier : (types : ℕ → Decoded) (t : ℕ) (members : List ℕ) (j a : ℕ) → members_alignment (table no_layout (layout_step types) t) t members j ≡ ok a
    → (i : ℕ) → i < j → member_type members i < t
members_earlier types t members zero a e i h = absurd (not-suc-le-zero h)
members_earlier types t members (suc j) a e i h =
    let m = member_layout types t members j a e in
    go (members_earlier types t members j m.0 m.1) m.2 (ℕ_discrete i j)
  where
    go : ((k : ℕ) → k < j → member_type members k < t) → member_type members j < t → Dec (i ≡ j) → member_type members i < t
    go ih this (yes q) = rw q this
    go ih this (no q) = ih i (omega arith)

-- ---- flags of leaves
-- a value that is made after a check is that value
checked_value : (check : Result (Unit {0})) (value flags : ℕ) → and_then check (λ u. ok value) ≡ ok flags → flags ≡ value
checked_value check value flags e = let s = and_then_ok check (λ u. ok value) flags e in sym (ok_inj s.2)

-- the starting flags of scalars and vectors have HOST_SHAREABLE, and keep it, exactly for the numeric ones
numeric_marked : (s : Scalar) → Numeric s ↔ T (bit (scalar_flags (kind_of s) 255) host_shareable_bit)
numeric_marked bool = (λ n. n, λ t. t)
numeric_marked (integer i32) = (λ n. tt, λ t. tt)
numeric_marked (integer u32) = (λ n. tt, λ t. tt)
numeric_marked (float f) = (λ n. tt, λ t. tt)

-- ---- sized members
-- what is no array is sized
sized_alone : (sized final : Bool) → SizedOrLast sized false final → T sized
sized_alone true final s = tt
sized_alone false final s = s

-- the base of an array is sized
base_sized : (flags : ℕ) → T (is_sized_data flags) → T (bit flags sized_bit)
base_sized flags b =
    and_right (bit flags data_bit) (bit flags sized_bit) (and_left (bit flags data_bit && bit flags sized_bit) (bit flags creation_resolved_bit) b)

-- ---- layouts of structs
-- the largest alignment of the first j + 1 members, where f says what the layouts of their types have
members_largest : (types : ℕ → Decoded) (t : ℕ) (members : List ℕ) (f : ℕ → ℕ) (j a : ℕ)
    → ((i : ℕ) → i ≤ j → member_type members i < t → (layout types (member_type members i)).alignment ≡ f i)
    → members_alignment (table no_layout (layout_step types) t) t members (suc j) ≡ ok a → a ≡ max 1 (max_over f j)
unfolding max_over members_alignment
members_largest types t members f zero a each e =
    let m = member_layout types t members zero a e in
    let l = each zero (omega arith) m.2 in
    let s = ok_inj m.1 in
    omega (arith, m.3, l, s)
members_largest types t members f (suc j) a each e =
    let m = member_layout types t members (suc j) a e in
    let l = each (suc j) (omega arith) m.2 in
    let s = members_largest types t members f j m.0 (λ i h k. each i (omega arith) k) m.1 in
    omega (arith, m.3, l, s)

-- ---- verdicts of arrays
-- the alignment in an array's verdict
array_largest : (element : Placed) (space : Space)
    → max (max (required_align_of element space) (align_of element)) (least_in space) ≡ max (align_of element) (least_in space)
array_largest element space = omega (arith, required_least element space)

-- the verdict of an array, where that of its element is Ok exactly where the element's constraints hold
stride_agrees : (element : Placed) (space : Space) (t stride alignment : ℕ) (v : Verdict) → alignment ≡ align_of element
    → Judged (Constraints element space) (required_align_of element space) v
    → Judged (StrideFits element stride space × Constraints element space) (max (align_of element) (least_in space)) (array_verdict (least_in space) t stride alignment v)
stride_agrees element space t stride alignment v aligned agrees =
    let largest = array_largest element space in
    let fits = stride_fits element stride space in
    rw aligned
    (judged_same (Constraints element space × (max (max (required_align_of element space) (align_of element)) (least_in space) ∣ stride))
    (StrideFits element stride space × Constraints element space)
    (max (max (required_align_of element space) (align_of element)) (least_in space)) (max (align_of element) (least_in space))
    (array_verdict (least_in space) t stride (align_of element) v)
    (λ p. (fits.1 (rw largest at p.1), p.0), λ p. (p.1, rw largest (fits.0 p.0))) largest
    (judged_array (Constraints element space) (least_in space) t stride (align_of element) (required_align_of element space) v agrees))

-- ---- what is to be proved
-- HOST_SHAREABLE is set in the row of type t
abbrev pub Marked : (c : ℕ) (types : ℕ → Decoded) → ℕ → Type 0
Marked c types t = T (bit (row min_uniform c types t).flags host_shareable_bit)

-- host-shareable, and in each struct the members are in order and apart
abbrev pub Shareable : Placed → Type 0
Shareable type = HostShareable type × Apart type

-- the verdict of type t in a space is Ok exactly where the constraints hold of the placement, and has then RequiredAlignOf
abbrev pub Agrees : (c : ℕ) (types : ℕ → Decoded) → Placed → Space → ℕ → Type 0
Agrees c types type space t = Judged (Constraints type space) (required_align_of type space) (verdict_in (row min_uniform c types t) space)

-- ---- layouts
module _ (types : ℕ → Decoded) (n : ℕ) (laid : first_refusal (layout_at types) n ≡ Accepted) where
  mutual
    unfolding HostShareable IsPlaced align_of

    -- where the first n types of an arena are accepted and record t, one of them, is a host-shareable placed type, its layout is SizeOf and AlignOf
    pub placed_layout : (type : Placed) → HostShareable type → (t : ℕ) → t < n → IsPlaced type types t
        → ((layout types t).size ≡ size_of type) × ((layout types t).alignment ≡ align_of type)
    placed_layout (plain p) shareable t h is =
        let l = plain_layout types n laid t h (leaf_of p) is in
        (l.0 ∙ plain_size p shareable, l.1 ∙ plain_align p shareable)
    placed_layout (array element count stride) shareable t h is =
        let l = array_layout types n laid t h is.0 count stride is.1 in
        (l.0, l.2 ∙ (placed_layout element shareable is.0 (omega (arith, l.1)) is.2).1)
    placed_layout (runtime_array element stride) shareable t h is =
        let l = runtime_array_layout types n laid t h is.0 stride is.1 in
        (omega (arith, l.0), l.2 ∙ (placed_layout element shareable is.0 (omega (arith, l.1)) is.2).1)
    placed_layout (struct members span) shareable t h is =
        let l = struct_layout types n laid t h (member_total members) span is.0 in
        let largest = members_largest types t (types t).members (align_of_member members) (last_member members) (layout types t).alignment
        (λ i j k. placed_member members shareable i (member_type (types t).members i) (omega arith) (is.2 i (omega arith))) l.1 in
        (l.0, omega (arith, largest, align_positive (struct members span)))

    -- and so it is for the types of a struct's members
    placed_member : (members : PlacedMembers) → AllHostShareable members → (i t : ℕ) → t < n → IsMember members types i t
        → (layout types t).alignment ≡ align_of_member members i
    placed_member (last type offset) shareable i t h is = (placed_layout type shareable t h is).1
    placed_member (member type offset rest) shareable zero t h is = (placed_layout type shareable.0 t h is).1
    placed_member (member type offset rest) shareable (suc i) t h is = placed_member rest shareable.1 i t h is

module _ (c : ℕ) (types : ℕ → Decoded) (n : ℕ) (laid : first_refusal (layout_at types) n ≡ Accepted) (accepted : first_refusal (judged_at min_uniform c types) n ≡ Accepted) where
  module _ (t : ℕ) (h : t < n) where
    -- the alignment in the row of a host-shareable type is AlignOf
    row_align : (type : Placed) → HostShareable type → IsPlaced type types t → (row min_uniform c types t).alignment ≡ align_of type
    row_align type shareable is = (row_layout c types n accepted t h).1 ∙ (placed_layout types n laid type shareable t h is).1

    -- its size is SizeOf
    row_size : (type : Placed) → HostShareable type → IsPlaced type types t → (row min_uniform c types t).size ≡ size_of type
    row_size type shareable is = (row_layout c types n accepted t h).0 ∙ (placed_layout types n laid type shareable t h is).0

  module _ (t : ℕ) (h : t < n) where
    -- ---- plain types
    -- a plain type is marked exactly where it is numeric
    pub plain_marked : (p : Plain) → IsPlaced (plain p) types t → NumericPlain p ↔ Marked c types t
    unfolding IsPlaced leaf_flags
    plain_marked (scalar s) is =
        let e = leaf-flags c types n accepted t h (leaf_of (scalar s)) is in
        rw (checked_value (check_width c (kind_of s) (width_of s)) (scalar_flags (kind_of s) 255) (row min_uniform c types t).flags e) (numeric_marked s)
    plain_marked (vector d s) is =
        let e = leaf-flags c types n accepted t h (leaf_of (vector d s)) is in
        rw (checked_value (check_width c (kind_of s) (width_of s)) (scalar_flags (kind_of s) 255) (row min_uniform c types t).flags e) (numeric_marked s)
    plain_marked (matrix columns rows f) is =
        let e = leaf-flags c types n accepted t h (leaf_of (matrix columns rows f)) is in
        rw (checked_value (check_width c (kind_of (float f)) (width_of (float f))) (starting_flags matrix_kind) (row min_uniform c types t).flags e) (λ s. tt, λ m. tt)
    plain_marked (atomic i) is =
        let e = leaf-flags c types n accepted t h (leaf_of (atomic i)) is in
        rw (checked_value (atomic_width c (kind_of (integer i)) (width_of (integer i))) (starting_flags atomic_kind) (row min_uniform c types t).flags e) (λ s. tt, λ m. tt)

    -- both verdicts of a numeric plain type are Ok
    pub plain_agrees : (p : Plain) → NumericPlain p → IsPlaced (plain p) types t → (space : Space) → Agrees c types (plain p) space t
    unfolding IsPlaced Constraints
    plain_agrees p numeric is space =
        rw (leaf_verdict c types n accepted t h (leaf_of p) is space)
        (record { passes = λ u. tt; holds = λ ok. tt; align = λ ok. plain_verdict p numeric ∙ sym (required_plain p space) })

    -- ---- arrays
    -- an array is marked exactly where it is shareable, where that is so of its element
    pub array_marked : (element : Placed) (count stride : ℕ) → IsPlaced (array element count stride) types t
        → ((base : ℕ) → base < n → IsPlaced element types base → Shareable element ↔ Marked c types base) → Shareable (array element count stride) ↔ Marked c types t
    unfolding IsPlaced HostShareable Apart
    array_marked element count stride is marked =
        let earlier = (array_layout types n laid t h is.0 count stride is.1).1 in
        let f = array-flags c types n accepted t h is.0 count stride is.1 earlier in
        let base = (row min_uniform c types is.0).flags in
        let m = marked is.0 (omega arith) is.2 in
        rw f.1 (λ s. bit_and_both base 247 host_shareable_bit (m.0 s) tt, λ t. m.1 (bit-and base 247 host_shareable_bit t).0)

    -- so is a runtime-sized array
    pub runtime_array_marked : (element : Placed) (stride : ℕ) → IsPlaced (runtime_array element stride) types t
        → ((base : ℕ) → base < n → IsPlaced element types base → Shareable element ↔ Marked c types base) → Shareable (runtime_array element stride) ↔ Marked c types t
    unfolding IsPlaced HostShareable Apart
    runtime_array_marked element stride is marked =
        let earlier = (runtime_array_layout types n laid t h is.0 stride is.1).1 in
        let f = runtime-array-flags c types n accepted t h is.0 stride is.1 earlier in
        let base = (row min_uniform c types is.0).flags in
        let m = marked is.0 (omega arith) is.2 in
        rw f.1 (λ s. bit_and_both base 149 host_shareable_bit (m.0 s) tt, λ t. m.1 (bit-and base 149 host_shareable_bit t).0)

    -- an array agrees where its element does
    pub array_agrees : (element : Placed) (count stride : ℕ) → HostShareable element → (is : IsPlaced (array element count stride) types t) → (space : Space)
        → ((base : ℕ) → base < n → IsPlaced element types base → Agrees c types element space base) → Agrees c types (array element count stride) space t
    unfolding IsPlaced Constraints
    array_agrees element count stride shareable is space agrees =
        let earlier = (array_layout types n laid t h is.0 count stride is.1).1 in
        let below : is.0 < n = omega arith in
        rw (array-verdict c types n accepted t h is.0 count stride is.1 earlier space, required_array element count stride space)
        (stride_agrees element space t stride (row min_uniform c types is.0).alignment (verdict_in (row min_uniform c types is.0) space) (row_align is.0 below element shareable is.2)
        (agrees is.0 below is.2))

    -- so does a runtime-sized array
    pub runtime_array_agrees : (element : Placed) (stride : ℕ) → HostShareable element → (is : IsPlaced (runtime_array element stride) types t) → (space : Space)
        → ((base : ℕ) → base < n → IsPlaced element types base → Agrees c types element space base) → Agrees c types (runtime_array element stride) space t
    unfolding IsPlaced Constraints
    runtime_array_agrees element stride shareable is space agrees =
        let earlier = (runtime_array_layout types n laid t h is.0 stride is.1).1 in
        let below : is.0 < n = omega arith in
        rw (runtime_array_verdict c types n accepted t h is.0 stride is.1 earlier space, required_runtime_array element stride space)
        (stride_agrees element space t stride (row min_uniform c types is.0).alignment (verdict_in (row min_uniform c types is.0) space) (row_align is.0 below element shareable is.2)
        (agrees is.0 below is.2))

  -- ---- sized members
  module _ (t : ℕ) (h : t < n) where
    -- what is no array is sized where it is a member
    plain_sized : (inner : TypeInner) → (types t).inner ≡ inner → is_array inner ≡ false → (final : Bool)
        → SizedOrLast (bit (row min_uniform c types t).flags sized_bit) (is_array (types t).inner) final → T (bit (row min_uniform c types t).flags sized_bit) ↔ Unit {0}
    plain_sized inner e no-array final placed =
        (λ s. tt, λ u. sized_alone (bit (row min_uniform c types t).flags sized_bit) final (rw (e, no-array) at placed))

    -- a member is sized exactly where it is no runtime-sized array
    sized_same : (type : Placed) → IsPlaced type types t → (final : Bool)
        → SizedOrLast (bit (row min_uniform c types t).flags sized_bit) (is_array (types t).inner) final → T (bit (row min_uniform c types t).flags sized_bit) ↔ FixedSize type
    unfolding IsPlaced
    sized_same (plain p) is final placed = plain_sized (PlainRecord (leaf_of p)) is refl final placed
    sized_same (array element count stride) is final placed =
        let earlier = (array_layout types n laid t h is.0 count stride is.1).1 in
        let f = array-flags c types n accepted t h is.0 count stride is.1 earlier in
        let base = (row min_uniform c types is.0).flags in
        rw f.1 (λ s. tt, λ u. bit_and_both base 247 sized_bit (base_sized base f.0) tt)
    sized_same (runtime_array element stride) is final placed =
        let earlier = (runtime_array_layout types n laid t h is.0 stride is.1).1 in
        let f = runtime-array-flags c types n accepted t h is.0 stride is.1 earlier in
        rw f.1 (λ s. (bit-and (row min_uniform c types is.0).flags 149 sized_bit s).1, λ u. absurd u)
    sized_same (struct members span) is final placed = plain_sized (Struct (member_total members) span) is.0 refl final placed

  -- ---- structs
  module _ (t : ℕ) (h : t < n) (members : PlacedMembers) (span : ℕ) (is : IsPlaced (struct members span) types t) where
    -- the member rows
    abbrev part : List ℕ
    part = (types t).members

    -- the rows before type t
    abbrev rows_before : ℕ → Row
    rows_before = rows_until c types t

    -- what each record says
    abbrev inner_at : ℕ → TypeInner
    inner_at = inner_in types

    -- the type of member i
    abbrev type_at : ℕ → ℕ
    type_at i = member_type part i

    -- it is an earlier type
    pub member_earlier : (i : ℕ) → i < member_total members → type_at i < t
    unfolding IsPlaced
    member_earlier =
        members_earlier types t part (member_total members) (layout types t).alignment
        (struct_layout types n laid t h (member_total members) span is.0).1

    -- its row is the one that was read
    member-row : (i : ℕ) → i < member_total members → rows_before (type_at i) ≡ row min_uniform c types (type_at i)
    member-row i l = earlier_row c types n accepted t h (type_at i) (member_earlier i l)

    -- it is the type of member i of the tree
    member-type : (i : ℕ) → i < member_total members → IsPlaced (type_of_member members i) types (type_at i)
    unfolding IsPlaced
    member-type i l = member_is members types i (type_at i) (is.2 i l)

    -- and it stands at the offset of the tree
    member-offset : (i : ℕ) → i < member_total members → member_offset part i ≡ offset_of_member members i
    unfolding IsPlaced
    member-offset = is.1

    -- the size that was read of a host-shareable member is SizeOf
    member_size : (i : ℕ) → i < member_total members → HostShareable (type_of_member members i) → (rows_before (type_at i)).size ≡ size_of (type_of_member members i)
    member_size i l shareable =
        ap (λ (r : Row). r.size) (member-row i l)
        ∙ row_size (type_at i) (omega (arith, member_earlier i l)) (type_of_member members i) shareable (member-type i l)

    -- where members are apart none starts before the running end
    not_before_end : AllHostShareable members → MembersApart members → (i : ℕ) → i < member_total members
        → end_before rows_before part i ≤ member_offset part i
    not_before_end shareable apart zero l = omega arith
    not_before_end shareable apart (suc i) l =
        let below : i < member_total members = omega arith in
        let size = member_size i below (member_shareable members shareable i) in
        omega (arith, apart i l, member-offset i below, member-offset (suc i) l)

    -- and back
    apart_before_end : AllHostShareable members → ((i : ℕ) → i < member_total members → end_before rows_before part i ≤ member_offset part i) → MembersApart members
    apart_before_end shareable each i l =
        let below : i < member_total members = omega arith in
        let size = member_size i below (member_shareable members shareable i) in
        let this = each (suc i) l in
        omega (arith, member-offset i below, member-offset (suc i) l)

    -- a struct is marked exactly where it is shareable, where that is so of its members' types
    pub struct_marked : ((i : ℕ) → i < member_total members → Shareable (type_of_member members i) ↔ Marked c types (type_at i))
        → Shareable (struct members span) ↔ Marked c types t
    unfolding IsPlaced HostShareable Apart
    struct_marked marked =
        let count = member_total members in
        let b = struct_bounds c types n accepted t h count span is.0 in
        rw b.2 (
          λ s. shareable_all inner_at rows_before count span part count b.0 b.1
              (λ i l. (
                not_before_end s.0 s.1.0 i l,
                rw (member-row i l) ((marked i l).0 (member_shareable members s.0 i, member_apart members s.1.1 i)),
              )),
          λ m.
              let each : (i : ℕ) → i < count → Shareable (type_of_member members i) =
              λ i l. (marked i l).1 (rw (member-row i l) at (shareable_each inner_at rows_before count span part count b.0 b.1 m i l)) in
              let shareable = shareable_members members (λ i l. (each i l).0) in
              (shareable, (apart_before_end shareable (apart_each inner_at rows_before count span part count b.0 b.1 m), apart_members members (λ i l. (each i l).1))),
        )

    -- its span reaches to the end of the last member
    pub struct_reaches : AllHostShareable members → offset_of_member members (last_member members) + size_of (type_of_member members (last_member members)) ≤ span
    unfolding IsPlaced
    struct_reaches shareable =
        let final = last_member members in
        let below : final < member_total members = omega arith in
        let b = struct_bounds c types n accepted t h (member_total members) span is.0 in
        let within = within_each inner_at rows_before (member_total members) span part (member_total members) b.0 b.1 final below in
        let size = member_size final below (member_shareable members shareable final) in
        omega (arith, member-offset final below)

    -- the distance from the member right before is the standard's
    member_distance : MembersApart members → (i : ℕ) → i < member_total members
        → DistanceKept (member_offset part i) (previous_of inner_at part i) ↔ NextDistance members i
    unfolding previous_of
    member_distance apart zero l = (λ d. tt, λ d. tt)
    member_distance apart (suc i) l =
        let below : i < member_total members = omega arith in
        let grow : offset_of_member members i ≤ offset_of_member members (suc i) = offsets_grow members apart i (suc i) (omega arith) l in
        rw (member-offset i below, member-offset (suc i) l)
        (distance_same (type_of_member members i) types (type_at i) (member-type i below) (offset_of_member members i) (offset_of_member members (suc i)) grow)

    -- a member is sized exactly where it is no runtime-sized array
    member_sized : (i : ℕ) → i < member_total members → T (bit (rows_before (type_at i)).flags sized_bit) ↔ FixedSize (type_of_member members i)
    unfolding IsPlaced
    member_sized i l =
        let b = struct_bounds c types n accepted t h (member_total members) span is.0 in
        let sized = sized_each inner_at rows_before (member_total members) span part (member_total members) b.0 b.1 i l in
        let below : type_at i < n = omega (arith, member_earlier i l) in
        rw (member-row i l) (sized_same (type_at i) below (type_of_member members i) (member-type i l) (eqb (suc i) (member_total members)) (rw (member-row i l) at sized))

    -- a struct agrees where its members' types do
    pub struct_agrees : HostShareable (struct members span) → MembersApart members → ((i : ℕ) → i < member_total members → Marked c types (type_at i))
        → (space : Space) → ((i : ℕ) → i < member_total members → Agrees c types (type_of_member members i) space (type_at i)) → Agrees c types (struct members span) space t
    unfolding IsPlaced
    struct_agrees shareable apart marked space agrees =
        let count = member_total members in
        let fits = struct_fits members span space apart in
        let required = required_align_of (struct members span) space in
        let Each : Type 0 = (i : ℕ) → i < count → MemberFits members space i in
        let judged = judged_span Each t span (layout types t).alignment required (after_in inner_at rows_before t part count space)
        (members_judged inner_at rows_before t part members span space known) in
        rw (struct_verdict c types n accepted t h count span is.0 space)
        (judged_same (Each × ((layout types t).alignment ∣ span)) (Constraints (struct members span) space) required required _
        (rw (placed_layout types n laid (struct members span) shareable t h is).1 (fits.1, fits.0)) refl judged)
      where
        known : (i : ℕ) → i < member_total members → Known inner_at rows_before part members space i
        known i l =
            record {
              offset = member-offset i l;
              shareable = rw (member-row i l) (marked i l);
              judged = rw (member-row i l) (agrees i l);
              sized = member_sized i l;
              distance = member_distance apart i l;
            }
