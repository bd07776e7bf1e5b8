-- Every placement that fits storage is WGSL's: where its members are apart, its spans reach the last member and it is as `Standard` asks, it is the standard's own placement of a well-formed type with @size on its members.
-- Assumes nothing.
use mathlib.Core.Path.{◌≡◌, refl, sym, ◌∙◌, ap}
use Prim.Native.Nat.{ℕ, zero, suc, ◌+◌, ◌-◌, ◌≤◌, ◌<◌, ◌∣◌}
use native.Mathlib.Nat.{le_antisymm}
use native.Mathlib.Omega.{arith}
use Rattle.proc_alignment.specs.Alignment.{round_up}
use Rattle.w3c_agreement.specs.Wgsl.{last_member, given_or, align_of, align_of_member, size_of, size_of_member, stride_of, offset_by, offset_of_member, FixedSize, SizeFits, WellFormed, AllWellFormed}
use Rattle.w3c_agreement.specs.Placed as placed
use Rattle.w3c_agreement.specs.Placed.{Placed, plain, array, runtime_array, struct, PlacedMembers, last, member, storage, Apart, AllApart, MembersApart, Constraints, AllConstraints}
use Rattle.w3c_agreement.specs.Placement.{placement, place_at}
use Rattle.w3c_agreement.specs.Written.{SpansReach, AllSpansReach, TailSpan, Standard, AllStandard, size_up_to, written, written_members}
use Rattle.proc_alignment.proofs.RoundLaws.{round_up_next}
use Rattle.w3c_agreement.proofs.PlainLaws.{largest_same}
use Rattle.w3c_agreement.proofs.PlacedLaws as laws
use Rattle.w3c_agreement.proofs.LeastLaws.{next_least}
use Rattle.w3c_agreement.proofs.PlacementLaws.{size_same}

-- a multiple is rounded to itself
round_exact : (k n : ℕ) → 1 ≤ k → k ∣ n → round_up k n ≡ n
round_exact k n positive d = le_antisymm (next_least k n n positive d (omega arith)) (round_up_next k n positive).0

-- ---- members by their number
-- there are as many
last_same : (members : PlacedMembers) (span : ℕ) → last_member (written_members members span) ≡ placed.last_member members
unfolding written last_member placed.last_member
last_same (last type offset) span = refl
last_same (member type offset rest) span = rw (last_same rest span) refl

mutual
  unfolding written align_of placed.align_of

  -- AlignOf is that of the placement
  written_align : (type : Placed) → align_of (written type) ≡ placed.align_of type
  written_align (plain p) = refl
  written_align (array element count stride) = written_align element
  written_align (runtime_array element stride) = written_align element
  written_align (struct members span) =
      rw (last_same members span)
      (largest_same (align_of_member (written_members members span)) (placed.align_of_member members) (λ i. written_align_member members span i) (placed.last_member members))

  -- so it is of members
  written_align_member : (members : PlacedMembers) (span i : ℕ) → align_of_member (written_members members span) i ≡ placed.align_of_member members i
  written_align_member (last type offset) span i = written_align type
  written_align_member (member type offset rest) span zero = written_align type
  written_align_member (member type offset rest) span (suc i) = written_align_member rest span i

-- SizeOfMember reaches to the next member
size_between : (members : PlacedMembers) (span i : ℕ) → suc i < placed.member_total members
    → size_of_member (written_members members span) i ≡ placed.offset_of_member members (suc i) - placed.offset_of_member members i
unfolding written size_of placed.offset_of_member placed.last_member
size_between (last type offset) span i h = absurd (omega arith)
size_between (member type offset rest) span zero h = refl
size_between (member type offset rest) span (suc i) h = size_between rest span i (omega arith)

-- and that of the last member to the end of the span, but for a runtime-sized one
size_final : (members : PlacedMembers) (span : ℕ)
    → size_of_member (written_members members span) (placed.last_member members)
    ≡ given_or (size_up_to (placed.type_of_member members (placed.last_member members)) (span - placed.offset_of_member members (placed.last_member members)))
    (size_of (written (placed.type_of_member members (placed.last_member members))))
unfolding written size_of placed.type_of_member placed.offset_of_member placed.last_member
size_final (last type offset) span = refl
size_final (member type offset rest) span = size_final rest span

-- ---- offsets
-- OffsetOfMember is where the member stands
offset-written : (members : PlacedMembers) (span : ℕ) → placed.offset_of_member members 0 ≡ 0 → MembersApart members → placed.OffsetsFit members storage
    → (i : ℕ) → i < placed.member_total members → offset_of_member (written_members members span) i ≡ placed.offset_of_member members i
unfolding offset_by placed.required_align_of
offset-written members span first apart fits zero h = sym first
offset-written members span first apart fits (suc i) h =
    let before = offset-written members span first apart fits i (omega arith) in
    let next = apart i h in
    let sum : placed.offset_of_member members i + (placed.offset_of_member members (suc i) - placed.offset_of_member members i) ≡ placed.offset_of_member members (suc i) = omega arith in
    rw (before, size_between members span i h, sum, written_align_member members span (suc i), laws.member_align members (suc i))
    (round_exact (placed.align_of (placed.type_of_member members (suc i))) (placed.offset_of_member members (suc i)) (laws.align_positive (placed.type_of_member members (suc i))) (fits (suc i) h))

-- up to the end of the span there are no bytes to round, and after a runtime-sized member the span is what rounding gives
end_span : (type : Placed) (align offset span own : ℕ) → 1 ≤ align → align ∣ span → offset ≤ span → TailSpan type align (offset + placed.size_of type) span
    → own ≡ placed.size_of type → round_up align (offset + given_or (size_up_to type (span - offset)) own) ≡ span
end_span (plain p) align offset span own positive d h tail e =
    let sum : offset + (span - offset) ≡ span = omega arith in rw sum (round_exact align span positive d)
end_span (array element count stride) align offset span own positive d h tail e =
    let sum : offset + (span - offset) ≡ span = omega arith in rw sum (round_exact align span positive d)
end_span (runtime_array element stride) align offset span own positive d h tail e = rw e (sym tail)
end_span (struct members inner) align offset span own positive d h tail e =
    let sum : offset + (span - offset) ≡ span = omega arith in rw sum (round_exact align span positive d)

-- SizeOf is the span
span_written : (members : PlacedMembers) (span : ℕ) → placed.offset_of_member members 0 ≡ 0 → MembersApart members → placed.OffsetsFit members storage
    → placed.offset_of_member members (placed.last_member members) ≤ span → placed.align_of (struct members span) ∣ span
    → TailSpan (placed.type_of_member members (placed.last_member members)) (placed.align_of (struct members span))
    (placed.offset_of_member members (placed.last_member members) + placed.size_of (placed.type_of_member members (placed.last_member members))) span
    → size_of (written (placed.type_of_member members (placed.last_member members))) ≡ placed.size_of (placed.type_of_member members (placed.last_member members))
    → size_of (written (struct members span)) ≡ span
unfolding written size_of
span_written members span first apart fits reach d tail own =
    let final = placed.last_member members in
    rw (last_same members span, offset-written members span first apart fits final (omega arith), size_final members span, written_align (struct members span))
    (end_span (placed.type_of_member members final) (placed.align_of (struct members span)) (placed.offset_of_member members final) span
    (size_of (written (placed.type_of_member members final))) (laws.align_positive (struct members span)) d reach tail own)

-- ---- the placement
-- SizeOf, by the placement
size_written : (type : Placed) → placement (written type) ≡ type → size_of (written type) ≡ placed.size_of type
size_written type e = sym (size_same (written type)) ∙ ap (λ (x : Placed). placed.size_of x) e

-- StrideOf, by the placement of the element
stride_written : (element : Placed) → placement (written element) ≡ element → stride_of (written element) ≡ round_up (placed.align_of element) (placed.size_of element)
stride_written element e = rw (size_written element e, written_align element) refl

mutual
  unfolding Constraints placed.required_align_of Apart SpansReach Standard written placement placed.type_of_member placed.offset_of_member placed.last_member

  -- the standard places the written type so
  pub placement_written : (type : Placed) → Constraints type storage → Apart type → SpansReach type → Standard type → placement (written type) ≡ type
  placement_written (plain p) fits apart reaches standard = refl
  placement_written (array element count stride) fits apart reaches standard =
      let e = placement_written element fits.1 apart reaches standard.1 in
      rw (stride_written element e, e, ← standard.0) refl
  placement_written (runtime_array element stride) fits apart reaches standard =
      let e = placement_written element fits.1 apart reaches standard.1 in
      rw (stride_written element e, e, ← standard.0) refl
  placement_written (struct members span) fits apart reaches standard =
      rw (
        span_written members span standard.0 apart.0 fits.1 (omega (arith, reaches.0)) fits.0 standard.1
            (size_last members fits.2 apart.1 reaches.1 standard.2),
        members_written members span (offset_of_member (written_members members span)) fits.2 apart.1 reaches.1 standard.2
            (λ i h. offset-written members span standard.0 apart.0 fits.1 i h),
      )
      refl

  -- SizeOf of the last member's type
  size_last : (members : PlacedMembers) → AllConstraints members storage → AllApart members → AllSpansReach members → AllStandard members
      → size_of (written (placed.type_of_member members (placed.last_member members))) ≡ placed.size_of (placed.type_of_member members (placed.last_member members))
  size_last (last type offset) fits apart reaches standard = size_written type (placement_written type fits apart reaches standard)
  size_last (member type offset rest) fits apart reaches standard = size_last rest fits.1 apart.1 reaches.1 standard.2

  -- and the members, at offsets that are those of the placement
  members_written : (members : PlacedMembers) (span : ℕ) (offset : ℕ → ℕ) → AllConstraints members storage → AllApart members → AllSpansReach members
      → AllStandard members → ((i : ℕ) → i < placed.member_total members → offset i ≡ placed.offset_of_member members i) → place_at (written_members members span) offset ≡ members
  members_written (last type at) span offset fits apart reaches standard each =
      rw (placement_written type fits apart reaches standard, each 0 (omega arith)) refl
  members_written (member type at rest) span offset fits apart reaches standard each =
      rw (
        placement_written type fits.0 apart.0 reaches.0 standard.1,
        each 0 (omega arith),
        members_written rest span (λ i. offset (suc i)) fits.1 apart.1 reaches.1 standard.2 (λ i h. each (suc i) (omega arith)),
      )
      refl

-- ---- the written type is well-formed
-- it is a runtime-sized array just where the placed one is
fixed_written : (type : Placed) → placed.FixedSize type → FixedSize (written type)
unfolding written
fixed_written (plain p) f = tt
fixed_written (array element count stride) f = tt
fixed_written (runtime_array element stride) f = absurd f
fixed_written (struct members span) f = tt

-- @size(k) up to the end of the span fits
up_to_fits : (type : Placed) (k : ℕ) → size_of (written type) ≤ k → SizeFits (size_up_to type k) (written type)
unfolding written
up_to_fits (plain p) k h = (h, tt)
up_to_fits (array element count stride) k h = (h, tt)
up_to_fits (runtime_array element stride) k h = tt
up_to_fits (struct members span) k h = (h, tt)

mutual
  unfolding Constraints Apart SpansReach Standard written WellFormed placed.type_of_member placed.offset_of_member placed.last_member

  -- each @size(k) is at least SizeOf
  pub formed_written : (type : Placed) → Constraints type storage → Apart type → SpansReach type → Standard type → WellFormed (written type)
  formed_written (plain p) fits apart reaches standard = tt
  formed_written (array element count stride) fits apart reaches standard = formed_written element fits.1 apart reaches standard.1
  formed_written (runtime_array element stride) fits apart reaches standard = formed_written element fits.1 apart reaches standard.1
  formed_written (struct members span) fits apart reaches standard =
      formed_members members span fits.2 apart.1 reaches.1 standard.2 apart.0 reaches.0

  -- of all members
  formed_members : (members : PlacedMembers) (span : ℕ) → AllConstraints members storage → AllApart members → AllSpansReach members → AllStandard members
      → MembersApart members
      → placed.offset_of_member members (placed.last_member members) + placed.size_of (placed.type_of_member members (placed.last_member members)) ≤ span
      → AllWellFormed (written_members members span)
  formed_members (last type offset) span fits apart reaches standard next end =
      let size = size_written type (placement_written type fits apart reaches standard) in
      (tt, up_to_fits type (span - offset) (omega arith), formed_written type fits apart reaches standard)
  formed_members (member type offset rest) span fits apart reaches standard next end = (
    tt,
    (omega (arith, next 0 (omega arith), size_written type (placement_written type fits.0 apart.0 reaches.0 standard.1)), fixed_written type standard.0),
    formed_written type fits.0 apart.0 reaches.0 standard.1,
    formed_members rest span fits.1 apart.1 reaches.1 standard.2 (λ i h. next (suc i) (omega arith)) end,
  )
