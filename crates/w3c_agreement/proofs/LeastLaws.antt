-- The standard's own placement is the least: of all placements that fit storage, whose members are apart, whose strides cover the elements and
-- whose spans reach the last member, none takes fewer bytes than SizeOf, and no member stands before its OffsetOfMember.
-- Assumes nothing.
use mathlib.Core.Path.{◌≡◌, refl, ◌∙◌}
use mathlib.Core.Logic.{◌⊎◌, inl, inr}
use Prim.Native.Nat.{ℕ, zero, suc, ◌+◌, ◌-◌, ◌≤◌, ◌<◌, ◌∣◌}
use native.Mathlib.Nat.{mul-le-mul_left, dvd-sub, le_of_dvd}
use native.Mathlib.Decide.{ℕ_discrete}
use native.Mathlib.Omega.{arith}
use Rattle.proc_alignment.proofs.PowerLaws.{le_cases}
use Rattle.proc_alignment.specs.Alignment.{round_up}
use Rattle.w3c_agreement.specs.Wgsl.{last_member, align_of, align_of_member, size_of, size_of_member, offset_by, offset_of_member}
use Rattle.w3c_agreement.specs.Placed as placed
use Rattle.w3c_agreement.specs.Placed.{Placed, plain, array, runtime_array, struct, PlacedMembers, last, member, storage, Apart, AllApart, MembersApart, Constraints, AllConstraints}
use Rattle.w3c_agreement.specs.Written.{StridesCover, AllStridesCover, SpansReach, AllSpansReach, bare, bare_members}
use Rattle.proc_alignment.proofs.RoundLaws.{round_up_multiple, round_up_next}
use Rattle.w3c_agreement.proofs.PlainLaws.{largest_same}
use Rattle.w3c_agreement.proofs.PlacedLaws as laws

-- the next multiple is the least
pub next_least : (k n m : ℕ) → 1 ≤ k → k ∣ m → n ≤ m → round_up k n ≤ m
next_least k n m positive d h = go (le_cases (round_up k n) m)
  where
    go : (round_up k n ≤ m) ⊎ (m ≤ round_up k n) → round_up k n ≤ m
    go (inl l) = l
    go (inr l) = apart (ℕ_discrete m (round_up k n))
      where
        apart : Dec (m ≡ round_up k n) → round_up k n ≤ m
        apart (yes e) = omega arith
        apart (no e) =
            let step = le_of_dvd {m = k} {n = round_up k n - m} (omega arith) (dvd-sub k (round_up_multiple k n positive) d) in
            omega (arith, round_up_next k n positive)

-- ---- members by their number
-- there are as many
last_same : (members : PlacedMembers) → last_member (bare_members members) ≡ placed.last_member members
unfolding bare last_member placed.last_member
last_same (last type offset) = refl
last_same (member type offset rest) = rw (last_same rest) refl

-- SizeOfMember is SizeOf of the member's type
size_member : (members : PlacedMembers) (i : ℕ) → size_of_member (bare_members members) i ≡ size_of (bare (placed.type_of_member members i))
unfolding bare size_of placed.type_of_member
size_member (last type offset) i = refl
size_member (member type offset rest) zero = refl
size_member (member type offset rest) (suc i) = size_member rest i

mutual
  unfolding bare align_of placed.align_of

  -- AlignOf is that of the placement
  pub bare_align : (type : Placed) → align_of (bare type) ≡ placed.align_of type
  bare_align (plain p) = refl
  bare_align (array element count stride) = bare_align element
  bare_align (runtime_array element stride) = bare_align element
  bare_align (struct members span) =
      rw (last_same members)
      (largest_same (align_of_member (bare_members members)) (placed.align_of_member members) (λ i. bare_align_member members i) (placed.last_member members))

  -- so it is of members
  bare_align_member : (members : PlacedMembers) (i : ℕ) → align_of_member (bare_members members) i ≡ placed.align_of_member members i
  bare_align_member (last type offset) i = bare_align type
  bare_align_member (member type offset rest) zero = bare_align type
  bare_align_member (member type offset rest) (suc i) = bare_align_member rest i

-- AlignOf is positive
bare_positive : (type : Placed) → 1 ≤ align_of (bare type)
bare_positive type = rw (bare_align type) (laws.align_positive type)

-- AlignOfMember is AlignOf of the member's type in the placement
align_member : (members : PlacedMembers) (i : ℕ) → align_of_member (bare_members members) i ≡ placed.align_of (placed.type_of_member members i)
align_member members i = bare_align_member members i ∙ laws.member_align members i

-- ---- offsets
-- no member stands before its OffsetOfMember, where no member takes fewer bytes than SizeOf
least_offset : (members : PlacedMembers) → MembersApart members → placed.OffsetsFit members storage
    → ((i : ℕ) → size_of (bare (placed.type_of_member members i)) ≤ placed.size_of (placed.type_of_member members i))
    → (i : ℕ) → i < placed.member_total members → offset_of_member (bare_members members) i ≤ placed.offset_of_member members i
unfolding offset_by placed.required_align_of
least_offset members apart fits sizes zero h = omega arith
least_offset members apart fits sizes (suc i) h =
    let before = least_offset members apart fits sizes i (omega arith) in
    let size = sizes i in
    rw (align_member members (suc i), size_member members i)
    (next_least (placed.align_of (placed.type_of_member members (suc i))) (offset_of_member (bare_members members) i + size_of (bare (placed.type_of_member members i)))
    (placed.offset_of_member members (suc i)) (laws.align_positive (placed.type_of_member members (suc i))) (fits (suc i) h) (omega (arith, apart i h)))

-- ---- sizes
-- a stride that covers its element is at least StrideOf
least_stride : (element : Placed) (stride : ℕ) → placed.align_of element ∣ stride → placed.size_of element ≤ stride → size_of (bare element) ≤ placed.size_of element
    → round_up (align_of (bare element)) (size_of (bare element)) ≤ stride
least_stride element stride d covers size =
    next_least (align_of (bare element)) (size_of (bare element)) stride (bare_positive element) (rw (bare_align element) d) (omega arith)

mutual
  unfolding Constraints placed.required_align_of Apart StridesCover SpansReach bare size_of placed.type_of_member

  -- no such placement takes fewer bytes than SizeOf
  pub least_size : (type : Placed) → Constraints type storage → Apart type → StridesCover type → SpansReach type → size_of (bare type) ≤ placed.size_of type
  least_size (plain p) fits apart covers reaches = omega arith
  least_size (array element count stride) fits apart covers reaches =
      mul-le-mul_left count (least_stride element stride fits.0 covers.0 (least_size element fits.1 apart covers.1 reaches))
  least_size (runtime_array element stride) fits apart covers reaches =
      mul-le-mul_left 1 (least_stride element stride fits.0 covers.0 (least_size element fits.1 apart covers.1 reaches))
  least_size (struct members span) fits apart covers reaches =
      let sizes : (i : ℕ) → size_of (bare (placed.type_of_member members i)) ≤ placed.size_of (placed.type_of_member members i) =
      λ i. least_each members fits.2 apart.1 covers reaches.1 i in
      let final = placed.last_member members in
      let offset = least_offset members apart.0 fits.1 sizes final (omega arith) in
      let size = sizes final in
      rw (last_same members, size_member members final)
      (next_least (align_of (bare (struct members span))) (offset_of_member (bare_members members) final + size_of (bare (placed.type_of_member members final))) span
      (bare_positive (struct members span)) (rw (bare_align (struct members span)) fits.0) (omega (arith, reaches.0)))

  -- and so it is for each member
  least_each : (members : PlacedMembers) → AllConstraints members storage → AllApart members → AllStridesCover members → AllSpansReach members
      → (i : ℕ) → size_of (bare (placed.type_of_member members i)) ≤ placed.size_of (placed.type_of_member members i)
  least_each (last type offset) fits apart covers reaches i = least_size type fits apart covers reaches
  least_each (member type offset rest) fits apart covers reaches zero = least_size type fits.0 apart.0 covers.0 reaches.0
  least_each (member type offset rest) fits apart covers reaches (suc i) = least_each rest fits.1 apart.1 covers.1 reaches.1 i
