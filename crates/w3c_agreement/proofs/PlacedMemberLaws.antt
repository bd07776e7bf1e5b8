-- The verdicts of a struct after its members, one by one, where the records are those of a placed type.
-- Assumes nothing.
use mathlib.Core.Path.{◌≡◌, refl, sym, ◌∙◌}
use mathlib.Core.Logic.{◌↔◌}
use mathlib.Core.List.{List}
use Prim.Native.Nat.{ℕ, zero, suc, ◌≤◌, ◌<◌, ◌∣◌, max}
use native.Mathlib.Nat.{not-suc-le-zero}
use native.Mathlib.Decide.{ℕ_discrete}
use native.Mathlib.Omega.{arith}
use lib.Dec.{T}
use Rattle.ir_records.specs.Record.{Decoded, member_type, member_offset}
use Rattle.ir_records.specs.declared.TypeInner.{TypeInner}
use Rattle.valid_flags.specs.Flags.{bit, sized_bit, host_shareable_bit}
use Rattle.valid_type_info.specs.declared.Row.{Row}
use Rattle.valid_type_info.specs.Verdict.{min_uniform, share_verdict, member_verdict, struct_at, previous_of}
use Rattle.valid_member_rules.specs.MemberRules.{uniform_after, storage_after}
use Rattle.w3c_agreement.specs.Wgsl.{max_over}
use Rattle.w3c_agreement.specs.Placed.{Space, storage, uniform, Placed, plain, array, runtime_array, struct, PlacedMembers, last_member, member_total, type_of_member, offset_of_member, align_of, align_of_member, required_align_of, StructDistance, FixedSize, Constraints, IsPlaced}
use Rattle.w3c_agreement.proofs.PlainLaws.{least_in}
use Rattle.w3c_agreement.proofs.PlacedLaws.{member_align, required_struct, required_least, NextDistance, MemberFits}
use Rattle.w3c_agreement.proofs.VerdictLaws.{Judged, judged_same, judged_share, judged_member, DistanceKept, judged_distance, judged_unsized}
use Rattle.w3c_agreement.proofs.RowLaws.{verdict_in, after_in}

-- ---- the distance rule
-- where record k is the type, the arena asks for the distance that the standard asks for
pub distance_same : (type : Placed) (types : ℕ → Decoded) (k : ℕ) → IsPlaced type types k → (start later : ℕ) → start ≤ later
    → DistanceKept later (struct_at (types k).inner start) ↔ StructDistance type start later
unfolding IsPlaced
distance_same (plain p) types k is start later h = rw is (λ d. tt, λ d. tt)
distance_same (array element count stride) types k is start later h = rw is.1 (λ d. tt, λ d. tt)
distance_same (runtime_array element stride) types k is start later h = rw is.1 (λ d. tt, λ d. tt)
distance_same (struct members span) types k is start later h =
    rw is.0 (λ d. omega arith, λ d. omega arith)

-- ---- the first j members
-- every number below j + 1 is below j, or is j
below_more : (P : ℕ → Type 0) (j : ℕ) → ((i : ℕ) → i < j → P i) → P j → (i : ℕ) → i < suc j → P i
below_more P j each this i h = go (ℕ_discrete i j)
  where
    go : Dec (i ≡ j) → P i
    go (yes e) = rw e this
    go (no e) = each i (omega arith)

-- the alignment after j members
abbrev align_after : PlacedMembers → Space → ℕ → ℕ
align_after members space zero = least_in space
align_after members space (suc j) = max (align_after members space j) (required_align_of (type_of_member members j) space)

-- the least of the space may be taken into the second of two numbers
least_apart : (m r l : ℕ) → max (max m l) r ≡ max m (max r l)
least_apart m r l = omega arith

-- and into both
least_joined : (m x l : ℕ) → max m (max x l) ≡ max (max m x) l
least_joined m x l = omega arith

-- it is the largest AlignOfMember, or the least of the space where that is larger
align-after : (members : PlacedMembers) (space : Space) (j : ℕ) → align_after members space (suc j) ≡ max (max_over (align_of_member members) j) (least_in space)
unfolding max_over
align-after members space zero = omega (arith, required_least (type_of_member members 0) space, member_align members 0)
align-after members space (suc j) =
    rw (
      align-after members space j,
      least_apart (max_over (align_of_member members) j) (required_align_of (type_of_member members (suc j)) space) (least_in space),
      required_least (type_of_member members (suc j)) space,
      ← member_align members (suc j),
    )
    (least_joined (max_over (align_of_member members) j) (align_of_member members (suc j)) (least_in space))

-- the first j members fit
abbrev pub FirstFit : PlacedMembers → Space → ℕ → Type 0
FirstFit members space j = (i : ℕ) → i < j → MemberFits members space i

-- the rows of the arena are those of member i of the tree
pub record Known (inner : ℕ → TypeInner) (rows : ℕ → Row) (part : List ℕ) (members : PlacedMembers) (space : Space) (i : ℕ) : Type 0 where
  pub offset : member_offset part i ≡ offset_of_member members i
  pub shareable : T (bit (rows (member_type part i)).flags host_shareable_bit)
  pub judged : Judged (Constraints (type_of_member members i) space) (required_align_of (type_of_member members i) space) (verdict_in (rows (member_type part i)) space)
  pub sized : T (bit (rows (member_type part i)).flags sized_bit) ↔ FixedSize (type_of_member members i)
  pub distance : DistanceKept (member_offset part i) (previous_of inner part i) ↔ NextDistance members i

module _ (inner : ℕ → TypeInner) (rows : ℕ → Row) (t : ℕ) (part : List ℕ) (members : PlacedMembers) (j : ℕ) where
  -- the type of member j in the tree
  abbrev type_of : Placed
  type_of = type_of_member members j

  -- the struct's verdict before member j
  abbrev VerdictBefore : Space → Type 0
  VerdictBefore space = Judged (FirstFit members space j) (align_after members space j) (after_in inner rows t part j space)

  -- the struct's verdict after the member's own verdict and offset are judged
  abbrev MemberJudged : Space → Type 0
  MemberJudged space =
      Judged (FirstFit members space j × (Constraints type_of space × (required_align_of type_of space ∣ member_offset part j))) (align_after members space (suc j))
      (member_verdict t j (member_offset part j)
      (share_verdict (bit (rows (member_type part j)).flags host_shareable_bit) (member_type part j) (after_in inner rows t part j space))
      (verdict_in (rows (member_type part j)) space))

  -- it is Ok exactly where the first j members fit, the member's constraints hold, and its offset is a multiple of RequiredAlignOf
  member_judged : (space : Space) → Known inner rows part members space j → VerdictBefore space → MemberJudged space
  member_judged space k so_far =
      judged_member (FirstFit members space j) (Constraints type_of space) t j (member_offset part j) (align_after members space j) (required_align_of type_of space)
      (share_verdict (bit (rows (member_type part j)).flags host_shareable_bit) (member_type part j) (after_in inner rows t part j space))
      (verdict_in (rows (member_type part j)) space)
      (judged_share (FirstFit members space j) (align_after members space j) (member_type part j) (bit (rows (member_type part j)).flags host_shareable_bit)
      (after_in inner rows t part j space) k.shareable so_far)
      k.judged

  -- one more member in storage
  storage_more : Known inner rows part members storage j → VerdictBefore storage
      → Judged (FirstFit members storage (suc j)) (align_after members storage (suc j)) (storage_after rows t part (suc j))
  unfolding storage_after
  storage_more k so_far =
      judged_same (FirstFit members storage j × (Constraints type_of storage × (required_align_of type_of storage ∣ member_offset part j)))
      (FirstFit members storage (suc j)) (align_after members storage (suc j)) (align_after members storage (suc j)) (storage_after rows t part (suc j))
      (to, from) refl (member_judged storage k so_far)
    where
      to : FirstFit members storage j × (Constraints type_of storage × (required_align_of type_of storage ∣ member_offset part j)) → FirstFit members storage (suc j)
      to p = below_more (MemberFits members storage) j p.0 (p.1.0, rw k.offset at p.1.1)

      from : FirstFit members storage (suc j) → FirstFit members storage j × (Constraints type_of storage × (required_align_of type_of storage ∣ member_offset part j))
      from each = let this = each j (omega arith) in (λ i h. each i (omega arith), (this.0, rw k.offset this.1))

  -- one more member in uniform
  uniform_more : Known inner rows part members uniform j → VerdictBefore uniform
      → Judged (FirstFit members uniform (suc j)) (align_after members uniform (suc j)) (uniform_after min_uniform inner rows t part (suc j))
  unfolding uniform_after
  uniform_more k so_far =
      judged_same Parts (FirstFit members uniform (suc j)) (align_after members uniform (suc j)) (align_after members uniform (suc j))
      (uniform_after min_uniform inner rows t part (suc j)) (to, from) refl
      (judged_unsized _ t j (align_after members uniform (suc j)) (bit (rows (member_type part j)).flags sized_bit) _
      (judged_distance _ t j (member_offset part j) (align_after members uniform (suc j)) (previous_of inner part j) _ (member_judged uniform k so_far)))
    where
      Parts : Type 0
      Parts =
          ((FirstFit members uniform j × (Constraints type_of uniform × (required_align_of type_of uniform ∣ member_offset part j)))
          × DistanceKept (member_offset part j) (previous_of inner part j))
          × T (bit (rows (member_type part j)).flags sized_bit)

      to : Parts → FirstFit members uniform (suc j)
      to p =
          below_more (MemberFits members uniform) j p.0.0.0
          (p.0.0.1.0, rw k.offset at p.0.0.1.1, k.distance.0 p.0.1, k.sized.0 p.1)

      from : FirstFit members uniform (suc j) → Parts
      from each =
          let this = each j (omega arith) in
          (((λ i h. each i (omega arith), (this.0, rw k.offset this.1)), k.distance.1 this.2), k.sized.1 this.3)

-- ---- all members
module _ (inner : ℕ → TypeInner) (rows : ℕ → Row) (t : ℕ) (part : List ℕ) (members : PlacedMembers) where
  -- the verdict after j members is Ok exactly where the first j members fit
  after_judged : (space : Space) (j : ℕ) → ((i : ℕ) → i < j → Known inner rows part members space i)
      → Judged (FirstFit members space j) (align_after members space j) (after_in inner rows t part j space)
  unfolding storage_after uniform_after
  after_judged storage zero known = record { passes = λ fits. tt; holds = λ ok i h. absurd (not-suc-le-zero h); align = λ ok. refl }
  after_judged uniform zero known = record { passes = λ fits. tt; holds = λ ok i h. absurd (not-suc-le-zero h); align = λ ok. refl }
  after_judged storage (suc j) known =
      storage_more inner rows t part members j (known j (omega arith)) (after_judged storage j (λ i h. known i (omega arith)))
  after_judged uniform (suc j) known =
      uniform_more inner rows t part members j (known j (omega arith)) (after_judged uniform j (λ i h. known i (omega arith)))

  -- after all members it is Ok exactly where each fits, with RequiredAlignOf of the struct
  pub members_judged : (span : ℕ) (space : Space) → ((i : ℕ) → i < member_total members → Known inner rows part members space i)
      → Judged ((i : ℕ) → i < member_total members → MemberFits members space i) (required_align_of (struct members span) space)
      (after_in inner rows t part (member_total members) space)
  unfolding align_of
  members_judged span space known =
      judged_same (FirstFit members space (member_total members)) (FirstFit members space (member_total members)) (align_after members space (member_total members))
      (required_align_of (struct members span) space) (after_in inner rows t part (member_total members) space) (λ f. f, λ f. f)
      (align-after members space (last_member members) ∙ sym (required_struct members span space))
      (after_judged space (member_total members) known)
