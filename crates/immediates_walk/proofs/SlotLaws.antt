-- The meaning of a walk slot by slot: slot k of its first mask is set exactly where a non-struct part covers one of bytes 4k to 4k+3, slot k of
-- its second mask exactly where a non-struct part covers one of them and not all. One argument for both; `partly` says which mask is meant.
-- Assumes nothing.
use mathlib.Core.Path.{◌≡◌, refl, sym, ap, ◌∙◌}
use mathlib.Core.Bool.{Bool, true, false, ◌||◌}
use mathlib.Core.Logic.{◌⊎◌, inl, inr, ⊎_elim}
use mathlib.Core.List.{List}
use Prim.Native.Nat.{ℕ, zero, suc, ◌+◌, ◌<◌, ◌≤◌}
use native.Mathlib.Nat.{not-suc-le-zero}
use native.Mathlib.Decide.{ℕ_discrete, dec_le}
use native.Mathlib.Omega.{arith}
use lib.Dec.{T, leb}
use Rattle.ir_records.specs.Result.{pick}
use Rattle.ir_records.specs.Record.{Decoded, member_type, member_offset}
use Rattle.ir_records.specs.Table.{table}
use Rattle.ir_records.specs.declared.TypeInner.{TypeInner}
use Rattle.ir_records.specs.declared.TypeInner.TheVariants.{Plain, Array, RuntimeArray, Struct, Other}
use Rattle.ir_records.proofs.ResultLaws.{or_cases}
use Rattle.proc_alignment.specs.Alignment.{most}
use Rattle.valid_flags.specs.Flags.{bit}
use Rattle.proc_type_methods.specs.TypeMethods.{size_of}
use Rattle.valid_type_flags.specs.TypeFlags.{is_struct}
use Rattle.immediates_ranges.specs.Slots.{Slots}
use Rattle.immediates_ranges.specs.Slots.{Mask, Past}
use Rattle.immediates_ranges.specs.Slots.{slot_count, mask_by, range_slots, union, join}
use Rattle.immediates_walk.specs.Walk.{CoveredBy, by_whole, by_member, no_slots, slots_step, slots_of, slots_at, members_slots}
use Rattle.immediates_ranges.proofs.RangeLaws.{or_left, or_right}
use Rattle.immediates_ranges.proofs.SlotBits.{union_slot, empty_bit, mask_inj, partly_inj, range_slot}
use Rattle.immediates_walk.proofs.WalkLaws.{earlier_slots, later_slots, slots_by_record}

-- ---- the parts of a struct
-- the masks that are joined
record Joined (a b : Slots) (m p : ℕ) : Type 0 where
  m₁ : ℕ
  p₁ : ℕ
  m₂ : ℕ
  p₂ : ℕ
  first : a ≡ Mask m₁ p₁
  second : b ≡ Mask m₂ p₂
  touched : m ≡ union m₁ m₂
  partly : p ≡ union p₁ p₂

joined_parts : (a b : Slots) (m p : ℕ) → join a b ≡ Mask m p → Joined a b m p
joined_parts (Mask x y) (Mask z w) m p e =
    record { m₁ = x; p₁ = y; m₂ = z; p₂ = w; first = refl; second = refl; touched = sym (mask_inj e); partly = sym (partly_inj e) }
joined_parts (Mask x y) Past m p e = let z : ◌≡◌ {A = ℕ} 0 1 = cc in absurd (omega arith)
joined_parts Past b m p e = let z : ◌≡◌ {A = ℕ} 0 1 = cc in absurd (omega arith)

-- masks behind a test
pick_mask : (b : Bool) (a : Slots) (m p : ℕ) → pick b a Past ≡ Mask m p → a ≡ Mask m p
pick_mask true a m p e = e
pick_mask false a m p e = let z : ◌≡◌ {A = ℕ} 0 1 = cc in absurd (omega arith)

-- slot k of one of the joined masks
joined_bit : (partly : Bool) (k : ℕ) → k < slot_count → (m p m₁ p₁ m₂ p₂ : ℕ) → m ≡ union m₁ m₂ → p ≡ union p₁ p₂
    → bit (mask_by partly m p) k ≡ (bit (mask_by partly m₁ p₁) k || bit (mask_by partly m₂ p₂) k)
joined_bit false k h m p m₁ p₁ m₂ p₂ e f = ap (λ (z : ℕ). bit z k) e ∙ union_slot m₁ m₂ k h
joined_bit true k h m p m₁ p₁ m₂ p₂ e f = ap (λ (z : ℕ). bit z k) f ∙ union_slot p₁ p₂ k h

-- the part of member j of a struct that stands at an offset
abbrev part_of : (earlier : ℕ → ℕ → Slots) (members : List ℕ) (offset j : ℕ) → Slots
part_of earlier members offset j = earlier (member_type members j) (offset + member_offset members j)

-- the masks of one more member: those of the members before it, and those of the member
record Last (partly : Bool) (earlier : ℕ → ℕ → Slots) (members : List ℕ) (offset k n m p : ℕ) : Type 0 where
  m₁ : ℕ
  p₁ : ℕ
  m₂ : ℕ
  p₂ : ℕ
  before : members_slots earlier members offset n ≡ Mask m₁ p₁
  own : part_of earlier members offset n ≡ Mask m₂ p₂
  slot : bit (mask_by partly m p) k ≡ (bit (mask_by partly m₁ p₁) k || bit (mask_by partly m₂ p₂) k)

-- some member has slot k
record Some (partly : Bool) (earlier : ℕ → ℕ → Slots) (members : List ℕ) (offset k n : ℕ) : Type 0 where
  j : ℕ
  m : ℕ
  p : ℕ
  below : j < n
  own : part_of earlier members offset j ≡ Mask m p
  slot : T (bit (mask_by partly m p) k)

-- member j has masks, whose slot k is one of all members
record Every (partly : Bool) (earlier : ℕ → ℕ → Slots) (members : List ℕ) (offset k j : ℕ) (whole : ℕ) : Type 0 where
  m : ℕ
  p : ℕ
  own : part_of earlier members offset j ≡ Mask m p
  slot : T (bit (mask_by partly m p) k) → T (bit whole k)

module _ (partly : Bool) (earlier : ℕ → ℕ → Slots) (members : List ℕ) (offset k : ℕ) (h : k < slot_count) where
  members_last : (n m p : ℕ) → members_slots earlier members offset (suc n) ≡ Mask m p → Last partly earlier members offset k n m p
  unfolding members_slots
  members_last n m p e =
      let within = leb (offset + member_offset members n) most in
      let q = joined_parts (members_slots earlier members offset n) (pick within (part_of earlier members offset n) Past) m p e in
      record {
        m₁ = q.m₁;
        p₁ = q.p₁;
        m₂ = q.m₂;
        p₂ = q.p₂;
        before = q.first;
        own = pick_mask within (part_of earlier members offset n) q.m₂ q.p₂ q.second;
        slot = joined_bit partly k h m p q.m₁ q.p₁ q.m₂ q.p₂ q.touched q.partly;
      }

  -- a slot of the members is one of some member
  members_some : (n m p : ℕ) → members_slots earlier members offset n ≡ Mask m p → T (bit (mask_by partly m p) k) → Some partly earlier members offset k n
  unfolding members_slots
  members_some zero m p e t = absurd (rw (empty_bit partly k) at (rw (← mask_inj e, ← partly_inj e) at t))
  members_some (suc n) m p e t =
      let q = members_last n m p e in
      ⊎_elim
      (λ u. let s = members_some n q.m₁ q.p₁ q.before u in record { j = s.j; m = s.m; p = s.p; below = omega (arith, s.below); own = s.own; slot = s.slot })
      (λ u. record { j = n; m = q.m₂; p = q.p₂; below = omega arith; own = q.own; slot = u })
      (or_cases (bit (mask_by partly q.m₁ q.p₁) k) (bit (mask_by partly q.m₂ q.p₂) k) (rw q.slot at t))

  -- a slot of a member is one of the members
  members_every : (n m p : ℕ) → members_slots earlier members offset n ≡ Mask m p → (j : ℕ) → j < n → Every partly earlier members offset k j (mask_by partly m p)
  members_every zero m p e j l = absurd (not-suc-le-zero l)
  members_every (suc n) m p e j l = go (members_last n m p e) (λ x y q i. members_every n x y q j i) (ℕ_discrete j n)
    where
      go : Last partly earlier members offset k n m p
          → ((x y : ℕ) → members_slots earlier members offset n ≡ Mask x y → j < n → Every partly earlier members offset k j (mask_by partly x y)) → Dec (j ≡ n)
          → Every partly earlier members offset k j (mask_by partly m p)
      go q ih (yes i) = record { m = q.m₂; p = q.p₂; own = rw i q.own; slot = λ t. rw q.slot (or_right (bit (mask_by partly q.m₁ q.p₁) k) (bit (mask_by partly q.m₂ q.p₂) k) t) }
      go q ih (no i) =
          let s = ih q.m₁ q.p₁ q.before (omega arith) in
          record { m = s.m; p = s.p; own = s.own; slot = λ t. rw q.slot (or_left (bit (mask_by partly q.m₁ q.p₁) k) (bit (mask_by partly q.m₂ q.p₂) k) (s.slot t)) }

-- what is no struct is taken whole
slots_whole : (earlier : ℕ → ℕ → Slots) (inner : TypeInner) (members : List ℕ) (offset : ℕ) → is_struct inner ≡ false
    → slots_of earlier inner members offset ≡ range_slots offset (size_of inner)
unfolding slots_of
slots_whole earlier (Plain leaf) members offset e = refl
slots_whole earlier (Array base count stride) members offset e = refl
slots_whole earlier (RuntimeArray base stride) members offset e = refl
slots_whole earlier (Struct count span) members offset e = let z : ◌≡◌ {A = ℕ} 0 1 = cc in absurd (omega arith)
slots_whole earlier (Other o) members offset e = refl

-- a struct, or not
struct_cases : (inner : TypeInner) → (is_struct inner ≡ false) ⊎ ((count : ℕ) × (span : ℕ) × (inner ≡ Struct count span))
struct_cases (Plain leaf) = inl refl
struct_cases (Array base count stride) = inl refl
struct_cases (RuntimeArray base stride) = inl refl
struct_cases (Struct count span) = inr (count, span, refl)
struct_cases (Other o) = inl refl

module _ (types : ℕ → Decoded) where
  -- the slots of a type that is no struct
  at_whole : (ty offset : ℕ) → is_struct (types ty).inner ≡ false → slots_at types ty offset ≡ range_slots offset (size_of (types ty).inner)
  at_whole ty offset e =
      slots_by_record types ty offset ∙ slots_whole (table no_slots (slots_step types) ty) (types ty).inner (types ty).members offset e

  -- the slots of a struct
  at_struct : (ty offset count span : ℕ) → (types ty).inner ≡ Struct count span
      → slots_at types ty offset ≡ members_slots (table no_slots (slots_step types) ty) (types ty).members offset count
  unfolding slots_of
  at_struct ty offset count span e = slots_by_record types ty offset ∙ rw e refl

  -- masks are those of an earlier type
  earlier_mask : (ty t offset m p : ℕ) → table no_slots (slots_step types) ty t offset ≡ Mask m p → (t < ty) × (slots_at types t offset ≡ Mask m p)
  earlier_mask ty t offset m p e = go (dec_le ty t)
    where
      go : Dec (ty ≤ t) → (t < ty) × (slots_at types t offset ≡ Mask m p)
      go (yes l) = let late = later_slots types ty t offset l in let z : ◌≡◌ {A = ℕ} 0 1 = cc in absurd (omega arith)
      go (no l) = let h : t < ty = omega arith in (h, sym (earlier_slots types ty t offset h) ∙ e)

  module _ (partly : Bool) (k : ℕ) (h : k < slot_count) where
    -- a slot that is set is covered
    covered : (n ty offset m p : ℕ) → ty < n → slots_at types ty offset ≡ Mask m p → T (bit (mask_by partly m p) k) → CoveredBy partly types ty offset k
    covered zero ty offset m p l e t = absurd (not-suc-le-zero l)
    covered (suc n) ty offset m p l e t =
        ⊎_elim
        (λ w. by_whole w (rw (range_slot partly offset (size_of (types ty).inner) m p (sym (at_whole ty offset w) ∙ e) k h) at t))
        (λ s.
        let some = members_some partly (table no_slots (slots_step types) ty) (types ty).members offset k h s.0 m p (sym (at_struct ty offset s.0 s.1 s.2) ∙ e) t in
        let j = some.j in
        let before = earlier_mask ty (member_type (types ty).members j) (offset + member_offset (types ty).members j) some.m some.p some.own in
        by_member s.0 s.1 j s.2 some.below
        (covered n (member_type (types ty).members j) (offset + member_offset (types ty).members j) some.m some.p (omega (arith, before.0, l)) before.1 some.slot))
        (struct_cases (types ty).inner)

    -- a slot that is covered is set
    set : {ty offset : ℕ} → CoveredBy partly types ty offset k → (m p : ℕ) → slots_at types ty offset ≡ Mask m p → T (bit (mask_by partly m p) k)
    set {ty} {offset} (by_whole w t) m p e = rw (range_slot partly offset (size_of (types ty).inner) m p (sym (at_whole ty offset w) ∙ e) k h) t
    set {ty} {offset} (by_member count span j s l c) m p e =
        let every = members_every partly (table no_slots (slots_step types) ty) (types ty).members offset k h count m p (sym (at_struct ty offset count span s) ∙ e) j l in
        let before = earlier_mask ty (member_type (types ty).members j) (offset + member_offset (types ty).members j) every.m every.p every.own in
        every.slot (set c every.m every.p before.1)

    -- slot k of a mask of a walk is set exactly where a non-struct part covers it, by the mask's own test
    pub walk_slot : (ty offset m p : ℕ) → slots_at types ty offset ≡ Mask m p
        → (T (bit (mask_by partly m p) k) → CoveredBy partly types ty offset k) × (CoveredBy partly types ty offset k → T (bit (mask_by partly m p) k))
    walk_slot ty offset m p e = (covered (suc ty) ty offset m p (omega arith) e, λ c. set c m p e)
