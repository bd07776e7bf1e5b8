-- Laws of the walk by parts: its slots are those of the walk (Walk), and a type that stands fours further on has the same part, moved.
-- Assumes nothing.
use mathlib.Core.Path.{◌≡◌, refl, sym, ap, ap₂, ◌∙◌}
use mathlib.Core.Bool.{Bool, true, false}
use mathlib.Core.List.{List}
use Prim.Native.Nat.{ℕ, zero, suc, ◌+◌, ◌*◌, ◌/◌, ◌%◌, ◌<◌, ◌≤◌}
use native.Mathlib.Nat.{not-suc-le-zero}
use native.Mathlib.Decide.{le_ind, dec_le}
use native.Mathlib.Numerals.{add-one}
use native.Mathlib.Omega.{arith}
use lib.Dec.{leb}
use borrow.Author.Tests.{le-leb, ne_eqb}
use Rattle.ir_records.specs.Result.{pick}
use Rattle.ir_records.specs.Record.{Decoded, decoded, type_word, struct_kind, type_inner, inner_of, struct_members, member_type, member_offset}
use Rattle.ir_records.specs.Table.{table, value_at}
use Rattle.ir_records.specs.declared.TypeInner.{TypeInner}
use Rattle.ir_records.specs.declared.TypeInner.TheVariants.{Plain, Array, RuntimeArray, Struct, Other}
use Rattle.ir_records.proofs.ResultLaws.{pick_alike}
use Rattle.ir_records.proofs.TableLaws.{table_value, table_above}
use Rattle.proc_alignment.specs.Alignment.{most}
use Rattle.proc_type_methods.specs.TypeMethods.{size_of}
use Rattle.valid_type_flags.specs.TypeFlags.{is_struct}
use Rattle.valid_type_flags.proofs.KindLaws.{struct_by_kind}
use Rattle.immediates_ranges.specs.Slots.{Slots}
use Rattle.immediates_ranges.specs.Slots as slots
use Rattle.immediates_ranges.specs.Slots.{join}
use Rattle.immediates_part.specs.Part.{Part}
use Rattle.immediates_part.specs.Part.{Past}
use Rattle.immediates_part.specs.Part.{slots_in, range_part, join_parts, moved}
use Rattle.immediates_part.proofs.PartLaws.{join_past, join_slots, range-slots, nothing_slots, range_beyond, nothing_beyond, moved_join, moved_nothing, moved_range}
use Rattle.immediates_walk.specs.Walk.{no_slots, slots_step, slots_of, slots_at, members_slots}
use Rattle.immediates_walk.specs.Parts.{members_part, part_of, no_part, part_step, part_at}
use Rattle.immediates_walk.proofs.WalkLaws.{earlier_slots, later_slots, slots_by_record}

-- ---- one by one
module _ (earlier : ℕ → ℕ → Part) (members : List ℕ) (offset : ℕ) where
  -- a refusal stays
  past_stays : (j : ℕ) → members_part earlier members offset j ≡ Past → (n : ℕ) → j ≤ n → members_part earlier members offset n ≡ Past
  unfolding members_part
  past_stays j e n h = le_ind (λ (m : ℕ). members_part earlier members offset m ≡ Past) e (λ m l p. rw p refl) n h

  -- a member whose part is refused
  pub members_past : (j : ℕ) → earlier (member_type members j) (offset + member_offset members j) ≡ Past → (n : ℕ) → j < n → members_part earlier members offset n ≡ Past
  unfolding members_part
  members_past j e = past_stays (suc j) (rw e (join_past (members_part earlier members offset j)))

  -- an offset that leaves 32 bits
  members_beyond : most < offset → (n : ℕ) → members_part earlier members offset n ≡ Past
  unfolding members_part
  members_beyond h n = past_stays zero (nothing_beyond offset h) n (omega arith)

module _ (types : ℕ → Decoded) (ty : ℕ) where
  -- the part of an earlier type
  pub earlier_part : (t offset : ℕ) → t < ty → table no_part (part_step types) ty t offset ≡ part_at types t offset
  earlier_part t offset h = ap (λ (f : ℕ → Part). f offset) (table_value no_part (part_step types) ty t h)

  -- in the place of a type that is not earlier
  pub later_part : (t offset : ℕ) → ty ≤ t → table no_part (part_step types) ty t offset ≡ Past
  later_part t offset h = ap (λ (f : ℕ → Part). f offset) (table_above no_part (part_step types) ty t h)

  -- the part of a type by its record
  pub part_by_record : (offset : ℕ) → part_at types ty offset ≡ part_of (table no_part (part_step types) ty) (types ty).inner (types ty).members offset
  unfolding value_at
  part_by_record offset = refl

-- past 32 bits everything is refused
beyond : (earlier : ℕ → ℕ → Part) (inner : TypeInner) (members : List ℕ) (offset : ℕ) → most < offset → part_of earlier inner members offset ≡ Past
unfolding part_of
beyond earlier (Plain leaf) members offset h = range_beyond offset (size_of (Plain leaf)) h
beyond earlier (Array base count stride) members offset h = range_beyond offset (size_of (Array base count stride)) h
beyond earlier (RuntimeArray base stride) members offset h = range_beyond offset (size_of (RuntimeArray base stride)) h
beyond earlier (Struct count span) members offset h = members_beyond earlier members offset h count
beyond earlier (Other o) members offset h = range_beyond offset (size_of (Other o)) h

pub part_beyond : (types : ℕ → Decoded) (ty t offset : ℕ) → most < offset → table no_part (part_step types) ty t offset ≡ Past
part_beyond types ty t offset h = go (dec_le ty t)
  where
    go : Dec (ty ≤ t) → table no_part (part_step types) ty t offset ≡ Past
    go (yes l) = later_part types ty t offset l
    go (no l) =
        earlier_part types ty t offset (omega (arith, l))
        ∙ part_by_record types t offset
        ∙ beyond (table no_part (part_step types) t) (types t).inner (types t).members offset h

-- ---- the slots of a part are those of the walk
abbrev Same : (e : Part) (s : Slots) (offset : ℕ) → Type 0
Same e s offset = slots_in e ≡ pick (leb offset most) s slots.Past

module _ (parts : ℕ → ℕ → Part) (walks : ℕ → ℕ → Slots) (same : (t offset : ℕ) → Same (parts t offset) (walks t offset) offset) where
  -- one more member
  one_more : (b : Bool) (s o : Slots) → join (pick b s slots.Past) o ≡ pick b (join s o) slots.Past
  one_more true s o = refl
  one_more false s o = refl

  members_same : (members : List ℕ) (offset n : ℕ) → Same (members_part parts members offset n) (members_slots walks members offset n) offset
  unfolding members_part members_slots
  members_same members offset zero = nothing_slots offset
  members_same members offset (suc n) =
      let o = offset + member_offset members n in
      let t = member_type members n in
      join_slots (members_part parts members offset n) (parts t o)
      ∙ rw (members_same members offset n, same t o) refl
      ∙ one_more (leb offset most) (members_slots walks members offset n) (pick (leb o most) (walks t o) slots.Past)

  of_same : (inner : TypeInner) (members : List ℕ) (offset : ℕ) → Same (part_of parts inner members offset) (slots_of walks inner members offset) offset
  unfolding part_of slots_of
  of_same (Plain leaf) members offset = range-slots offset (size_of (Plain leaf))
  of_same (Array base count stride) members offset = range-slots offset (size_of (Array base count stride))
  of_same (RuntimeArray base stride) members offset = range-slots offset (size_of (RuntimeArray base stride))
  of_same (Struct count span) members offset = members_same members offset count
  of_same (Other o) members offset = range-slots offset (size_of (Other o))

-- ---- a type that stands n slots further on
module _ (parts : ℕ → ℕ → Part) (move : (t offset n : ℕ) → parts t (offset + 4 * n) ≡ moved n (parts t offset)) where
  members_moved : (members : List ℕ) (offset n j : ℕ) → members_part parts members (offset + 4 * n) j ≡ moved n (members_part parts members offset j)
  unfolding members_part
  members_moved members offset n zero = moved_nothing offset n
  members_moved members offset n (suc j) =
      let t = member_type members j in
      let o = offset + member_offset members j in
      let sum : offset + 4 * n + member_offset members j ≡ o + 4 * n = omega arith in
      rw (sum, members_moved members offset n j, move t o n) (sym (moved_join n (members_part parts members offset j) (parts t o)))

  of_moved : (inner : TypeInner) (members : List ℕ) (offset n : ℕ) → part_of parts inner members (offset + 4 * n) ≡ moved n (part_of parts inner members offset)
  unfolding part_of
  of_moved (Plain leaf) members offset n = moved_range offset (size_of (Plain leaf)) n
  of_moved (Array base count stride) members offset n = moved_range offset (size_of (Array base count stride)) n
  of_moved (RuntimeArray base stride) members offset n = moved_range offset (size_of (RuntimeArray base stride)) n
  of_moved (Struct count span) members offset n = members_moved members offset n count
  of_moved (Other o) members offset n = moved_range offset (size_of (Other o)) n

module _ (types : ℕ → Decoded) where
  -- what a table has of each value below it, and of what stands in the place of the others
  table_same : (i : ℕ) → ((t offset : ℕ) → t < i → Same (part_at types t offset) (slots_at types t offset) offset)
      → (t offset : ℕ) → Same (table no_part (part_step types) i t offset) (table no_slots (slots_step types) i t offset) offset
  table_same i all t offset = go (dec_le i t)
    where
      go : Dec (i ≤ t) → Same (table no_part (part_step types) i t offset) (table no_slots (slots_step types) i t offset) offset
      go (yes l) =
          rw (later_part types i t offset l, later_slots types i t offset l)
          (sym (pick_alike (λ (x : Slots). x) slots.Past (leb offset most) slots.Past slots.Past refl refl))
      go (no l) =
          let h : t < i = omega (arith, l) in
          rw (earlier_part types i t offset h, earlier_slots types i t offset h) (all t offset h)

  value_same : (m t offset : ℕ) → t < m → Same (part_at types t offset) (slots_at types t offset) offset
  value_same zero t offset h = absurd (not-suc-le-zero h)
  value_same (suc m) t offset h =
      rw (part_by_record types t offset, slots_by_record types t offset)
      (of_same (table no_part (part_step types) t) (table no_slots (slots_step types) t)
      (table_same t (λ k o l. value_same m k o (omega (arith, h, l)))) (types t).inner (types t).members offset)

  -- the slots of a part are those of the walk
  pub part_slots : (ty offset : ℕ) → offset ≤ most → slots_in (part_at types ty offset) ≡ slots_at types ty offset
  part_slots ty offset h = value_same (suc ty) ty offset (omega arith) ∙ rw (le-leb offset most h) refl

  table_moved : (i : ℕ) → ((t offset n : ℕ) → t < i → part_at types t (offset + 4 * n) ≡ moved n (part_at types t offset))
      → (t offset n : ℕ) → table no_part (part_step types) i t (offset + 4 * n) ≡ moved n (table no_part (part_step types) i t offset)
  table_moved i all t offset n = go (dec_le i t)
    where
      go : Dec (i ≤ t) → table no_part (part_step types) i t (offset + 4 * n) ≡ moved n (table no_part (part_step types) i t offset)
      go (yes l) = rw (later_part types i t (offset + 4 * n) l, later_part types i t offset l) refl
      go (no l) =
          let h : t < i = omega (arith, l) in
          rw (earlier_part types i t (offset + 4 * n) h, earlier_part types i t offset h) (all t offset n h)

  value_moved : (m t offset n : ℕ) → t < m → part_at types t (offset + 4 * n) ≡ moved n (part_at types t offset)
  value_moved zero t offset n h = absurd (not-suc-le-zero h)
  value_moved (suc m) t offset n h =
      rw (part_by_record types t (offset + 4 * n), part_by_record types t offset)
      (of_moved (table no_part (part_step types) t) (table_moved t (λ k o i l. value_moved m k o i (omega (arith, h, l)))) (types t).inner (types t).members offset n)

  -- the part of a type at an offset is the one at the remainder by 4, moved
  pub part_moved : (ty offset : ℕ) → moved (offset / 4) (part_at types ty (offset % 4)) ≡ part_at types ty offset
  part_moved ty offset =
      let sum : offset % 4 + 4 * (offset / 4) ≡ offset = omega arith in
      sym (value_moved (suc ty) ty (offset % 4) (offset / 4) (omega arith)) ∙ ap (part_at types ty) sum

-- ---- a type by the kind of its record
-- what is no struct is taken whole
part_whole : (earlier : ℕ → ℕ → Part) (inner : TypeInner) (members : List ℕ) (offset : ℕ) → is_struct inner ≡ false
    → part_of earlier inner members offset ≡ range_part offset (size_of inner)
unfolding part_of
part_whole earlier (Plain leaf) members offset e = refl
part_whole earlier (Array base count stride) members offset e = refl
part_whole earlier (RuntimeArray base stride) members offset e = refl
part_whole earlier (Struct count span) members offset e = let z : ◌≡◌ {A = ℕ} 0 1 = cc in absurd (omega arith)
part_whole earlier (Other o) members offset e = refl

module _ (ts ms : List ℕ) (ty offset : ℕ) where
  pub part_of_plain : (type_word ts ty 0 ≡ struct_kind → ⊥) → part_at (decoded ts ms) ty offset ≡ range_part offset (size_of (type_inner ts ty))
  unfolding type_inner
  part_of_plain h =
      let kind = struct_by_kind (type_word ts ty 0) (type_word ts ty 1) (type_word ts ty 2) (type_word ts ty 3) (type_word ts ty 4) (type_word ts ty 5) in
      part_by_record (decoded ts ms) ty offset
      ∙ part_whole (table no_part (part_step (decoded ts ms)) ty) (type_inner ts ty) (struct_members ts ms ty) offset (sym kind ∙ ne_eqb (type_word ts ty 0) struct_kind h)

  struct-record : type_word ts ty 0 ≡ struct_kind → type_inner ts ty ≡ Struct (type_word ts ty 2) (type_word ts ty 3)
  unfolding type_inner inner_of
  struct-record e = rw e refl

  pub part_of_struct : type_word ts ty 0 ≡ struct_kind
      → part_at (decoded ts ms) ty offset ≡ members_part (table no_part (part_step (decoded ts ms)) ty) (struct_members ts ms ty) offset (type_word ts ty 2)
  unfolding part_of
  part_of_struct e =
      part_by_record (decoded ts ms) ty offset
      ∙ ap (λ (x : TypeInner). part_of (table no_part (part_step (decoded ts ms)) ty) x (struct_members ts ms ty) offset) (struct-record e)

-- ---- a member, as the code tests it
module _ (types : ℕ → Decoded) (ty : ℕ) (rows : List ℕ) (offset j : ℕ) where
  abbrev earlier : ℕ → ℕ → Part
  earlier = table no_part (part_step types) ty

  module _ {t o : ℕ} (p : t ≡ member_type rows j) (q : o ≡ offset + member_offset rows j) where
    -- it is refused, and so are all: its offset sum leaves 32 bits, or it is of no earlier type
    pub member_beyond : most < o → (n : ℕ) → j < n → Past ≡ members_part earlier rows offset n
    member_beyond e n h = sym (members_past earlier rows offset j (sym (ap₂ earlier p q) ∙ part_beyond types ty t o e) n h)

    pub member_late : ty ≤ t → (n : ℕ) → j < n → Past ≡ members_part earlier rows offset n
    member_late e n h = sym (members_past earlier rows offset j (sym (ap₂ earlier p q) ∙ later_part types ty t o e) n h)

    -- its part is refused, and so are all
    pub part_refused : t < ty → Past ≡ part_at types t o → (n : ℕ) → j < n → Past ≡ members_part earlier rows offset n
    part_refused h e n l = sym (members_past earlier rows offset j (sym (ap₂ earlier p q) ∙ earlier_part types ty t o h ∙ sym e) n l)

    -- one more member
    pub part_more : t < ty → {before own after : Part} → before ≡ members_part earlier rows offset j → own ≡ part_at types t o → after ≡ join_parts before own
        → after ≡ members_part earlier rows offset (j + 1)
    unfolding members_part
    part_more h b w e = rw (add-one j) (e ∙ ap₂ join_parts b (w ∙ sym (earlier_part types ty t o h) ∙ ap₂ earlier p q))
