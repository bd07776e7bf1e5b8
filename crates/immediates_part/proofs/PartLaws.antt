-- Laws of parts with room: their slots, and that what is joined or given as two numbers may be moved.
-- Assumes nothing.
use mathlib.Core.Path.{◌≡◌, refl, sym, ap, ◌∙◌}
use mathlib.Core.Bool.{Bool, true, false}
use Prim.Native.Nat.{ℕ, ◌+◌, ◌-◌, ◌*◌, ◌≤◌, ◌<◌, min}
use native.Mathlib.Decide.{dec_le, ℕ_discrete}
use native.Mathlib.Omega.{arith}
use lib.Dec.{leb}
use borrow.Author.Tests.{le-leb, lt-leb, ne_eqb}
use Rattle.ir_records.specs.Result.{pick}
use Rattle.ir_records.proofs.ResultLaws.{pick_alike}
use Rattle.proc_alignment.specs.Alignment.{most}
use Rattle.immediates_ranges.specs.Slots.{Slots}
use Rattle.immediates_ranges.specs.Slots as slots
use Rattle.immediates_ranges.specs.Slots.{slot_count, slot_bytes, covers, covers_partly, mask_of, range_slots, union, join}
use Rattle.immediates_part.specs.Part.{Part}
use Rattle.immediates_part.specs.Part.{Within, Past}
use Rattle.immediates_part.specs.Part.{slots_in, with_room, nothing_at, range_room, range_part, join_parts, moved}
use Rattle.immediates_part.proofs.RaisedLaws.{raised_union, raised_nothing, raised_touched, raised_partly}

-- a part that is refused refuses both
pub join_past : (a : Part) → join_parts a Past ≡ Past
join_past (Within t p r) = refl
join_past Past = refl

-- ---- the slots of a part
pub join_slots : (a b : Part) → slots_in (join_parts a b) ≡ join (slots_in a) (slots_in b)
join_slots (Within a p r) (Within b q s) = refl
join_slots (Within a p r) Past = refl
join_slots Past b = refl

room_slots : (room : ℕ) (s : Slots) → slots_in (with_room room s) ≡ s
room_slots room (slots.Mask t p) = refl
room_slots room slots.Past = refl

pub range-slots : (offset size : ℕ) → slots_in (range_part offset size) ≡ pick (leb offset most) (range_slots offset size) slots.Past
unfolding range_part
range-slots offset size = go (leb offset most)
  where
    go : (b : Bool) → slots_in (pick b (with_room (range_room offset size) (range_slots offset size)) Past) ≡ pick b (range_slots offset size) slots.Past
    go true = room_slots (range_room offset size) (range_slots offset size)
    go false = refl

pub nothing_slots : (offset : ℕ) → slots_in (nothing_at offset) ≡ pick (leb offset most) (slots.Mask 0 0) slots.Past
unfolding nothing_at
nothing_slots offset = go (leb offset most)
  where
    go : (b : Bool) → slots_in (pick b (Within 0 0 (most - offset)) Past) ≡ pick b (slots.Mask 0 0) slots.Past
    go true = refl
    go false = refl

-- ---- past 32 bits
pub range_beyond : (offset size : ℕ) → most < offset → range_part offset size ≡ Past
unfolding range_part
range_beyond offset size h = rw (lt-leb offset most h) refl

pub nothing_beyond : (offset : ℕ) → most < offset → nothing_at offset ≡ Past
unfolding nothing_at
nothing_beyond offset h = rw (lt-leb offset most h) refl

-- ---- parts that are moved
pub moved_join : (n : ℕ) (a b : Part) → moved n (join_parts a b) ≡ join_parts (moved n a) (moved n b)
moved_join n (Within a p r) (Within b q s) = go (dec_le (4 * n) r) (dec_le (4 * n) s)
  where
    go : Dec (4 * n ≤ r) → Dec (4 * n ≤ s)
        → moved n (Within (union a b) (union p q) (min r s)) ≡ join_parts (moved n (Within a p r)) (moved n (Within b q s))
    go (yes h) (yes l) =
        let room : min r s - 4 * n ≡ min (r - 4 * n) (s - 4 * n) = omega arith in
        rw (le-leb (4 * n) (min r s) (omega (arith, h, l)), le-leb (4 * n) r h, le-leb (4 * n) s l, raised_union a b n, raised_union p q n, room) refl
    go (yes h) (no l) = rw (lt-leb (4 * n) (min r s) (omega (arith, l)), le-leb (4 * n) r h, lt-leb (4 * n) s (omega (arith, l))) refl
    go (no h) l = rw (lt-leb (4 * n) (min r s) (omega (arith, h)), lt-leb (4 * n) r (omega (arith, h))) refl
moved_join n (Within a p r) Past = sym (join_past (moved n (Within a p r)))
moved_join n Past b = refl

pub moved_nothing : (offset n : ℕ) → nothing_at (offset + 4 * n) ≡ moved n (nothing_at offset)
unfolding nothing_at
moved_nothing offset n = go (dec_le offset most) (dec_le (offset + 4 * n) most)
  where
    go : Dec (offset ≤ most) → Dec (offset + 4 * n ≤ most) → nothing_at (offset + 4 * n) ≡ moved n (nothing_at offset)
    go (yes h) (yes l) =
        let room : most - (offset + 4 * n) ≡ most - offset - 4 * n = omega arith in
        rw (le-leb offset most h, le-leb (offset + 4 * n) most l, le-leb (4 * n) (most - offset) (omega (arith, l)), raised_nothing n, room) refl
    go (yes h) (no l) = rw (le-leb offset most h, lt-leb (offset + 4 * n) most (omega (arith, l)), lt-leb (4 * n) (most - offset) (omega (arith, h, l))) refl
    go (no h) l = rw (lt-leb offset most (omega (arith, h)), lt-leb (offset + 4 * n) most (omega (arith, h))) refl

-- an empty part
range_empty : (offset : ℕ) → range_part offset 0 ≡ nothing_at offset
unfolding range_part range_slots nothing_at
range_empty offset = refl

-- a part that ends with the slots, and one that does not
module _ (offset size : ℕ) (some : size ≡ 0 → ⊥) where
  range_within : offset + size ≤ slot_bytes
      → range_part offset size ≡ Within (mask_of (covers offset size) slot_count) (mask_of (covers_partly offset size) slot_count) (slot_bytes - (offset + size))
  unfolding range_part range_slots
  range_within h = rw (le-leb offset most (omega (arith, h)), ne_eqb size 0 some, le-leb (offset + size) slot_bytes h) refl

  range_past : slot_bytes < offset + size → range_part offset size ≡ Past
  unfolding range_part range_slots
  range_past h =
      rw (ne_eqb size 0 some, lt-leb (offset + size) slot_bytes h)
      (pick_alike (λ (x : Part). x) Past (leb offset most) Past Past refl refl)

pub moved_range : (offset size n : ℕ) → range_part (offset + 4 * n) size ≡ moved n (range_part offset size)
moved_range offset size n = go (ℕ_discrete size 0) (dec_le (offset + size) slot_bytes) (dec_le (offset + 4 * n + size) slot_bytes)
  where
    go : Dec (size ≡ 0) → Dec (offset + size ≤ slot_bytes) → Dec (offset + 4 * n + size ≤ slot_bytes)
        → range_part (offset + 4 * n) size ≡ moved n (range_part offset size)
    go (yes e) h l = rw e (range_empty (offset + 4 * n) ∙ moved_nothing offset n ∙ ap (moved n) (sym (range_empty offset)))
    go (no e) (yes h) (yes l) =
        let room : slot_bytes - (offset + 4 * n + size) ≡ slot_bytes - (offset + size) - 4 * n = omega arith in
        range_within (offset + 4 * n) size e l
        ∙ sym (ap (moved n) (range_within offset size e h)
        ∙ rw (le-leb (4 * n) (slot_bytes - (offset + size)) (omega (arith, l)), raised_touched offset size n, raised_partly offset size n, room) refl)
    go (no e) (yes h) (no l) =
        range_past (offset + 4 * n) size e (omega (arith, l))
        ∙ sym (ap (moved n) (range_within offset size e h) ∙ rw (lt-leb (4 * n) (slot_bytes - (offset + size)) (omega (arith, h, l))) refl)
    go (no e) (no h) l =
        range_past (offset + 4 * n) size e (omega (arith, h)) ∙ sym (ap (moved n) (range_past offset size e (omega (arith, h))))
