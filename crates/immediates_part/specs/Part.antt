-- A part with its room: its two masks (immediates_ranges: Slots), and how many bytes further on it may stand before number 25. No term of 01 or 02: by it
-- the slots of a type at one offset give those at every offset that is some fours further on.
-- Assumes nothing.
use Rattle.std.specs.Prelude.{ℕ, ◌+◌, ◌-◌, ◌*◌, ◌%◌, ◌^◌, min, eqb, leb, Option, Some, None}
use Rattle.ir_records.specs.Result.{pick}
use Rattle.proc_alignment.specs.Alignment.{most}
use Rattle.immediates_ranges.specs.Slots.{Slots}
use Rattle.immediates_ranges.specs.Slots as slots
use Rattle.immediates_ranges.specs.Slots.{slot_count, slot_bytes, range_slots, union}
use Rattle.immediates_part.specs.declared.Part as code

-- Past: number 25
pub data Part : Type 0 where
  Within : (touched partly room : ℕ) → Part
  Past : Part

-- the slots of a part
abbrev pub slots_in : Part → Slots
slots_in (Within touched partly room) = slots.Mask touched partly
slots_in Past = slots.Past

-- slots with a room
abbrev pub with_room : (room : ℕ) → Slots → Part
with_room room (slots.Mask touched partly) = Within touched partly room
with_room room slots.Past = Past

-- no slot at an offset; number 25 where the offset leaves 32 bits
unfoldable pub nothing_at : (offset : ℕ) → Part
nothing_at offset = pick (leb offset most) (Within 0 0 (most - offset)) Past

-- the room of a part given as two numbers: an empty part ends with 32 bits, any other with the slots
abbrev pub range_room : (offset size : ℕ) → ℕ
range_room offset size = pick (eqb size 0) (most - offset) (slot_bytes - (offset + size))

-- a part given as two numbers
unfoldable pub range_part : (offset size : ℕ) → Part
range_part offset size = pick (leb offset most) (with_room (range_room offset size) (range_slots offset size)) Past

-- two parts together: the union of each mask, and the smaller room
abbrev pub join_parts : Part → Part → Part
join_parts (Within a p r) (Within b q s) = Within (union a b) (union p q) (min r s)
join_parts (Within a p r) Past = Past
join_parts Past other = Past

-- a mask whose slots stand n slots further on
unfoldable pub raised : (mask n : ℕ) → ℕ
raised mask n = mask * 2 ^ n % 2 ^ slot_count

-- a part that stands n slots further on; number 25 where it has not the room
abbrev pub moved : (n : ℕ) → Part → Part
moved n (Within touched partly room) = pick (leb (4 * n) room) (Within (raised touched n) (raised partly n) (room - 4 * n)) Past
moved n Past = Past

-- ---- what the code's answers say
-- a part that is found
abbrev pub part_in : code.Part → Part
part_in p = Within p.slots.touched p.slots.partly p.room

-- None is number 25
abbrev pub part_found : Option code.Part → Part
part_found (Some p) = part_in p
part_found None = Past
