-- 01, 'The slot word': the walk of a type from an offset. Structs are walked member by member; every other type is taken whole, by its measure.
-- Assumes nothing.
use Rattle.std.specs.Prelude.{◌≡◌, Bool, false, List, ℕ, zero, suc, ◌+◌, ◌<◌, T, leb}
use Rattle.ir_records.specs.Result.{Result, ok, pick}
use Rattle.ir_records.specs.Record.{Decoded, member_type, member_offset}
use Rattle.ir_records.specs.Table.{value_at}
use Rattle.ir_records.specs.declared.TypeInner.{TypeInner}
use Rattle.ir_records.specs.declared.TypeInner.TheVariants.{Plain, Array, RuntimeArray, Struct, Other}
use Rattle.proc_alignment.specs.Alignment.{most}
use Rattle.proc_type_methods.specs.TypeMethods.{size_of}
use Rattle.valid_flags.specs.Flags.{bit}
use Rattle.valid_type_flags.specs.TypeFlags.{is_struct}
use Rattle.immediates_ranges.specs.Slots.{Slots}
use Rattle.immediates_ranges.specs.Slots.{Mask, Past}
use Rattle.immediates_ranges.specs.Slots.{slot_count, covers_by, range_slots, join}

-- a non-struct part of type ty, which stands at `offset`, covers slot k, by the test of one of the two masks: the type itself where it is no
-- struct, or a part of a member
pub data CoveredBy (partly : Bool) (types : ℕ → Decoded) : (ty offset k : ℕ) → Type 0 where
  by_whole : {ty offset k : ℕ} → is_struct (types ty).inner ≡ false → T (covers_by partly offset (size_of (types ty).inner) k) → CoveredBy partly types ty offset k
  by_member : {ty offset k : ℕ} (count span j : ℕ) → (types ty).inner ≡ Struct count span → j < count
      → CoveredBy partly types (member_type (types ty).members j) (offset + member_offset (types ty).members j) k
      → CoveredBy partly types ty offset k

-- what is said of either mask: a slot is set exactly where a non-struct part covers it, by the mask's own test
abbrev pub SetWhereCovered : (partly : Bool) (types : ℕ → Decoded) (ty offset mask : ℕ) → Type 0
SetWhereCovered partly types ty offset mask =
    (k : ℕ) → k < slot_count → (T (bit mask k) → CoveredBy partly types ty offset k) × (CoveredBy partly types ty offset k → T (bit mask k))

-- ---- the walk
-- the first j members of a struct that stands at `offset`; number 25 where an offset sum leaves 32 bits.
-- earlier: the slots of the types before it, each at an offset
unfoldable pub members_slots : (earlier : ℕ → ℕ → Slots) (members : List ℕ) (offset : ℕ) → ℕ → Slots
members_slots earlier members offset zero = Mask 0 0
members_slots earlier members offset (suc j) =
    join (members_slots earlier members offset j)
    (pick (leb (offset + member_offset members j) most) (earlier (member_type members j) (offset + member_offset members j)) Past)

-- of a type at an offset, by what its record says
unfoldable pub slots_of : (earlier : ℕ → ℕ → Slots) → TypeInner → (members : List ℕ) → (offset : ℕ) → Slots
slots_of earlier (Plain leaf) members offset = range_slots offset (size_of (Plain leaf))
slots_of earlier (Array base count stride) members offset = range_slots offset (size_of (Array base count stride))
slots_of earlier (RuntimeArray base stride) members offset = range_slots offset (size_of (RuntimeArray base stride))
slots_of earlier (Struct count span) members offset = members_slots earlier members offset count
slots_of earlier (Other o) members offset = range_slots offset (size_of (Other o))

-- in the place of a type that is not earlier, which no accepted arena has
abbrev pub no_slots : ℕ → Slots
no_slots offset = Past

-- of type i, from those of the types before it
abbrev pub slots_step : (types : ℕ → Decoded) → (ℕ → ℕ → Slots) → ℕ → Result (ℕ → Slots)
slots_step types earlier i = ok (slots_of earlier (types i).inner (types i).members)

-- of type ty of an arena at an offset, types in ascending order
abbrev pub slots_at : (types : ℕ → Decoded) → (ty offset : ℕ) → Slots
slots_at types = value_at no_slots (slots_step types)
