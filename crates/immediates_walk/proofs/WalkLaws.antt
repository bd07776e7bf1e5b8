-- Laws of the walk: the slots of earlier and later types, and of a type by what its record says.
-- Assumes nothing.
use mathlib.Core.Path.{◌≡◌, refl, ap}
use Prim.Native.Nat.{ℕ, ◌<◌, ◌≤◌}
use Rattle.ir_records.specs.Record.{Decoded}
use Rattle.ir_records.specs.Table.{table, value_at}
use Rattle.ir_records.proofs.TableLaws.{table_value, table_above}
use Rattle.immediates_ranges.specs.Slots.{Slots}
use Rattle.immediates_ranges.specs.Slots.{Past}
use Rattle.immediates_walk.specs.Walk.{no_slots, slots_step, slots_of, slots_at}

module _ (types : ℕ → Decoded) (ty : ℕ) where
  -- the slots of an earlier type
  pub earlier_slots : (t offset : ℕ) → t < ty → table no_slots (slots_step types) ty t offset ≡ slots_at types t offset
  earlier_slots t offset h = ap (λ (f : ℕ → Slots). f offset) (table_value no_slots (slots_step types) ty t h)

  -- in the place of a type that is not earlier
  pub later_slots : (t offset : ℕ) → ty ≤ t → table no_slots (slots_step types) ty t offset ≡ Past
  later_slots t offset h = ap (λ (f : ℕ → Slots). f offset) (table_above no_slots (slots_step types) ty t h)

  -- the slots of a type by its record
  pub slots_by_record : (offset : ℕ) → slots_at types ty offset ≡ slots_of (table no_slots (slots_step types) ty) (types ty).inner (types ty).members offset
  unfolding value_at
  slots_by_record offset = refl
