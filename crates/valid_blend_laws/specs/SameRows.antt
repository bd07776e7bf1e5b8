-- 02, E9: two member tables that differ in locations and blend sources alone.
-- Assumes nothing.
use Rattle.std.specs.Prelude.{List, ◌≡◌, ℕ, ◌<◌}
use Rattle.ir_records.specs.Record.{member_count, member_type, member_offset}

pub record SameRows (ms ms' : List ℕ) : Type 0 where
  pub count : member_count ms ≡ member_count ms'
  pub types : (k : ℕ) → k < member_count ms → member_type ms k ≡ member_type ms' k
  pub offsets : (k : ℕ) → k < member_count ms → member_offset ms k ≡ member_offset ms' k
