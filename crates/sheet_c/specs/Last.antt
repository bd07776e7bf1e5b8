-- The layout sheet: where the lines of a C struct end.
-- Assumes nothing.
use Rattle.std.specs.Prelude.{Bool, ◌&&◌, List, ℕ, ◌-◌, nat_lt, Option, None, Some}
use Rattle.ir_records.specs.Result.{pick}
use Rattle.ir_records.specs.Record.{type_inner, member_type}
use Rattle.sheet_names.specs.Runtime.{is_runtime}

-- member j, the last one, is a runtime-sized array after others
abbrev pub is_open_at : (types : List ℕ) (j ty : ℕ) → Bool
is_open_at types j ty = nat_lt 0 j && is_runtime (type_inner types ty)

-- the size of a struct with so many members in these rows; none where nothing may stand after its last member
abbrev pub last_byte_of : (types part : List ℕ) (count size : ℕ) → Option ℕ
last_byte_of types part count size = pick (is_open_at types (count - 1) (member_type part (count - 1))) None (Some size)
