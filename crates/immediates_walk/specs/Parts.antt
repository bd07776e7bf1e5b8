-- The walk of a type once more, by parts with their room (immediates_part: Part): the code walks a struct from offsets 0 to 3 and moves what it finds.
-- Assumes nothing.
use Rattle.std.specs.Prelude.{◌≡◌, List, ℕ, zero, suc, ◌+◌, ◌≤◌}
use Rattle.ir_records.specs.Result.{Result, ok}
use Rattle.ir_records.specs.Record.{Decoded, type_inner, member_type, member_offset}
use Rattle.ir_records.specs.Table.{value_at}
use Rattle.ir_records.specs.declared.TypeInner.{TypeInner}
use Rattle.ir_records.specs.declared.TypeInner.TheVariants.{Plain, Array, RuntimeArray, Struct, Other}
use Rattle.ir_rows.specs.Rows.{row_word}
use Rattle.proc_type_methods.specs.TypeMethods.{size_of}
use Rattle.immediates_part.specs.Part.{Part}
use Rattle.immediates_part.specs.Part.{Past}
use Rattle.immediates_part.specs.Part.{nothing_at, range_part, join_parts}

-- the first j members of a struct that stands at `offset`. earlier: the parts of the types before it, each at an offset
unfoldable pub members_part : (earlier : ℕ → ℕ → Part) (members : List ℕ) (offset : ℕ) → ℕ → Part
members_part earlier members offset zero = nothing_at offset
members_part earlier members offset (suc j) =
    join_parts (members_part earlier members offset j) (earlier (member_type members j) (offset + member_offset members j))

-- of a type at an offset, by what its record says
unfoldable pub part_of : (earlier : ℕ → ℕ → Part) → TypeInner → (members : List ℕ) → (offset : ℕ) → Part
part_of earlier (Plain leaf) members offset = range_part offset (size_of (Plain leaf))
part_of earlier (Array base count stride) members offset = range_part offset (size_of (Array base count stride))
part_of earlier (RuntimeArray base stride) members offset = range_part offset (size_of (RuntimeArray base stride))
part_of earlier (Struct count span) members offset = members_part earlier members offset count
part_of earlier (Other o) members offset = range_part offset (size_of (Other o))

-- in the place of a type that is not earlier
abbrev pub no_part : ℕ → Part
no_part offset = Past

-- of type i, from those of the types before it
abbrev pub part_step : (types : ℕ → Decoded) → (ℕ → ℕ → Part) → ℕ → Result (ℕ → Part)
part_step types earlier i = ok (part_of earlier (types i).inner (types i).members)

-- of type ty of an arena at an offset, types in ascending order
abbrev pub part_at : (types : ℕ → Decoded) → (ty offset : ℕ) → Part
part_at types = value_at no_part (part_step types)

-- the rows of the types up to ty have their sizes, as the arena check leaves them
abbrev pub Sizes : (ts rows : List ℕ) (ty : ℕ) → Type 0
Sizes ts rows ty = (i : ℕ) → i ≤ ty → row_word rows i 0 ≡ size_of (type_inner ts i)
