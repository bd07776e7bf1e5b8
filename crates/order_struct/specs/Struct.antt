-- 02, E11: the struct of an order: its type record, and a member record for each place, with neither location nor blend source.
-- Assumes nothing.
use Rattle.std.specs.Prelude.{List, [], ◌∷◌, ℕ, get_or}
use Rattle.ir_records.specs.Record.{struct_kind}
use Rattle.ir_records.specs.Table.{flat}
use Rattle.order_placement.specs.Placement.{offset_of}

-- the member rows begin at row `first`
abbrev pub struct_record : (first count span : ℕ) → List ℕ
struct_record first count span = struct_kind ∷ first ∷ count ∷ span ∷ 0 ∷ 0 ∷ []

-- of place j: the type that stands there, and its offset
abbrev pub member_row : (rows wanted : List ℕ) (member : ℕ → ℕ) (j : ℕ) → List ℕ
member_row rows wanted member j = get_or wanted (member j) 0 ∷ offset_of rows wanted member j ∷ 0 ∷ 0 ∷ []

-- of n places
unfoldable pub member_rows : (rows wanted : List ℕ) (n : ℕ) (member : ℕ → ℕ) → List ℕ
member_rows rows wanted n member = flat (member_row rows wanted member) n
