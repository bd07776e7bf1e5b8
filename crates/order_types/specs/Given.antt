-- 02, E11: what is asked of the given types, number by number over all of them: of the arena (6), data (17), no unsized struct and no second
-- runtime array (20).
-- Assumes nothing.
use Rattle.std.specs.Prelude.{Bool, false, not, ◌||◌, List, ℕ, ◌+◌, ◌-◌, eqb, leb, length, get_or, Option, Some, None}
use Rattle.ir_records.specs.Result.{pick}
use Rattle.ir_records.specs.Record.{struct_kind, type_word}
use Rattle.ir_rows.specs.Rows.{row_word}
use Rattle.valid_flags.specs.Flags.{bit, data_bit, sized_bit}
use Rattle.order_numbers.specs.Search.{first_from, is_found}

-- ---- the sorts of types
abbrev pub sized : ℕ
sized = 0

abbrev pub runtime_array : ℕ
runtime_array = 1

abbrev pub unsized_struct : ℕ
unsized_struct = 2

abbrev pub no_data : ℕ
no_data = 3

abbrev pub outside : ℕ
outside = 4

-- a type beside an arena of n types and its rows. Data that is unsized and no struct is a runtime array
unfoldable pub sort_of : (types rows : List ℕ) (n ty : ℕ) → ℕ
sort_of types rows n ty =
    pick (leb n ty) outside
    (pick (not (bit (row_word rows ty 2) data_bit)) no_data
    (pick (bit (row_word rows ty 2) sized_bit) sized
    (pick (eqb (type_word types ty 0) struct_kind) unsized_struct
    runtime_array)))

module _ (types rows : List ℕ) (n : ℕ) (wanted : List ℕ) where
  -- the given type j is of a sort
  abbrev pub is_sort : (sort j : ℕ) → Bool
  is_sort sort j = eqb (sort_of types rows n (get_or wanted j 0)) sort

  -- the first of a sort, from one of them on
  unfoldable pub first_of : (sort from : ℕ) → Option ℕ
  first_of sort from = first_from (is_sort sort) (length wanted - from) from

  -- another runtime array after the first
  abbrev pub is_second : (first : Option ℕ) → Bool
  is_second (Some j) = is_found (first_of runtime_array (j + 1))
  is_second None = false

  -- the number of the refusal; 0 for none
  unfoldable pub number_of : ℕ
  number_of =
      pick (is_found (first_of outside 0)) 6
      (pick (is_found (first_of no_data 0)) 17
      (pick (is_found (first_of unsized_struct 0) || is_second (first_of runtime_array 0)) 20
      0))

  -- the runtime array
  unfoldable pub last_of : Option ℕ
  last_of = first_of runtime_array 0
