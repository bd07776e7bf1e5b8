-- 02, E1: the bytes of a type that lie in leaves, and those that lie in none. The leaves are the place's: a matrix has its columns (E6), and a
-- runtime array counts as one element.
-- Assumes nothing.
use Rattle.std.specs.Prelude.{Bool, false, not, ◌&&◌, ◌||◌, List, ℕ, ◌-◌, ◌*◌, leb, ltb}
use Rattle.ir_records.specs.Result.{Result, ok, pick}
use Rattle.ir_records.specs.Record.{Decoded, member_type, member_offset}
use Rattle.ir_records.specs.Table.{value_at}
use Rattle.ir_records.specs.declared.Leaf.{Leaf}
use Rattle.ir_records.specs.declared.TypeInner.{TypeInner}
use Rattle.ir_records.specs.declared.TypeInner.TheVariants.{Plain, Array, RuntimeArray, Struct, Other}
use Rattle.proc_type_methods.specs.TypeMethods.{leaf_size, leaf_column_step, size_of}
use Rattle.place_steps.specs.Columns.{is_whole, column_count, leaf_length}
use Rattle.place_carried.specs.Count.{count, some}

-- ---- byte k of a type lies in a leaf
-- of a part that starts at `offset`: byte k is one of those that `has` tells, counted from there
abbrev pub part_has : (offset : ℕ) → (has : ℕ → Bool) → (k : ℕ) → Bool
part_has offset has k = leb offset k && has (k - offset)

-- of data that is neither array nor struct: below its length, or below that of a column from where one starts
abbrev pub leaf_has : Leaf → (k : ℕ) → Bool
leaf_has leaf k =
    pick (is_whole leaf) (ltb k (leaf_length leaf (leaf_size leaf)))
    (some (λ s. part_has (s * leaf_column_step leaf) (λ b. ltb b (leaf_length leaf (leaf_size leaf))) k) (column_count leaf))

-- by what the record says; earlier: of the types before it
unfoldable pub in_leaf_of : (earlier : ℕ → ℕ → Bool) → TypeInner → (members : List ℕ) → (k : ℕ) → Bool
in_leaf_of earlier (Plain leaf) members k = leaf_has leaf k
in_leaf_of earlier (Array base count stride) members k = some (λ e. part_has (e * stride) (earlier base) k) count
in_leaf_of earlier (RuntimeArray base stride) members k = earlier base k
in_leaf_of earlier (Struct count span) members k = some (λ j. part_has (member_offset members j) (earlier (member_type members j)) k) count
in_leaf_of earlier (Other o) members k = false

-- in the place of a type that is not earlier, which no accepted arena has
abbrev pub no_leaf : ℕ → Bool
no_leaf k = false

-- of type i, from those before it
abbrev pub in_leaf_step : (types : ℕ → Decoded) → (ℕ → ℕ → Bool) → ℕ → Result (ℕ → Bool)
in_leaf_step types earlier i = ok (in_leaf_of earlier (types i).inner (types i).members)

-- byte k of type t lies in a leaf
abbrev pub in_leaf : (types : ℕ → Decoded) → (t k : ℕ) → Bool
in_leaf types = value_at no_leaf (in_leaf_step types)

-- ---- the two counts: the bytes of the type that lie in a leaf, and those that lie in none
unfoldable pub carried : (types : ℕ → Decoded) → (t : ℕ) → ℕ
carried types t = count (in_leaf types t) (size_of (types t).inner)

unfoldable pub wasted : (types : ℕ → Decoded) → (t : ℕ) → ℕ
wasted types t = count (λ k. not (in_leaf types t k)) (size_of (types t).inner)

-- ---- number 27: whether type t reaches an array with a stride below its element's size
unfoldable pub narrow_of : (size : ℕ → ℕ) (earlier : ℕ → Bool) → TypeInner → (members : List ℕ) → Bool
narrow_of size earlier (Plain leaf) members = false
narrow_of size earlier (Array base count stride) members = ltb stride (size base) || earlier base
narrow_of size earlier (RuntimeArray base stride) members = ltb stride (size base) || earlier base
narrow_of size earlier (Struct count span) members = some (λ j. earlier (member_type members j)) count
narrow_of size earlier (Other o) members = false

abbrev pub narrow_step : (types : ℕ → Decoded) → (ℕ → Bool) → ℕ → Result Bool
narrow_step types earlier i = ok (narrow_of (λ k. size_of (types k).inner) earlier (types i).inner (types i).members)

abbrev pub narrow : (types : ℕ → Decoded) → ℕ → Bool
narrow types = value_at false (narrow_step types)
