-- The bytes carried and the bytes wasted of some structs, computed.
-- Assumes nothing.
use mathlib.Core.Path.{◌≡◌, refl}
use mathlib.Core.Bool.{true}
use mathlib.Core.List.{List, [], ◌∷◌}
use Prim.Native.Nat.{ℕ}
use Rattle.ir_records.specs.Record.{decoded, inner_of, type_inner, struct_members}
use Rattle.ir_records.specs.Table.{value_at}
use Rattle.place_carried.specs.Count.{count, some}
use Rattle.place_carried.specs.Carried.{in_leaf_of, carried, wasted, narrow_of, narrow}

-- struct { mat3x3<f32> at 0 } of span 48: three columns of twelve bytes, each with a gap of four
matrix : List ℕ
matrix = 2 ∷ 3 ∷ 3 ∷ 2 ∷ 4 ∷ 0 ∷ 8 ∷ 0 ∷ 1 ∷ 48 ∷ 0 ∷ 0 ∷ []

of_matrix : (carried (decoded matrix (0 ∷ 0 ∷ 0 ∷ 0 ∷ [])) 1 ≡ 36) × (wasted (decoded matrix (0 ∷ 0 ∷ 0 ∷ 0 ∷ [])) 1 ≡ 12)
unfolding matrix carried wasted count some in_leaf_of value_at type_inner inner_of struct_members
of_matrix = (refl, refl)

-- struct { array<f32, 2> with stride 8 at 0 } of span 16: each element has a gap of four
spaced : List ℕ
spaced = 0 ∷ 2 ∷ 4 ∷ 0 ∷ 0 ∷ 0 ∷ 7 ∷ 0 ∷ 0 ∷ 2 ∷ 8 ∷ 0 ∷ 8 ∷ 0 ∷ 1 ∷ 16 ∷ 0 ∷ 0 ∷ []

of_spaced : (carried (decoded spaced (1 ∷ 0 ∷ 0 ∷ 0 ∷ [])) 2 ≡ 8) × (wasted (decoded spaced (1 ∷ 0 ∷ 0 ∷ 0 ∷ [])) 2 ≡ 8)
unfolding spaced carried wasted count some in_leaf_of value_at type_inner inner_of struct_members
of_spaced = (refl, refl)

-- struct { f32 at 0, array<f32> with stride 8 at 8 } of span 24: the runtime array counts as one element
tail : List ℕ
tail = 0 ∷ 2 ∷ 4 ∷ 0 ∷ 0 ∷ 0 ∷ 7 ∷ 0 ∷ 1 ∷ 0 ∷ 8 ∷ 0 ∷ 8 ∷ 0 ∷ 2 ∷ 24 ∷ 0 ∷ 0 ∷ []

of_tail : (carried (decoded tail (0 ∷ 0 ∷ 0 ∷ 0 ∷ 1 ∷ 8 ∷ 0 ∷ 0 ∷ [])) 2 ≡ 8) × (wasted (decoded tail (0 ∷ 0 ∷ 0 ∷ 0 ∷ 1 ∷ 8 ∷ 0 ∷ 0 ∷ [])) 2 ≡ 16)
unfolding tail carried wasted count some in_leaf_of value_at type_inner inner_of struct_members
of_tail = (refl, refl)

-- struct { array<f32, 1> with stride 0 at 0 } is narrow
strideless : List ℕ
strideless = 0 ∷ 2 ∷ 4 ∷ 0 ∷ 0 ∷ 0 ∷ 7 ∷ 0 ∷ 0 ∷ 1 ∷ 0 ∷ 0 ∷ 8 ∷ 0 ∷ 1 ∷ 4 ∷ 0 ∷ 0 ∷ []

of_strideless : narrow (decoded strideless (1 ∷ 0 ∷ 0 ∷ 0 ∷ [])) 2 ≡ true
unfolding strideless narrow_of some value_at type_inner inner_of struct_members
of_strideless = refl
