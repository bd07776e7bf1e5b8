-- Laws of what a type reaches in an accepted arena.
-- Assumes nothing.
use Prim.Native.Nat.{ℕ, ◌<◌}
use native.Mathlib.Omega.{arith}
use Rattle.ir_records.specs.Record.{Decoded}
use Rattle.valid_type_info.specs.declared.UniformRule.{UniformRule}
use Rattle.valid_type_info.specs.Verdict.{min_storage, least_for}
use Rattle.valid_arena.specs.Arena.{row}
use Rattle.valid_arena.proofs.AcceptedLaws.{AcceptedTypes, array_row, runtime_array_row, member_earlier}
use Rattle.place_term3.specs.Term3.{Reached, itself, element, runtime_element, member, stride_covers, StridesCover}

-- what is reached from an accepted type is an accepted type
pub reached_within : (c : ℕ) (types : ℕ → Decoded) (n : ℕ) → AcceptedTypes c types n → {t a : ℕ} → Reached types t a → t < n → a < n
reached_within c types n acc itself h = h
reached_within c types n acc (element {t = t} {base = base} {count = count} {stride = stride} e r) h =
    let b = (array_row min_storage c types n acc t h base count stride e).0 in reached_within c types n acc r (omega arith)
reached_within c types n acc (runtime_element {t = t} {base = base} {stride = stride} e r) h =
    let b = (runtime_array_row min_storage c types n acc t h base stride e).0 in reached_within c types n acc r (omega arith)
reached_within c types n acc (member {t = t} {count = count} {span = span} j e l r) h =
    let b = member_earlier min_storage c types n acc t h count span e j l in reached_within c types n acc r (omega arith)

-- where each array of the arena has a stride of at least its element's size, so has each that is reached
pub strides_cover : (rule : UniformRule) (c : ℕ) (types : ℕ → Decoded) (n : ℕ) → AcceptedTypes c types n → ((a : ℕ) → a < n → stride_covers (row (least_for rule) c types) (types a).inner)
    → (t : ℕ) → t < n → StridesCover (row (least_for rule) c types) types t
strides_cover rule c types n acc each t h a r = each a (reached_within c types n acc r h)
