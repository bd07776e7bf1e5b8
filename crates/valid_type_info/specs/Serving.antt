-- Serves the contracts of functions inside the library: it adds nothing to what the other files say, and a reader may skip it.
-- Assumes nothing.
use Rattle.std.specs.Prelude.{◌≡◌, ◌<◌, ◌⊎◌, Bool, true, false, ℕ, leb, Result, MatchResult}
use Rattle.ir_records.specs.Result.{pick}
use Rattle.ir_records.specs.declared.Fault.TheVariants.{FieldOutside}
use Rattle.ir_records.specs.declared.TypeRefusal.{TypeRefusal}
use Rattle.ir_records.specs.Refusal.{type_refusal}
use Rattle.valid_type_info.specs.declared.Verdict.{Verdict}
use Rattle.valid_type_info.specs.declared.Disalignment.{Disalignment}
use Rattle.valid_type_info.specs.declared.Disalignment.TheVariants.{ArrayStride, StructSpan, MemberOffset, MemberOffsetAfterStruct, UnsizedMember, NonHostShareable}
use Rattle.valid_type_info.specs.declared.Distance.{Distance}
use Rattle.valid_type_info.specs.declared.Distance.TheVariants.{Enough, Short, Overflow}
use Rattle.valid_type_info.specs.Verdict.{min_storage, member_offset_after_struct}

-- the code of what is wrong
abbrev pub disalignment_number : Disalignment → ℕ
disalignment_number ArrayStride = 1
disalignment_number StructSpan = 2
disalignment_number MemberOffset = 3
disalignment_number MemberOffsetAfterStruct = 4
disalignment_number UnsizedMember = 5
disalignment_number NonHostShareable = 6

-- what is wrong by this code, or number 2 for 0 and for a code above all of them
abbrev pub NamesDisalignment : ℕ → Result Disalignment TypeRefusal → Type 0
NamesDisalignment code named = MatchResult named (λ d. disalignment_number d ≡ code) (λ r. (r ≡ type_refusal FieldOutside 0 0) × ((code ≡ 0) ⊎ (6 < code)))

-- what the code answers of the distance rule and of its sums (number 21) at once
abbrev pub is_within : Distance → Bool
is_within Enough = true
is_within (Short expected) = true
is_within Overflow = false

abbrev pub after_distance : (least : ℕ) → Distance → (i j offset : ℕ) → Verdict → Verdict
after_distance least Enough i j offset so_far = so_far
after_distance least (Short expected) i j offset so_far = pick (leb least min_storage) so_far (member_offset_after_struct i j offset expected)
after_distance least Overflow i j offset so_far = so_far
