-- The uniform verdict by the distance that the code has is the rule's.
-- Assumes nothing.
use mathlib.Core.Path.{◌≡◌, ap}
use Prim.Native.Nat.{ℕ}
use Rattle.valid_flags.specs.Flags.{bit, sized_bit}
use Rattle.valid_type_info.specs.declared.Row.{Row}
use Rattle.valid_type_info.specs.declared.Verdict.{Verdict}
use Rattle.std.specs.Prelude.{Option}
use Rattle.valid_type_info.specs.declared.PreviousStruct.{PreviousStruct}
use Rattle.valid_type_info.specs.declared.Distance.{Distance}
use Rattle.valid_type_info.specs.Verdict.{distance_verdict, unsized_verdict}
use Rattle.valid_type_info.specs.Serving.{after_distance}
use Rattle.valid_member_rules.specs.MemberRules.{member_uniform}
use Rattle.valid_member_rules.specs.Serving.{uniform_by}

-- the uniform verdict by a distance that says what the rule says is the rule's
pub uniform-by : (least : ℕ) (d : Distance) (previous : Option PreviousStruct) (i j t offset : ℕ) (r : Row) (so_far : Verdict)
    → ((v : Verdict) → after_distance least d i j offset v ≡ distance_verdict least i j offset previous v)
    → uniform_by least d i j t offset r so_far ≡ member_uniform least i j t offset previous r so_far
uniform-by least d previous i j t offset r so_far h = ap (unsized_verdict (bit r.flags sized_bit) i j) (h _)
