-- What is known before the first member of a struct; the flags in a row.
-- Assumes nothing.
use mathlib.Core.Path.{◌≡◌, refl}
use mathlib.Core.List.{List}
use Prim.Native.Nat.{ℕ}
use Rattle.std.specs.Prelude.{Some}
use Rattle.ir_records.specs.Record.{struct_kind}
use Rattle.ir_records.specs.declared.TypeInner.{TypeInner}
use Rattle.valid_flags.specs.Flags.{starting_flags}
use Rattle.ir_rows.specs.Rows.{row_word}
use Rattle.valid_type_info.specs.TypeInfo.{rows_in, row_flags}
use Rattle.valid_type_info.specs.declared.Row.{Row}
use Rattle.valid_type_info.specs.Verdict.{ok_verdict, min_storage, previous_of}
use Rattle.valid_member_bounds.specs.MemberBounds.{bounds_after}
use Rattle.valid_member_rules.specs.MemberRules.{uniform_after, storage_after, immediates_after}
use Rattle.valid_members_plain.specs.Serving.{PlainAfter}

pub plain_start : (least : ℕ) (inner : ℕ → TypeInner) (rows : ℕ → Row) (i count span : ℕ) (part : List ℕ)
    → PlainAfter least inner rows i count span part 0 (ok_verdict least) 0
    (record { end = 0; flags = starting_flags struct_kind; uniform = Some least; storage = min_storage; least = 0 })
unfolding bounds_after uniform_after storage_after immediates_after previous_of
plain_start least inner rows i count span part = (refl, refl, refl, refl, refl)

-- word 2 of a row
pub flags_in : (words : List ℕ) (t : ℕ) → row_word words t 2 ≡ row_flags (rows_in words) t
unfolding rows_in
flags_in words t = refl
