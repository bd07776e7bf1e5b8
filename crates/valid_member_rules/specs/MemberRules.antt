-- 01, 'The result row': a struct, member by member: the verdicts. `rows` are the rows of the types before type i. Acceptance and flags are
-- in valid_member_bounds.
-- Assumes nothing.
use Rattle.std.specs.Prelude.{List, ℕ, zero, suc, eqb}
use Rattle.ir_records.specs.Result.{pick}
use Rattle.ir_records.specs.Record.{member_type, member_offset}
use Rattle.ir_records.specs.declared.TypeInner.{TypeInner}
use Rattle.valid_flags.specs.Flags.{bit, sized_bit, host_shareable_bit}
use Rattle.valid_type_info.specs.declared.Verdict.{Verdict}
use Rattle.std.specs.Prelude.{Option}
use Rattle.valid_type_info.specs.declared.PreviousStruct.{PreviousStruct}
use Rattle.valid_type_info.specs.declared.Row.{Row}
use Rattle.valid_type_info.specs.Verdict.{ok_verdict, share_verdict, member_verdict, previous_of, distance_verdict, unsized_verdict, min_storage}

-- ---- verdicts: what member j, of type t with row r, makes of those so far
abbrev pub member_uniform : (least i j t offset : ℕ) → Option PreviousStruct → Row → Verdict → Verdict
member_uniform least i j t offset previous r so_far =
    unsized_verdict (bit r.flags sized_bit) i j
    (distance_verdict least i j offset previous
    (member_verdict i j offset (share_verdict (bit r.flags host_shareable_bit) t so_far) r.uniform))

abbrev pub member_storage : (i j t offset : ℕ) → Row → Verdict → Verdict
member_storage i j t offset r so_far = member_verdict i j offset (share_verdict (bit r.flags host_shareable_bit) t so_far) r.storage

-- the last failing member gives the immediates word
abbrev pub member_immediates : (own so_far : ℕ) → ℕ
member_immediates own so_far = pick (eqb own 0) so_far own

-- ---- verdicts after j members
unfoldable pub uniform_after : (least : ℕ) (inner : ℕ → TypeInner) (rows : ℕ → Row) (i : ℕ) (members : List ℕ) → ℕ → Verdict
uniform_after least inner rows i members zero = ok_verdict least
uniform_after least inner rows i members (suc j) =
    member_uniform least i j (member_type members j) (member_offset members j) (previous_of inner members j) (rows (member_type members j))
    (uniform_after least inner rows i members j)

unfoldable pub storage_after : (rows : ℕ → Row) (i : ℕ) (members : List ℕ) → ℕ → Verdict
storage_after rows i members zero = ok_verdict min_storage
storage_after rows i members (suc j) =
    member_storage i j (member_type members j) (member_offset members j) (rows (member_type members j)) (storage_after rows i members j)

unfoldable pub immediates_after : (rows : ℕ → Row) (members : List ℕ) → ℕ → ℕ
immediates_after rows members zero = 0
immediates_after rows members (suc j) = member_immediates (rows (member_type members j)).immediates (immediates_after rows members j)
