-- Serves the contracts of functions inside the library: it adds nothing to what the other files say, and a reader may skip it.
-- 01, 'The result row': members of a struct one after the other, as long as none breaks a rule, by the rules of one member (valid_member_rules:
-- MemberRules). `rows` are the rows of the types before type i.
-- Assumes nothing.
use Rattle.std.specs.Prelude.{Option, Some, None, Bool, false, ◌&&◌, List, ◌≡◌, ℕ, ◌+◌, max, eqb}
use Rattle.ir_records.specs.Result.{ok}
use Rattle.ir_records.specs.Record.{type_inner}
use Rattle.ir_records.specs.declared.TypeInner.{TypeInner}
use Rattle.proc_alignment.specs.Alignment.{is_mask, is_aligned, round_up}
use Rattle.valid_type_info.specs.declared.PreviousStruct.{PreviousStruct}
use Rattle.valid_type_info.specs.declared.Row.{Row}
use Rattle.valid_type_info.specs.declared.StructType.{StructType}
use Rattle.valid_type_info.specs.TypeInfo.{row_sizes, row_flags, rows_in}
use Rattle.valid_type_info.specs.declared.Verdict.{Verdict}
use Rattle.valid_type_info.specs.Verdict.{min_uniform, ok_verdict, is_ok, alignment_in, struct_at, previous_of}
use Rattle.valid_member_bounds.specs.declared.Bounds.{Bounds}
use Rattle.valid_member_bounds.specs.MemberBounds.{member_bounds, bounds_after}
use Rattle.valid_member_rules.specs.MemberRules.{member_uniform, member_storage, uniform_after, storage_after, immediates_after}
use Rattle.valid_members_plain.specs.declared.PlainState.{PlainState}

-- where a member may begin that overlaps none before it and keeps the distance from a struct right before it
abbrev pub least_of : (end : ℕ) → Option PreviousStruct → ℕ
least_of end None = end
least_of end (Some before) = max end (before.offset + round_up min_uniform before.span)

-- a member with this row leaves both verdicts Ok and brings no immediates word
abbrev pub keeps_verdicts : Row → (offset : ℕ) → Bool
keeps_verdicts r offset =
    (is_ok r.uniform && is_ok r.storage && eqb r.immediates 0)
    && (is_mask (alignment_in r.uniform) && is_aligned (alignment_in r.uniform) offset)
    && (is_mask (alignment_in r.storage) && is_aligned (alignment_in r.storage) offset)

-- a member with this row leaves the storage verdict Ok and brings no immediates word
abbrev pub keeps_storage : Row → (offset : ℕ) → Bool
keeps_storage r offset =
    (is_ok r.storage && eqb r.immediates 0) && (is_mask (alignment_in r.storage) && is_aligned (alignment_in r.storage) offset)

-- ---- the loop keeps both verdicts Ok, or the storage verdict alone, where the uniform one has failed and stays
-- uniform: the alignment in the uniform verdict so far; none where it has failed
abbrev pub keeps : (uniform : Option ℕ) → Row → (offset : ℕ) → Bool
keeps (Some alignment) r offset = keeps_verdicts r offset
keeps None r offset = keeps_storage r offset

-- the same after a member with this one
abbrev pub alignment_after : (uniform : Option ℕ) → (own : ℕ) → Option ℕ
alignment_after (Some alignment) own = Some (max alignment own)
alignment_after None own = None

-- the uniform verdict so far: Ok with this alignment, or the one that has failed
abbrev pub uniform_so_far : (uniform : Option ℕ) → (failed : Verdict) → Verdict
uniform_so_far (Some alignment) failed = ok_verdict alignment
uniform_so_far None failed = failed

abbrev pub HasFailed : (uniform : Option ℕ) → Verdict → Type 0
HasFailed (Some alignment) u = Unit {0}
HasFailed None u = is_ok u ≡ false

-- the running end and the flags
abbrev pub plain_bounds : PlainState → Bounds
plain_bounds s = record { end = s.end; flags = s.flags }

-- what is taken as a plain member is the member's step, by each rule; nothing is said of a member that is passed on.
-- u: the uniform verdict that has failed, where one has; this: what the record of its type says
abbrev pub Stepped : (least : ℕ) (u : Verdict) (this : TypeInner) (r : Row) (i count span j t offset : ℕ) → Option PreviousStruct → PlainState → Option PlainState → Type 0
Stepped least u this r i count span j t offset before s (Some next) =
    (member_bounds count span before this offset j r.size r.flags (plain_bounds s) ≡ ok (plain_bounds next))
    × (member_uniform least i j t offset before r (uniform_so_far s.uniform u) ≡ uniform_so_far next.uniform u)
    × HasFailed next.uniform u
    × (member_storage i j t offset r (ok_verdict s.storage) ≡ ok_verdict next.storage)
    × (r.immediates ≡ 0)
    × (least_of next.end (struct_at this offset) ≡ next.least)
Stepped least u this r i count span j t offset before s None = Unit {0}

-- what is known after j members: the uniform verdict u, the immediates word, the rest in s
abbrev pub PlainAfter : (least : ℕ) (inner : ℕ → TypeInner) (rows : ℕ → Row) (i count span : ℕ) (members : List ℕ) (j : ℕ) (u : Verdict) (immediates : ℕ) → PlainState → Type 0
PlainAfter least inner rows i count span members j u immediates s =
    (bounds_after inner (row_sizes rows) (row_flags rows) count span members j ≡ ok (plain_bounds s))
    × (uniform_after least inner rows i members j ≡ u)
    × (storage_after rows i members j ≡ ok_verdict s.storage)
    × (immediates_after rows members j ≡ immediates)
    × (least_of s.end (previous_of inner members j) ≡ s.least)

-- ---- the same of a struct with what its rules read
abbrev pub StepsIn : (least : ℕ) (u : Verdict) → StructType → (count j t offset : ℕ) → Option PreviousStruct → PlainState → Option PlainState → Type 0
StepsIn least u s count j t offset = Stepped least u (type_inner (s.types.now) t) (rows_in (s.before.rows.now) t) (s.before.i) count (s.span) j t offset

abbrev pub PlainIn : (least : ℕ) → StructType → (j : ℕ) (u : Verdict) (immediates : ℕ) → PlainState → Type 0
PlainIn least s = PlainAfter least (type_inner (s.types.now)) (rows_in (s.before.rows.now)) (s.before.i) (s.part.count) (s.span) (s.part.words.now)
