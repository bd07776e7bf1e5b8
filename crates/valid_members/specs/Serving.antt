-- Serves the contracts of functions inside the library: it adds nothing to what the other files say, and a reader may skip it.
-- 01, 'The result row': a struct, member by member. What the code carries from member to member, by the rules of one member
-- (valid_member_rules: MemberRules), and what it answers. `rows` are the rows of the types before type i.
-- Assumes nothing.
use Rattle.std.specs.Prelude as std
use Rattle.std.specs.Prelude.{Option, Some, None, Bool, true, false, ◌&&◌, List, ◌≡◌, ℕ, ◌≤◌, eqb}
use Rattle.ir_records.specs.Result.{Result, err, ok, pick, and_then}
use Rattle.ir_records.specs.Record.{type_inner}
use Rattle.ir_records.specs.Refusal.{number_of}
use Rattle.ir_records.specs.declared.TypeRefusal.{TypeRefusal}
use Rattle.ir_records.specs.declared.TypeInner.{TypeInner}
use Rattle.valid_flags.specs.Flags.{is_sized_data}
use Rattle.valid_type_info.specs.declared.PreviousStruct.{PreviousStruct}
use Rattle.valid_type_info.specs.declared.Row.{Row}
use Rattle.valid_type_info.specs.declared.StructType.{StructType}
use Rattle.valid_type_info.specs.declared.MemberAt.{MemberAt}
use Rattle.valid_type_info.specs.TypeInfo.{row_sizes, row_flags, rows_in}
use Rattle.valid_type_info.specs.declared.Verdict.{Verdict}
use Rattle.valid_type_info.specs.Verdict.{ok_verdict, is_ok, struct_at, previous_of, distance_ok}
use Rattle.valid_member_bounds.specs.MemberBounds.{is_array, bounds_by, bounds_after}
use Rattle.valid_member_rules.specs.MemberRules.{member_uniform, member_storage, member_immediates, uniform_after, storage_after, immediates_after}
use Rattle.valid_members.specs.declared.State.{State}
use Rattle.valid_members_plain.specs.declared.Reached.{Reached}
use Rattle.valid_members_plain.specs.Serving.{uniform_so_far, HasFailed}

-- after j members
unfoldable pub state_after : (least : ℕ) (inner : ℕ → TypeInner) (rows : ℕ → Row) (i count span : ℕ) (members : List ℕ) → ℕ → Result State
state_after least inner rows i count span members j =
    and_then (bounds_after inner (row_sizes rows) (row_flags rows) count span members j)
    (λ b. ok (record {
      bounds = b;
      uniform = uniform_after least inner rows i members j;
      storage = storage_after rows i members j;
      immediates = immediates_after rows members j;
      previous = previous_of inner members j;
    }))

-- from the state before member j to the one after it. array, next: `is_array` and `struct_at` of its type
unfoldable pub member_step : (least i count span j t offset : ℕ) (array : Bool) (next : Option PreviousStruct) → Row → State → Result State
member_step least i count span j t offset array next r s =
    and_then (bounds_by count span (distance_ok s.previous offset) array offset j r.size r.flags s.bounds)
    (λ b. ok (record {
      bounds = b;
      uniform = member_uniform least i j t offset s.previous r s.uniform;
      storage = member_storage i j t offset r s.storage;
      immediates = member_immediates r.immediates s.immediates;
      previous = next;
    }))

-- a member that breaks no rule of bounds but that of the distance: it begins at the running end or past it and ends within the span
pub record InOrder (flags running offset end span : ℕ) : Type 0 where
  pub sized_data : is_sized_data flags ≡ true
  pub apart : running ≤ offset
  pub inside : end ≤ span

-- what is taken as a member in order is the member's step; nothing is said of a member that is passed on
abbrev pub ordered_step : Option State → Result State → Type 0
ordered_step (Some s) step = step ≡ ok s
ordered_step None step = Unit {0}

-- what the code answers of all members: the parts of the state after them, but for the member right before, or the refusal
abbrev pub Told : (least : ℕ) (inner : ℕ → TypeInner) (rows : ℕ → Row) (i count span : ℕ) (part : List ℕ) → std.Result State TypeRefusal → Type 0
Told least inner rows i count span part (std.Ok s) =
    (bounds_after inner (row_sizes rows) (row_flags rows) count span part count ≡ ok s.bounds)
    × (uniform_after least inner rows i part count ≡ s.uniform)
    × (storage_after rows i part count ≡ s.storage)
    × (immediates_after rows part count ≡ s.immediates)
Told least inner rows i count span part (std.Err r) = bounds_after inner (row_sizes rows) (row_flags rows) count span part count ≡ err (number_of r.fault) r.member r.detail

-- the alignment in a verdict; none where it has failed
abbrev pub alignment_of : Verdict → Option ℕ
alignment_of v = pick (is_ok v) (Some v.ty) None

-- a uniform verdict with which the loop of plain members goes on: it is Ok and holds nothing but its alignment, or it has failed
abbrev pub UniformFits : Verdict → Type 0
UniformFits u = (uniform_so_far (alignment_of u) u ≡ u) × HasFailed (alignment_of u) u

-- the same of the uniform verdict u and the storage verdict s
abbrev pub PlainFits : (u s : Verdict) → Type 0
PlainFits u s = UniformFits u × (s ≡ ok_verdict s.ty)

-- what is known of the state after some members is known after those that were taken since
abbrev pub GoesOn : (least : ℕ) (inner : ℕ → TypeInner) (rows : ℕ → Row) (i count span : ℕ) (members : List ℕ) → (from to : Reached State) → Type 0
GoesOn least inner rows i count span members from to =
    state_after least inner rows i count span members from.taken ≡ ok from.state
    → state_after least inner rows i count span members to.taken ≡ ok to.state

-- ---- the same of a struct with what its rules read
abbrev pub state_in : (least : ℕ) → StructType → ℕ → Result State
state_in least s = state_after least (type_inner (s.types.now)) (rows_in (s.before.rows.now)) (s.before.i) (s.part.count) (s.span) (s.part.words.now)

-- the step of its member m, as one of so many
abbrev pub step_in : (least : ℕ) → StructType → (count : ℕ) → MemberAt → State → Result State
step_in least s count m =
    let inner = type_inner (s.types.now) m.t in
    member_step least m.i count (s.span) m.j m.t m.offset (is_array inner) (struct_at inner m.offset) (rows_in (s.before.rows.now) m.t)

abbrev pub ToldIn : (least : ℕ) → StructType → std.Result State TypeRefusal → Type 0
ToldIn least s = Told least (type_inner (s.types.now)) (rows_in (s.before.rows.now)) (s.before.i) (s.part.count) (s.span) (s.part.words.now)

abbrev pub GoesOnIn : (least : ℕ) → StructType → (from to : Reached State) → Type 0
GoesOnIn least s = GoesOn least (type_inner (s.types.now)) (rows_in (s.before.rows.now)) (s.before.i) (s.part.count) (s.span) (s.part.words.now)
