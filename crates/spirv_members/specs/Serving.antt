-- Serves the contracts of functions inside the library: it adds nothing to what the other files say, and a reader may skip it.
-- Assumes nothing.
use Rattle.std.specs.Prelude.{◌≡◌, Bool, true, false, not, List, Option, Some, None, ℕ, zero, suc, ◌+◌, max, eqb, get_or, T}
use Rattle.std.specs.Prelude as std
use lib.Dec.{T_prop}
use Rattle.std.specs.Coded.{Π_prop, Unit-prop, le_prop}
use Rattle.ir_records.specs.Result.{Result, err, ok, pick, require}
use Rattle.ir_records.specs.declared.Fault.{Fault}
use Rattle.ir_records.specs.declared.Fault.TheVariants.{ModuleType}
use Rattle.ir_records.specs.Refusal.{number_of}
use Rattle.spirv_ids.specs.Sorts.{Sort}
use Rattle.spirv_members.specs.Members.{is_other, is_type_read, number_of as number_in, member_number, offset_at, offset_of, member_unsupported, members_unsupported, member_sound, members_sound, size_in, last_end}
use Rattle.spirv_members.specs.declared.Member.{Member}
use Rattle.spirv_members.specs.declared.Members.{Members}
use Rattle.ir_records.specs.declared.Leaf.{Leaf}
use Rattle.ir_records.specs.declared.Leaf.TheVariants.{Scalar, Vector, Matrix, CooperativeMatrix, Atomic, RayQuery}
use Rattle.ir_records.specs.declared.TypeInner.{TypeInner}
use Rattle.ir_records.specs.declared.TypeInner.TheVariants.{Plain, Array, RuntimeArray, Struct, Other}
use Rattle.ir_records.specs.Record.{type_inner}
use Rattle.ir_records.specs.Fields.{cooperative_size_ok}
use Rattle.ir_records.specs.Serving.{LeafBounds, InnerBounds}

-- ---- what the code's loop makes: the largest alignment of the first j members
unfoldable pub largest_alignment : (ws al : List ℕ) (at j : ℕ) → ℕ
largest_alignment ws al at zero = 1
largest_alignment ws al at (suc j) = max (largest_alignment ws al at j) (get_or al (member_number ws at j) 0)

-- ---- what the code answers
abbrev pub faulted : {A : Type 0} → std.Result A Fault → Result A
faulted (std.Ok a) = ok a
faulted (std.Err fault) = err (number_of fault) 0 0

-- 29 before 30
abbrev pub type_named : Sort → Result ℕ
type_named s = require (not (is_other s)) 29 0 0 (require (is_type_read s) 30 0 0 (ok (number_in s)))

-- the number; none for what is no type
abbrev pub type_in : Sort → std.Result (Option ℕ) Fault
type_in s = pick (is_other s) (std.Err ModuleType) (std.Ok (pick (is_type_read s) (Some (number_in s)) None))

abbrev pub offset_found : (ws : List ℕ) (at j : ℕ) → Option ℕ
offset_found ws at j = pick (eqb (offset_at ws at j) 0) None (Some (offset_of ws at j))

-- a column step, 0 for none
abbrev pub StepIs : ℕ → Option ℕ → Type 0
StepIs step (Some s) = s ≡ step
StepIs step None = 0 ≡ step

-- member j
abbrev pub member_given : (ws : List ℕ) (at j : ℕ) → Member
member_given ws at j = record { number = member_number ws at j; offset = offset_of ws at j }

-- member j by the number of its type
abbrev pub with_offset : (ws : List ℕ) (at j number : ℕ) → Option Member
with_offset ws at j number = pick (eqb (offset_at ws at j) 0) None (Some (record { number = number; offset = offset_of ws at j }))

abbrev pub member_found : (ws : List ℕ) (at j : ℕ) → Option Member
member_found ws at j = pick (member_sound ws at j) (Some (member_given ws at j)) None

abbrev pub member_made : (ws ts : List ℕ) (at j : ℕ) → std.Result (Option Member) Fault
member_made ws ts at j =
    pick (member_unsupported ws ts at j) (std.Err ModuleType) (std.Ok (member_found ws at j))

abbrev pub with_member : (ts al : List ℕ) → Members → Member → Members
with_member ts al before m = record { alignment = max before.alignment (get_or al m.number 0); end = m.offset + size_in ts m.number }

abbrev pub joined : (ts al : List ℕ) → Option Members → Option Member → Option Members
joined ts al None m = None
joined ts al (Some before) None = None
joined ts al (Some before) (Some m) = Some (with_member ts al before m)

-- the first j members
abbrev pub members_seen : (ws ts al : List ℕ) (at j : ℕ) → Members
members_seen ws ts al at j = record { alignment = largest_alignment ws al at j; end = last_end ws ts at j }

abbrev pub members_made : (ws ts al : List ℕ) (at j : ℕ) → Result Members
members_made ws ts al at j =
    require (not (members_unsupported ws ts at j)) 29 0 0 (require (members_sound ws at j) 30 0 0 (ok (members_seen ws ts al at j)))

-- ---- what the code's sums rest on: the fields of each record lie within their bounds
abbrev pub Bounded : (ts : List ℕ) → Type 0
Bounded ts = (t : ℕ) → InnerBounds (type_inner ts t)

-- which has at most one proof
LeafBounds-prop : (leaf : Leaf) → IsProp (LeafBounds leaf)
LeafBounds-prop (Scalar kind width) x y = le_prop x y
LeafBounds-prop (Vector size kind width) x y = λ i. (le_prop x.0 y.0 i, le_prop x.1 y.1 i)
LeafBounds-prop (Matrix columns rows kind width) x y = λ i. (le_prop x.0 y.0 i, le_prop x.1 y.1 i, le_prop x.2 y.2 i)
LeafBounds-prop (CooperativeMatrix columns rows kind width role) x y =
    λ i. (T_prop (cooperative_size_ok columns) x.0 y.0 i, T_prop (cooperative_size_ok rows) x.1 y.1 i, le_prop x.2 y.2 i)
LeafBounds-prop (Atomic kind width) x y = le_prop x y
LeafBounds-prop (RayQuery v) x y = Unit-prop x y

InnerBounds-prop : (inner : TypeInner) → IsProp (InnerBounds inner)
InnerBounds-prop (Plain leaf) = LeafBounds-prop leaf
InnerBounds-prop (Array base count stride) = Unit-prop
InnerBounds-prop (RuntimeArray base stride) = Unit-prop
InnerBounds-prop (Struct count span) = Unit-prop
InnerBounds-prop (Other o) = Unit-prop

pub Bounded-prop : (ts : List ℕ) → IsProp (Bounded ts)
Bounded-prop ts = Π_prop (λ t. InnerBounds-prop (type_inner ts t))
