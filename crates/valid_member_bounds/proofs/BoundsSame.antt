-- What a struct's members are accepted by: sizes and flags of their types, and what the records of types that are CREATION_RESOLVED say.
-- Assumes nothing.
use mathlib.Core.Path.{◌≡◌, refl}
use mathlib.Core.List.{List}
use Prim.Native.Nat.{ℕ, zero, suc, ◌≤◌, ◌<◌}
use native.Mathlib.Omega.{arith}
use lib.Dec.{T}
use Rattle.ir_records.specs.Result.{ok}
use Rattle.ir_records.specs.Record.{member_type, member_offset}
use Rattle.ir_records.specs.declared.TypeInner.{TypeInner}
use Rattle.ir_records.proofs.ResultLaws.{and_then_ok}
use Rattle.valid_flags.specs.Flags.{bit, creation_resolved_bit}
use Rattle.valid_type_info.specs.Verdict.{previous_of}
use Rattle.valid_type_info.proofs.VerdictLaws.{previous_inner}
use Rattle.valid_member_bounds.specs.declared.Bounds.{Bounds}
use Rattle.valid_member_bounds.specs.MemberBounds.{bounds_after}
use Rattle.valid_member_bounds.proofs.BoundsLaws.{member_taken, members-in}

-- ---- sizes and flags that agree on the members' types
module _ (sizes sizes' flags flags' : ℕ → ℕ) (members : List ℕ) (n : ℕ)
    (same_size : (j : ℕ) → j < n → sizes (member_type members j) ≡ sizes' (member_type members j))
    (same_flags : (j : ℕ) → j < n → flags (member_type members j) ≡ flags' (member_type members j)) where
  -- give the same acceptance and flags
  pub bounds-read : (inner : ℕ → TypeInner) (count span j : ℕ) → j ≤ n
      → bounds_after inner sizes flags count span members j ≡ bounds_after inner sizes' flags' count span members j
  unfolding bounds_after
  bounds-read inner count span zero h = refl
  bounds-read inner count span (suc j) h = rw (bounds-read inner count span j (omega arith), same_size j h, same_flags j h) refl

-- ---- two readings of the records that agree on the types that are CREATION_RESOLVED
module _ (inner inner' : ℕ → TypeInner) (sizes flags : ℕ → ℕ) (members : List ℕ)
    (same : (k : ℕ) → T (bit (flags k) creation_resolved_bit) → inner k ≡ inner' k) where
  -- members that are accepted by the one are accepted by the other
  pub bounds-inner : (count span j : ℕ) (b : Bounds) → bounds_after inner sizes flags count span members j ≡ ok b
      → bounds_after inner' sizes flags count span members j ≡ ok b
  unfolding bounds_after
  bounds-inner count span zero b e = e
  bounds-inner count span (suc j) b e =
      let a = and_then_ok (bounds_after inner sizes flags count span members j) _ b e in
      let t = member_taken count span (previous_of inner members j) (inner (member_type members j)) (member_offset members j) j (sizes (member_type members j)) (flags (member_type members j)) a.0 b a.2 in
      let p = previous_inner inner inner' members j (λ m h. same (member_type members m) (members-in inner sizes flags count span members j a.0 a.1 m h).resolved) in
      rw (bounds-inner count span j a.0 a.1, ← p, ← same (member_type members j) t.resolved) a.2
