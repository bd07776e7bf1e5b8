-- Laws of the loop over a struct's members, and of the size of an array.
-- Assumes nothing.
use mathlib.Core.Path.{◌≡◌, refl}
use mathlib.Core.Bool.{Bool, true, false}
use mathlib.Core.List.{List}
use Prim.Native.Nat.{ℕ, ◌+◌, ◌<◌}
use native.Mathlib.Decide.{le_ind}
use native.Mathlib.Numerals.{add-one}
use native.Mathlib.Omega.{arith}
use Rattle.std.specs.Prelude.{Some, None}
use Rattle.std.specs.Bool.{then_some}
use Rattle.ir_records.specs.Result.{Result, err, ok, pick}
use Rattle.ir_records.specs.Record.{member_type, member_offset}
use Rattle.ir_records.specs.declared.TypeInner.{TypeInner}
use Rattle.valid_type_info.specs.Verdict.{struct_at, previous_of}
use Rattle.valid_member_bounds.specs.declared.Bounds.{Bounds}
use Rattle.valid_member_bounds.specs.MemberBounds.{member_bounds, bounds_after}

-- the size of an array by its record's form
pub size_told : (b : Bool) (count : ℕ) → then_some b count ≡ pick b (Some count) None
size_told true count = refl
size_told false count = refl

-- nothing is asked where the sources are looked at in any case
pub not_false_too : true ≡ false → ⊥
not_false_too e = let z : ◌≡◌ {A = ℕ} 0 1 = cc in omega arith

module _ (inner : ℕ → TypeInner) (sizes flags : ℕ → ℕ) (count span : ℕ) (part : List ℕ) (j : ℕ) where
  -- the struct right before the next member
  pub previous_next : previous_of inner part (j + 1) ≡ struct_at (inner (member_type part j)) (member_offset part j)
  unfolding previous_of
  previous_next = rw (add-one j) refl

  abbrev step : Bounds → Result Bounds
  step = member_bounds count span (previous_of inner part j) (inner (member_type part j)) (member_offset part j) j (sizes (member_type part j)) (flags (member_type part j))

  module _ (b : Bounds) (so_far : bounds_after inner sizes flags count span part j ≡ ok b) where
    pub member_taken : (next : Bounds) → step b ≡ ok next → bounds_after inner sizes flags count span part (j + 1) ≡ ok next
    unfolding bounds_after
    member_taken next e = rw (add-one j, so_far) e

    -- a refusal stays
    pub member_refused : (number member detail : ℕ) → step b ≡ err number member detail → (n : ℕ) → j < n
        → bounds_after inner sizes flags count span part n ≡ err number member detail
    unfolding bounds_after
    member_refused number member detail e n h =
        le_ind (λ (m : ℕ). bounds_after inner sizes flags count span part m ≡ err number member detail) (rw so_far e) (λ m k p. rw p refl) n h
