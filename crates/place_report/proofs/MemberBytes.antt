-- Laws of the loop over the members of a struct.
-- Assumes nothing.
use mathlib.Core.Path.{◌≡◌, refl, sym, subst}
use mathlib.Core.List.{List}
use Prim.Native.Nat.{ℕ, ◌*◌, ◌^◌, ◌≤◌, ◌<◌}
use native.Mathlib.Decide.{le_ind}
use Rattle.ir_records.specs.Record.{member_type}
use Rattle.std.specs.Prelude.{Option, Some, None}
use Rattle.place_report.specs.Serving.{entry_in, members_bytes, SmallBytes, Small}

-- a small entry, by what stands there
pub small_entry : (words : List ℕ) → Small words → (k bytes : ℕ) → entry_in words k ≡ Some bytes → bytes < 2 ^ 32
small_entry words small k bytes e = subst SmallBytes e (small k)

-- where the loop stands after j members: none is narrow, and they carry `total`
pub record Adding (earlier : ℕ → Option ℕ) (members : List ℕ) (count j total : ℕ) : Type 0 where
  pub within : j ≤ count
  pub same : members_bytes earlier members j ≡ Some total
  pub few : total ≤ j * 4294967295

-- a narrow member: so is the struct
pub adding_narrow : (earlier : ℕ → Option ℕ) (members : List ℕ) (count j total : ℕ) → Adding earlier members count j total → j < count
    → earlier (member_type members j) ≡ None → None ≡ members_bytes earlier members count
unfolding members_bytes
adding_narrow earlier members count j total a l e =
    sym (le_ind (λ (m : ℕ). members_bytes earlier members m ≡ None) (rw (a.same, e) refl) (λ m k p. rw p refl) count l)
