-- What the verdicts of a struct's members are made of: the rows of their types, and what the records of types that are CREATION_RESOLVED say.
-- Assumes nothing.
use mathlib.Core.Path.{◌≡◌, refl}
use mathlib.Core.List.{List}
use Prim.Native.Nat.{ℕ, zero, suc, ◌≤◌, ◌<◌}
use native.Mathlib.Omega.{arith}
use lib.Dec.{T}
use Rattle.ir_records.specs.Record.{member_type}
use Rattle.ir_records.specs.declared.TypeInner.{TypeInner}
use Rattle.valid_flags.specs.Flags.{bit, creation_resolved_bit}
use Rattle.valid_type_info.specs.declared.Row.{Row}
use Rattle.valid_type_info.proofs.VerdictLaws.{previous_inner}
use Rattle.valid_member_rules.specs.MemberRules.{uniform_after, storage_after, immediates_after}

-- ---- two tables of rows that agree on the members' types
module _ (rows rows' : ℕ → Row) (members : List ℕ) (n : ℕ) (same : (j : ℕ) → j < n → rows (member_type members j) ≡ rows' (member_type members j)) where
  -- give the same uniform verdict
  pub uniform_rows : (least : ℕ) (inner : ℕ → TypeInner) (i j : ℕ) → j ≤ n
      → uniform_after least inner rows i members j ≡ uniform_after least inner rows' i members j
  unfolding uniform_after
  uniform_rows least inner i zero h = refl
  uniform_rows least inner i (suc j) h = rw (uniform_rows least inner i j (omega arith), same j h) refl

  -- give the same storage verdict
  pub storage_rows : (i j : ℕ) → j ≤ n → storage_after rows i members j ≡ storage_after rows' i members j
  unfolding storage_after
  storage_rows i zero h = refl
  storage_rows i (suc j) h = rw (storage_rows i j (omega arith), same j h) refl

  -- give the same immediates word
  pub immediates_rows : (j : ℕ) → j ≤ n → immediates_after rows members j ≡ immediates_after rows' members j
  unfolding immediates_after
  immediates_rows zero h = refl
  immediates_rows (suc j) h = rw (immediates_rows j (omega arith), same j h) refl

-- ---- two readings of the records that agree on the types that are CREATION_RESOLVED
module _ (inner inner' : ℕ → TypeInner) (rows : ℕ → Row) (members : List ℕ)
    (same : (k : ℕ) → T (bit (rows k).flags creation_resolved_bit) → inner k ≡ inner' k) where
  -- the uniform verdicts are the same, where the members are resolved
  pub uniform_inner : (least i j : ℕ) → ((m : ℕ) → m < j → T (bit (rows (member_type members m)).flags creation_resolved_bit))
      → uniform_after least inner rows i members j ≡ uniform_after least inner' rows i members j
  unfolding uniform_after
  uniform_inner least i zero r = refl
  uniform_inner least i (suc j) r =
      rw (uniform_inner least i j (λ m h. r m (omega arith)), previous_inner inner inner' members j (λ m h. same (member_type members m) (r m (omega arith)))) refl
