-- A struct's uniform verdict by the minimum alignment of storage: where the members' own uniform verdicts are their storage verdicts it is the storage
-- verdict, as long as each member is SIZED; a last member that is not puts code 5 in the place of Ok.
-- Assumes nothing.
use mathlib.Core.Path.{◌≡◌, refl, ◌∙◌}
use mathlib.Core.Bool.{true, false}
use mathlib.Core.List.{List}
use Prim.Native.Nat.{ℕ, zero, suc, ◌<◌}
use native.Mathlib.Omega.{arith}
use Rattle.ir_records.specs.Record.{member_type, member_offset}
use Rattle.ir_records.specs.declared.TypeInner.{TypeInner}
use Rattle.valid_flags.specs.Flags.{bit, sized_bit}
use Rattle.valid_type_info.specs.declared.Row.{Row}
use Rattle.valid_type_info.specs.Verdict.{min_storage, unless_ok, unsized_member, unsized_verdict, previous_of}
use Rattle.valid_type_info.proofs.DistanceLaws.{no_distance}
use Rattle.valid_member_rules.specs.MemberRules.{uniform_after, storage_after}

module _ (inner : ℕ → TypeInner) (rows : ℕ → Row) (i : ℕ) (members : List ℕ) where
  -- one member more, whose own uniform verdict is its storage verdict
  member_newer : (j : ℕ) → (rows (member_type members j)).uniform ≡ (rows (member_type members j)).storage
      → uniform_after min_storage inner rows i members j ≡ storage_after rows i members j
      → uniform_after min_storage inner rows i members (suc j)
      ≡ unsized_verdict (bit (rows (member_type members j)).flags sized_bit) i j (storage_after rows i members (suc j))
  unfolding uniform_after storage_after
  member_newer j own before = rw (no_distance i j (member_offset members j) (previous_of inner members j), own, before) refl

  -- the first j members are SIZED
  pub sized_newer : (j : ℕ) → ((m : ℕ) → m < j → (rows (member_type members m)).uniform ≡ (rows (member_type members m)).storage)
      → ((m : ℕ) → m < j → bit (rows (member_type members m)).flags sized_bit ≡ true)
      → uniform_after min_storage inner rows i members j ≡ storage_after rows i members j
  unfolding uniform_after storage_after unsized_verdict
  sized_newer zero own sized = refl
  sized_newer (suc j) own sized =
      member_newer j (own j (omega arith)) (sized_newer j (λ m h. own m (omega arith)) (λ m h. sized m (omega arith)))
      ∙ rw (sized j (omega arith)) refl

  -- and member j is not
  pub unsized_newer : (j : ℕ) → ((m : ℕ) → m < suc j → (rows (member_type members m)).uniform ≡ (rows (member_type members m)).storage)
      → ((m : ℕ) → m < j → bit (rows (member_type members m)).flags sized_bit ≡ true)
      → bit (rows (member_type members j)).flags sized_bit ≡ false
      → uniform_after min_storage inner rows i members (suc j) ≡ unless_ok (storage_after rows i members (suc j)) (unsized_member i j)
  unfolding unsized_verdict
  unsized_newer j own sized last =
      member_newer j (own j (omega arith)) (sized_newer j (λ m h. own m (omega arith)) sized)
      ∙ rw last refl
