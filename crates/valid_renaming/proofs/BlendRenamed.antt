-- The blend sources of a struct that is accepted in two arenas, with the type numbers renamed: they add the same flag. That their types are
-- alike is asked where they are judged, and no more of them is compared here: whether two numbers are equal may change under a renaming.
-- Assumes nothing.
use mathlib.Core.Path.{◌≡◌, refl, sym, ◌∙◌}
use mathlib.Core.List.{List}
use Prim.Native.Nat.{ℕ, zero, suc, ◌≤◌, ◌<◌}
use native.Mathlib.Nat.{le_refl}
use native.Mathlib.Omega.{arith}
use Rattle.ir_records.specs.Result.{ok}
use Rattle.ir_records.specs.Record.{member_source}
use Rattle.ir_records.specs.declared.TypeInner.{TypeInner}
use Rattle.ir_records.proofs.ResultLaws.{ok_inj}
use Rattle.valid_blend.specs.Blend.{source_at, other_location, pair_result, struct_blend}
use Rattle.valid_blend.proofs.BlendLaws.{pair_flags}

module _ (members members' : List ℕ) (n : ℕ) (sources : (j : ℕ) → j < n → member_source members' j ≡ member_source members j) where
  -- the same members are sources
  source_renamed : (word j : ℕ) → j ≤ n → source_at members' word j ≡ source_at members word j
  unfolding source_at
  source_renamed word zero h = refl
  source_renamed word (suc j) h = rw (source_renamed word j (omega arith), sources j h) refl

  -- so the flags are the same
  pub blend_renamed : (inner inner' : ℕ → TypeInner) (flags flags' : ℕ → ℕ) (left a b : ℕ)
      → struct_blend inner flags members n left ≡ ok a → struct_blend inner' flags' members' n left ≡ ok b → b ≡ a
  unfolding struct_blend
  blend_renamed inner inner' flags flags' left a b p q =
      go (source_at members 1 n) (source_at members 2 n) p (rw (source_renamed 1 n (le_refl n), source_renamed 2 n (le_refl n)) at q)
    where
      go : (x y : ℕ) → pair_result inner flags members (other_location members n) left x y ≡ ok a
          → pair_result inner' flags' members' (other_location members' n) left x y ≡ ok b → b ≡ a
      go zero zero p q = ok_inj (sym q ∙ p)
      go zero (suc y) p q = let z : ◌≡◌ {A = ℕ} 0 1 = cc in absurd (omega arith)
      go (suc x) zero p q = let z : ◌≡◌ {A = ℕ} 0 1 = cc in absurd (omega arith)
      go (suc x) (suc y) p q =
          pair_flags inner' flags' members' (other_location members' n) left x y b q
          ∙ sym (pair_flags inner flags members (other_location members n) left x y a p)
