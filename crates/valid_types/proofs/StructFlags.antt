-- The flags of an accepted struct: its members are accepted, its blend sources pass, and the rule after the last member gives the flags.
-- Assumes nothing.
use mathlib.Core.Path.{◌≡◌, refl, ap}
use mathlib.Core.List.{List}
use Prim.Native.Nat.{ℕ, ◌<◌}
use native.Mathlib.Nat.{le_refl}
use lib.Dec.{T, ltb}
use Rattle.ir_records.specs.Result.{Result, err, ok, require, and_then}
use Rattle.ir_records.specs.Record.{member_source}
use Rattle.ir_records.specs.declared.TypeInner.{TypeInner}
use Rattle.ir_records.specs.declared.TypeInner.TheVariants.{Struct}
use Rattle.ir_records.proofs.ResultLaws.{required, and_then_ok, T_true}
use Rattle.valid_flags.specs.Flags.{bit}
use Rattle.valid_width.specs.Width.{dual_source_blending}
use Rattle.valid_member_bounds.specs.declared.Bounds.{Bounds}
use Rattle.valid_member_bounds.specs.MemberBounds.{bounds_after}
use Rattle.valid_blend.specs.Blend.{blended_after, struct_blend}
use Rattle.valid_blend.proofs.BlendLaws.{Pass, blended_ok, ok_blended, no_source, no_blend}
use Rattle.valid_types.specs.ValidateType.{flags_of}

pub record StructFlags (c : ℕ) (inner : ℕ → TypeInner) (sizes flags : ℕ → ℕ) (count span : ℕ) (members : List ℕ) (f : ℕ) : Type 0 where
  pub nonempty : T (ltb 0 count)
  pub after : Bounds
  pub accepted : bounds_after inner sizes flags count span members count ≡ ok after
  pub pass : Pass (bit c dual_source_blending) members count
  pub blend : struct_blend inner flags members count after.flags ≡ ok f

module _ (c : ℕ) (inner : ℕ → TypeInner) (sizes flags : ℕ → ℕ) (count span : ℕ) (members : List ℕ) (f : ℕ) where
  pub struct_flags : flags_of c inner sizes flags (Struct count span) members ≡ ok f → StructFlags c inner sizes flags count span members f
  unfolding flags_of
  struct_flags e =
      let a = required (ltb 0 count) 16 0 0 _ f e in
      let b = and_then_ok (blended_after (bit c dual_source_blending) inner sizes flags count span members count) _ f a.1 in
      let s = blended_ok (bit c dual_source_blending) inner sizes flags count span members count b.0 b.1 in
      record { nonempty = a.0; after = b.0; accepted = s.0; pass = s.1; blend = b.2 }

  pub flags_struct : StructFlags c inner sizes flags count span members f → flags_of c inner sizes flags (Struct count span) members ≡ ok f
  unfolding flags_of
  flags_struct s =
      rw (T_true (ltb 0 count) s.nonempty, ok_blended (bit c dual_source_blending) inner sizes flags count span members count s.after s.accepted s.pass) s.blend

  -- ---- a struct without blend sources has the former flags or refusal
  pub former-flags : ((m : ℕ) → m < count → member_source members m ≡ 0)
      → flags_of c inner sizes flags (Struct count span) members
      ≡ require (ltb 0 count) 16 0 0 (and_then (bounds_after inner sizes flags count span members count) (λ b. ok b.flags))
  unfolding flags_of
  former-flags none =
      rw (no_source (bit c dual_source_blending) inner sizes flags count span members count none count (le_refl count))
      (ap (require (ltb 0 count) 16 0 0) (go (bounds_after inner sizes flags count span members count)))
    where
      go : (o : Result Bounds) → and_then o (λ b. struct_blend inner flags members count b.flags) ≡ and_then o (λ b. ok b.flags)
      go (err x y z) = refl
      go (ok b) = no_blend inner flags members count b.flags none
