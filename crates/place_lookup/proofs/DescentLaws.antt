-- A step from an accepted type leads to an earlier type, and from a SIZED type to a SIZED one.
-- Assumes nothing.
use mathlib.Core.Path.{◌≡◌, refl}
use Prim.Native.Nat.{ℕ, ◌<◌}
use lib.Dec.{T}
use Rattle.ir_records.specs.Record.{Decoded}
use Rattle.ir_records.specs.declared.TypeInner.{TypeInner}
use Rattle.ir_records.specs.declared.TypeInner.TheVariants.{Plain, Array, RuntimeArray, Struct, Other}
use Rattle.valid_flags.specs.Flags.{bit, sized_bit}
use Rattle.valid_arena.specs.Arena.{row}
use Rattle.valid_arena.proofs.AcceptedLaws.{AcceptedTypes, base_sized, array_row, runtime_array_row, member_earlier, struct_row, struct_member}
use Rattle.place_steps.specs.Step.{To}
use Rattle.place_steps.specs.Steps.{step_of}
use Rattle.place_descent.specs.Place.{step_in}
use Rattle.place_descent.proofs.WalkLaws.{plain_step, array_step, runtime_array_step, struct_step, other_step}

-- what a step from type t to type ty says of their numbers and sizes
pub record Descent (least c : ℕ) (types : ℕ → Decoded) (t ty : ℕ) : Type 0 where
  pub earlier : ty < t
  pub sized : T (bit (row least c types t).flags sized_bit) → T (bit (row least c types ty).flags sized_bit)

module _ (least c : ℕ) (types : ℕ → Decoded) (n : ℕ) (acc : AcceptedTypes c types n) where
  -- by what the record says
  descent_of : (t : ℕ) → t < n → (this : TypeInner) → (types t).inner ≡ this → (s ty bytes : ℕ) → step_of this (types t).members s ≡ To ty bytes → Descent least c types t ty
  descent_of t l (Plain leaf) e s ty bytes q = plain_step leaf (types t).members s ty bytes q
  descent_of t l (Array base count stride) e s ty bytes q =
      let g = array_step base count stride (types t).members s ty bytes q in
      let a = array_row least c types n acc t l base count stride e in
      rw (← g.1) (record { earlier = a.0; sized = λ h. base_sized a.1 })
  descent_of t l (RuntimeArray base stride) e s ty bytes q =
      let g = runtime_array_step base stride (types t).members s ty bytes q in
      let a = runtime_array_row least c types n acc t l base stride e in
      rw (← g.1) (record { earlier = a.0; sized = λ h. base_sized a.1 })
  descent_of t l (Struct count span) e s ty bytes q =
      let g = struct_step count span (types t).members s ty bytes q in
      let r = struct_row least c types n acc t l count span e in
      let m = struct_member least c types n acc t l count span e s g.0 in
      rw (← g.1) (record { earlier = member_earlier least c types n acc t l count span e s g.0; sized = λ h. m.flag sized_bit (rw (r.flags sized_bit refl) at h) })
  descent_of t l (Other o) e s ty bytes q = other_step o (types t).members s ty bytes q

  -- a step from an accepted type
  pub descent : (t : ℕ) → t < n → (s ty bytes : ℕ) → step_in types t s ≡ To ty bytes → Descent least c types t ty
  descent t l s ty bytes q = descent_of t l (types t).inner refl s ty bytes q
