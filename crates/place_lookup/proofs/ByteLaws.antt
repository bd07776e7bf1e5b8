-- Accepted types descend: a byte place fits 64 bits, wherever a walk in them stands.
-- Assumes nothing.
use mathlib.Core.Path.{◌≡◌, refl, subst}
use mathlib.Core.Bool.{Bool, true, false, ◌&&◌}
use mathlib.Core.Logic.{◌⊎◌, inl, inr}
use Prim.Native.Nat.{ℕ, ◌+◌, ◌*◌, ◌^◌, ◌≤◌, ◌<◌}
use native.Mathlib.Nat.{mul-le-mul_right}
use native.Mathlib.Omega.{arith}
use lib.Dec.{T, leb, leb→le}
use Rattle.ir_records.specs.Result.{ok, pick}
use Rattle.ir_records.specs.Record.{Decoded}
use Rattle.ir_records.specs.Fields.{most_types}
use Rattle.ir_records.specs.Serving.{LeafBounds, InnerBounds}
use Rattle.ir_records.specs.Table.{table}
use Rattle.ir_records.specs.declared.Leaf.{Leaf}
use Rattle.ir_records.specs.declared.Leaf.TheVariants.{Scalar, Vector, Matrix, CooperativeMatrix, Atomic, RayQuery}
use Rattle.ir_records.specs.declared.TypeInner.{TypeInner}
use Rattle.ir_records.specs.declared.TypeInner.TheVariants.{Plain, Array, RuntimeArray, Struct, Other}
use Rattle.ir_records.proofs.ResultLaws.{required, and_right}
use Rattle.proc_alignment.specs.Alignment.{vector_alignment}
use Rattle.proc_alignment.proofs.PowerLaws.{mul_within, vector_within}
use Rattle.proc_type_methods.specs.TypeMethods.{most_size, leaf_column_step, try_size}
use Rattle.proc_layouter.specs.Layouter.{no_layout, layout_step, layout}
use Rattle.proc_type_layout.proofs.AcceptedParts.{layout_parts}
use Rattle.proc_layouter.proofs.LayoutAccepted.{accepted_step}
use Rattle.valid_flags.specs.Flags.{bit, sized_bit}
use Rattle.valid_flags.proofs.BitLaws.{bit-and}
use Rattle.valid_type_info.specs.Verdict.{min_storage}
use Rattle.valid_arena.specs.Arena.{row}
use Rattle.valid_arena.proofs.AcceptedLaws.{AcceptedTypes, base_sized, runtime_array_row, struct_member}
use Rattle.place_steps.specs.Step.{To, Column}
use Rattle.place_steps.specs.Columns.{column_count}
use Rattle.place_steps.specs.Steps.{step_of}
use Rattle.place_descent.specs.Place.{step_in}
use Rattle.place_descent.specs.Serving.{Descends}
use Rattle.place_descent.proofs.WalkLaws.{plain_step, array_step, runtime_array_step, struct_step, other_step, column-step}
use Rattle.place_lookup.proofs.DescentLaws.{descent}

-- whether type t is SIZED
abbrev is_sized : (c : ℕ) (types : ℕ → Decoded) → ℕ → Bool
is_sized c types t = bit (row min_storage c types t).flags sized_bit

-- what a step adds: a 32-bit number, or less than 2 ^ 63 from a runtime array, which is not SIZED, to its base, which is
abbrev Added : (sized sized' : Bool) (bytes : ℕ) → Type 0
Added sized sized' bytes = (bytes < 2 ^ 32) ⊎ (¬ T sized × T sized' × (bytes < 2 ^ 63))

-- what steps from type t add at most: a 32-bit number for t, which may be a matrix, and for each type number below, and, where t is not
-- SIZED, the bytes of one runtime array, after which types are SIZED
abbrev most_from : (sized : Bool) → ℕ → ℕ
most_from sized t = pick sized 0 (2 ^ 63) + (t + 1) * 2 ^ 32

-- one step is within that, by whether the two types are SIZED
step_within : (sized sized' : Bool) (t ty bytes : ℕ) → ty < t → (T sized → T sized') → Added sized sized' bytes → bytes + most_from sized' ty ≤ most_from sized t
step_within true true t ty bytes l z (inl x) = omega arith
step_within true true t ty bytes l z (inr x) = absurd (x.0 tt)
step_within true false t ty bytes l z a = absurd (z tt)
step_within false true t ty bytes l z (inl x) = omega arith
step_within false true t ty bytes l z (inr x) = omega (arith, x.2)
step_within false false t ty bytes l z (inl x) = omega arith
step_within false false t ty bytes l z (inr x) = absurd x.1

-- a 32-bit number is within that
number_within : (sized : Bool) (t bytes : ℕ) → bytes < 2 ^ 32 → bytes ≤ most_from sized t
number_within true t bytes l = omega arith
number_within false t bytes l = omega arith

-- a step to a column adds a 32-bit number
column_small : (leaf : Leaf) → LeafBounds leaf → (s : ℕ) → s < column_count leaf → s * leaf_column_step leaf < 2 ^ 32
column_small (Scalar k w) b s h = absurd (omega arith)
column_small (Vector n k w) b s h = absurd (omega arith)
column_small (Matrix cs rs k w) b s h =
    let few : s ≤ 4 = omega (arith, b.0) in
    let step = mul_within (vector_alignment rs) w (vector_within rs) b.2 in
    let place = mul_within s (vector_alignment rs * w) few step in
    omega arith
column_small (CooperativeMatrix cs rs k w o) b s h = absurd (omega arith)
column_small (Atomic k w) b s h = absurd (omega arith)
column_small (RayQuery v) b s h = absurd (omega arith)

-- there are at most 1,024 types, so it fits 64 bits
most_fits : (sized : Bool) (t : ℕ) → t < most_types → most_from sized t < 2 ^ 64
most_fits true t l = omega arith
most_fits false t l = omega arith

module _ (c : ℕ) (types : ℕ → Decoded) (n : ℕ) (acc : AcceptedTypes c types n) where
  -- the size of an accepted type is the one that was tried
  tried : (t : ℕ) → t < n → (this : TypeInner) → (types t).inner ≡ this → try_size this ≡ ok (layout types t).size
  tried t l this e =
      rw e at (layout_parts (table no_layout (layout_step types) t) t (types t).inner (types t).members (layout types t) (accepted_step types n acc.layouts t l)).0

  -- the elements of an array take at most mostSize bytes
  array_small : (t : ℕ) → t < n → (base count stride : ℕ) → (types t).inner ≡ Array base count stride → count * stride ≤ most_size
  unfolding try_size
  array_small t l base count stride e =
      let few = leb count most_size in
      let small = leb (count * stride) most_size in
      let s = required (few && small) 4 0 0 (ok (count * stride)) (layout types t).size (tried t l (Array base count stride) e) in
      leb→le (count * stride) most_size (and_right few small s.0)

  -- the stride of a runtime array is at most mostSize
  runtime_array_small : (t : ℕ) → t < n → (base stride : ℕ) → (types t).inner ≡ RuntimeArray base stride → stride ≤ most_size
  unfolding try_size
  runtime_array_small t l base stride e =
      let s = required (leb stride most_size) 4 0 0 (ok stride) (layout types t).size (tried t l (RuntimeArray base stride) e) in
      leb→le stride most_size s.0

  -- what a step adds, by what the record says
  added_of : (t : ℕ) → t < n → (this : TypeInner) → (types t).inner ≡ this → (s ty bytes : ℕ) → step_of this (types t).members s ≡ To ty bytes → Added (is_sized c types t) (is_sized c types ty) bytes
  added_of t l (Plain leaf) e s ty bytes q = plain_step leaf (types t).members s ty bytes q
  added_of t l (Array base count stride) e s ty bytes q =
      let g = array_step base count stride (types t).members s ty bytes q in
      let m = array_small t l base count stride e in
      let p = mul-le-mul_right stride g.0 in
      inl (rw (← g.2) (omega arith))
  added_of t l (RuntimeArray base stride) e s ty bytes q =
      let g = runtime_array_step base stride (types t).members s ty bytes q in
      let a = (runtime_array_row min_storage c types n acc t l base stride e).1 in
      let m : stride ≤ 2147483647 = runtime_array_small t l base stride e in
      let w : s ≤ 4294967295 = omega (arith, g.0) in
      let p = mul_within s stride w m in
      rw (← g.1, ← g.2) (inr (λ z. (bit-and (row min_storage c types base).flags 149 sized_bit (rw a.flags at z)).1, base_sized a, omega arith))
  added_of t l (Struct count span) e s ty bytes q =
      let g = struct_step count span (types t).members s ty bytes q in
      let m = (struct_member min_storage c types n acc t l count span e s g.0).fits in
      inl (rw (← g.2) (omega arith))
  added_of t l (Other o) e s ty bytes q = other_step o (types t).members s ty bytes q

  -- what a step to a column adds
  column_added : (t : ℕ) → t < n → (s bytes : ℕ) → step_in types t s ≡ Column bytes → bytes < 2 ^ 32
  column_added t l s bytes q =
      let g = column-step (types t).inner (types t).members s bytes q in
      rw (← g.3) (column_small g.0 (subst (λ (x : TypeInner). InnerBounds x) g.1 (acc.bounds t l)) s g.2)

  -- accepted types descend
  pub accepted_descends : n ≤ most_types → Descends types n
  accepted_descends few =
      record {
        most = λ t. most_from (is_sized c types t) t;
        fits = λ t l. most_fits (is_sized c types t) t (omega arith);
        step = λ t s ty bytes l q.
            let k = descent min_storage c types n acc t l s ty bytes q in
            let a = added_of t l (types t).inner refl s ty bytes q in
            (omega (arith, k.earlier), step_within (is_sized c types t) (is_sized c types ty) t ty bytes k.earlier k.sized a);
        column = λ t s bytes l q. number_within (is_sized c types t) t bytes (column_added t l s bytes q);
        bounds = acc.bounds;
      }
