-- The numbers of refusals: judging answers 8 or more, laying out 4 where alignments are made, and what that makes of the first refusal.
-- Assumes nothing.
use mathlib.Core.Path.{◌≡◌, refl, sym}
use mathlib.Core.Bool.{Bool, true, false, not, ◌&&◌, ◌||◌}
use mathlib.Core.Logic.{◌⊎◌, inl, inr}
use mathlib.Core.List.{List}
use Prim.Native.Nat.{ℕ, zero, suc, ◌+◌, ◌*◌, ◌≤◌, ◌<◌}
use native.Mathlib.Omega.{arith}
use lib.Dec.{eqb, leb, ltb}
use Rattle.ir_records.specs.Result.{Result, err, ok, pick, require, and_then}
use Rattle.ir_records.specs.Record.{Decoded, member_type, member_offset, member_location, member_source}
use Rattle.ir_records.specs.Table.{result_at, outcome_at, also, first_refusal}
use Rattle.ir_records.specs.Outcome.{Outcome}
use Rattle.ir_records.specs.Outcome.{Accepted, Refused}
use Rattle.ir_records.specs.declared.Leaf.{Leaf}
use Rattle.ir_records.specs.declared.Leaf.TheVariants.{Scalar, Vector, Matrix, CooperativeMatrix, Atomic, RayQuery}
use Rattle.ir_records.specs.declared.NonData.{NonData}
use Rattle.ir_records.specs.declared.NonData.TheVariants.{Pointer, ValuePointer, Image, Sampler, AccelerationStructure, BindingArray}
use Rattle.ir_records.specs.declared.TypeInner.{TypeInner}
use Rattle.ir_records.specs.declared.TypeInner.TheVariants.{Plain, Array, RuntimeArray, Struct, Other}
use Rattle.proc_alignment.specs.Alignment.{most}
use Rattle.proc_type_methods.specs.TypeMethods.{most_size, try_size}
use Rattle.proc_type_alignment.specs.declared.TypeLayout.{TypeLayout}
use Rattle.proc_type_alignment.specs.TypeAlignment.{alignment_of}
use Rattle.proc_type_layout.specs.TypeLayout.{layout_of}
use Rattle.valid_flags.specs.Flags.{bit, data_bit, sized_bit, creation_resolved_bit, io_shareable_bit, is_sized_data}
use Rattle.valid_width.specs.Width.{uint, float, bool, float64, shader_float16, shader_int16, shader_int64, shader_float32_atomic, shader_int64_atomic_min_max, shader_int64_atomic_all_ops, cooperative_matrix, ray_query, ray_tracing_pipeline, ray_hit_vertex_position, dual_source_blending, integer_width, float_width, check_width, integer_atomic, atomic_width}
use Rattle.valid_type_flags.specs.TypeFlags.{leaf_flags, is_flat, cube_allowed, is_external_form, external_allowed, is_binding_base, is_external_image}
use Rattle.valid_type_info.specs.Verdict.{previous_of, distance_ok}
use Rattle.valid_member_bounds.specs.declared.Bounds.{Bounds}
use Rattle.valid_member_bounds.specs.MemberBounds.{is_array, is_member_data, is_apart, is_member_sized, member_bounds}
use Rattle.valid_blend.specs.Blend.{source_at, source_result, blended_after, other_location, same_type, pair_result, struct_blend}
use Rattle.valid_types.specs.ValidateType.{non_data_flags, flags_of, judge_common}
use Rattle.valid_arena.specs.Arena.{common_at}
use Rattle.spirv_records.specs.TypesRead.{Among}
use Rattle.spirv_records.specs.Records.{of_tables, InOrder, LaidOut}

-- each refusal has 8 or more
pub record Late {A : Type 0} (r : Result A) : Type 0 where
  pub late : (n m d : ℕ) → r ≡ err n m d → 8 ≤ n

fine : {A : Type 0} {a : A} → Late (ok a)
fine = record { late = λ n m d e. let z : ◌≡◌ {A = ℕ} 0 1 = cc in absurd (omega arith) }

refused : {A : Type 0} {m d : ℕ} (n : ℕ) → 8 ≤ n → Late {A = A} (err n m d)
refused {A} {m} {d} n h = record { late = λ n' m' d' e. let z : n ≡ n' = cc in omega (arith, z, h) }

asked : {A : Type 0} {r : Result A} (b : Bool) (n m d : ℕ) → 8 ≤ n → Late r → Late (require b n m d r)
asked true n m d h l = l
asked false n m d h l = refused n h

chosen : {A : Type 0} {p q : Result A} (b : Bool) → Late p → Late q → Late (pick b p q)
chosen true x y = x
chosen false x y = y

followed : {A B : Type 0} {f : A → Result B} (r : Result A) → Late r → ((a : A) → Late (f a)) → Late (and_then r f)
followed (err n m d) l rest = refused n (l.late n m d refl)
followed (ok a) l rest = rest a

-- ---- leaves
only_late : (b : Bool) (n d : ℕ) → 8 ≤ n → Late (require b n 0 d (ok (tt {0})))
only_late b n d h = asked b n 0 d h fine

width_late : (c kind width : ℕ) → Late (check_width c kind width)
unfolding check_width integer_width float_width
width_late c kind width =
    chosen (leb kind uint)
    (chosen (eqb width 2) (only_late (bit c shader_int16) 8 2 (omega arith)) (chosen (eqb width 8) (only_late (bit c shader_int64) 8 3 (omega arith)) (only_late (eqb width 4) 9 0 (omega arith))))
    (chosen (eqb kind float)
    (chosen (eqb width 8) (only_late (bit c float64) 8 0 (omega arith)) (chosen (eqb width 2) (only_late (bit c shader_float16) 8 1 (omega arith)) (only_late (eqb width 4) 9 0 (omega arith))))
    (chosen (eqb kind bool) (only_late (eqb width 1) 9 0 (omega arith)) (refused 10 (omega arith))))

atomic_late : (c kind width : ℕ) → Late (atomic_width c kind width)
unfolding atomic_width integer_atomic
atomic_late c kind width =
    chosen (leb kind uint)
    (chosen (eqb width 8) (only_late (bit c shader_int64_atomic_min_max || bit c shader_int64_atomic_all_ops) 8 6 (omega arith)) (only_late (eqb width 4) 12 0 (omega arith)))
    (chosen (eqb kind float && eqb width 4) (only_late (bit c shader_float32_atomic) 8 4 (omega arith)) (refused 12 (omega arith)))

leaf_late : (c : ℕ) (leaf : Leaf) → Late (leaf_flags c leaf)
unfolding leaf_flags
leaf_late c (Scalar kind width) = followed (check_width c kind width) (width_late c kind width) (λ _. fine)
leaf_late c (Vector size kind width) = followed (check_width c kind width) (width_late c kind width) (λ _. fine)
leaf_late c (Matrix columns rows kind width) =
    asked (eqb kind float) 11 0 0 (omega arith) (followed (check_width c kind width) (width_late c kind width) (λ _. fine))
leaf_late c (CooperativeMatrix columns rows kind width role) =
    asked (bit c cooperative_matrix) 8 0 7 (omega arith) (asked (eqb kind float && (eqb width 2 || eqb width 4)) 11 0 0 (omega arith) fine)
leaf_late c (Atomic kind width) = followed (atomic_width c kind width) (atomic_late c kind width) (λ _. fine)
leaf_late c (RayQuery v) = asked (bit c ray_query) 8 0 10 (omega arith) (asked (eqb v 0 || bit c ray_hit_vertex_position) 8 0 12 (omega arith) fine)

-- ---- what is no data
other_late : (c : ℕ) (inner : ℕ → TypeInner) (flags : ℕ → ℕ) (o : NonData) → Late (non_data_flags c inner flags o)
unfolding non_data_flags
other_late c inner flags (Pointer base space) =
    asked (bit (flags base) data_bit) 13 0 0 (omega arith) (asked (bit (flags base) sized_bit || eqb space 4) 14 0 0 (omega arith) fine)
other_late c inner flags (ValuePointer kind width space) = followed (check_width c kind width) (width_late c kind width) (λ _. fine)
other_late c inner flags (Image dim arrayed class) =
    asked (is_flat dim arrayed) 22 0 0 (omega arith)
    (asked (cube_allowed c dim arrayed) 8 0 8 (omega arith)
    (asked (is_external_form dim arrayed class) 22 0 0 (omega arith)
    (asked (external_allowed c class) 8 0 9 (omega arith) fine)))
other_late c inner flags Sampler = fine
other_late c inner flags (AccelerationStructure v) =
    asked (bit c ray_tracing_pipeline || bit c ray_query) 8 0 10 (omega arith) (asked (eqb v 0 || bit c ray_hit_vertex_position) 8 0 12 (omega arith) fine)
other_late c inner flags (BindingArray base form count) =
    asked (is_binding_base (inner base) (flags base)) 23 0 0 (omega arith)
    (asked (not (is_external_image (inner base))) 24 0 0 (omega arith)
    (asked (bit (flags base) creation_resolved_bit) 17 0 0 (omega arith) fine))

-- ---- structs
source_late : (dual : Bool) (members : List ℕ) (j : ℕ) → Late (source_result dual members j)
unfolding source_result
source_late dual members j =
    chosen (eqb (member_source members j) 0) fine
    (asked dual 8 0 13 (omega arith)
    (asked (eqb (member_location members j) 1 && leb (member_source members j) 2) 34 0 1 (omega arith)
    (asked (eqb (source_at members (member_source members j) j) 0) 34 0 2 (omega arith) fine)))

module _ (inner : ℕ → TypeInner) (sizes flags : ℕ → ℕ) (members : List ℕ) where
  module _ (dual : Bool) (count span : ℕ) where
    member_late : (j : ℕ) (b : Bounds)
        → Late (member_bounds count span (previous_of inner members j) (inner (member_type members j)) (member_offset members j) j (sizes (member_type members j)) (flags (member_type members j)) b)
    unfolding member_bounds
    member_late j b =
        let size = sizes (member_type members j) in
        let own = flags (member_type members j) in
        let offset = member_offset members j in
        asked (is_member_data own) 17 j 0 (omega arith)
        (asked (is_apart b.end offset) 18 j 0 (omega arith)
        (asked (leb (offset + size) most) 21 j 0 (omega arith)
        (asked (leb (offset + size) span) 19 j 0 (omega arith)
        (asked (distance_ok (previous_of inner members j) offset) 21 j 0 (omega arith)
        (asked (is_member_sized own (is_array (inner (member_type members j))) j count) 20 j 0 (omega arith) fine)))))

    blended_late : (j : ℕ) → Late (blended_after dual inner sizes flags count span members j)
    unfolding blended_after
    blended_late zero = fine
    blended_late (suc j) =
        followed (blended_after dual inner sizes flags count span members j) (blended_late j)
        (λ b. asked (is_member_data (flags (member_type members j))) 17 j 0 (omega arith)
        (followed (source_result dual members j) (source_late dual members j) (λ _. member_late j b)))

  pair_late : (other : Bool) (left first second : ℕ) → Late (pair_result inner flags members other left first second)
  pair_late other left zero zero = fine
  pair_late other left zero (suc b) = refused 34 (omega arith)
  pair_late other left (suc a) zero = refused 34 (omega arith)
  pair_late other left (suc a) (suc b) =
      asked (not other) 34 0 3 (omega arith)
      (asked (same_type (inner (member_type members a)) (inner (member_type members b))) 34 0 4 (omega arith)
      (asked (bit (flags (member_type members a)) io_shareable_bit) 34 0 5 (omega arith) fine))

  blend_late : (count left : ℕ) → Late (struct_blend inner flags members count left)
  unfolding struct_blend
  blend_late count left = pair_late (other_location members count) left (source_at members 1 count) (source_at members 2 count)

  flags_late : (c : ℕ) (this : TypeInner) → Late (flags_of c inner sizes flags this members)
  unfolding flags_of
  flags_late c (Plain leaf) = leaf_late c leaf
  flags_late c (Array base count stride) = asked (is_sized_data (flags base)) 15 0 0 (omega arith) fine
  flags_late c (RuntimeArray base stride) = asked (is_sized_data (flags base)) 15 0 0 (omega arith) fine
  flags_late c (Struct count span) =
      asked (ltb 0 count) 16 0 0 (omega arith)
      (followed (blended_after (bit c dual_source_blending) inner sizes flags count span members count) (blended_late (bit c dual_source_blending) count span count)
      (λ b. blend_late count b.flags))
  flags_late c (Other o) = other_late c inner flags o

-- judging a type, whatever it is
pub common_late : (c : ℕ) (types : ℕ → Decoded) (i : ℕ) → Late (common_at c types i)
unfolding result_at judge_common
common_late c types i = followed _ (flags_late (λ k. (types k).inner) _ _ (types i).members c (types i).inner) (λ f. fine)

-- ---- laying out a type whose alignment is made
pub record Four {A : Type 0} (r : Result A) : Type 0 where
  pub four : (n m d : ℕ) → r ≡ err n m d → n ≡ 4

size_four : (inner : TypeInner) (f : ℕ → TypeLayout) → Four (and_then (try_size inner) (λ size. ok (f size)))
unfolding try_size
size_four (Plain leaf) f = record { four = λ n m d e. let z : ◌≡◌ {A = ℕ} 0 1 = cc in absurd (omega arith) }
size_four (Array base count stride) f = by (leb count most_size && leb (count * stride) most_size)
  where
    by : (b : Bool) → Four (and_then (require b 4 0 0 (ok (count * stride))) (λ size. ok (f size)))
    by true = record { four = λ n m d e. let z : ◌≡◌ {A = ℕ} 0 1 = cc in absurd (omega arith) }
    by false = record { four = λ n m d e. let z : 4 ≡ n = cc in sym z }
size_four (RuntimeArray base stride) f = by (leb stride most_size)
  where
    by : (b : Bool) → Four (and_then (require b 4 0 0 (ok stride)) (λ size. ok (f size)))
    by true = record { four = λ n m d e. let z : ◌≡◌ {A = ℕ} 0 1 = cc in absurd (omega arith) }
    by false = record { four = λ n m d e. let z : 4 ≡ n = cc in sym z }
size_four (Struct count span) f = record { four = λ n m d e. let z : ◌≡◌ {A = ℕ} 0 1 = cc in absurd (omega arith) }
size_four (Other o) f = record { four = λ n m d e. let z : ◌≡◌ {A = ℕ} 0 1 = cc in absurd (omega arith) }

pub layout_four : (layouts : ℕ → TypeLayout) (i : ℕ) (inner : TypeInner) (members : List ℕ) (a : ℕ) → alignment_of layouts i inner members ≡ ok a
    → Four (layout_of layouts i inner members)
unfolding layout_of
layout_four layouts i inner members a e = rw e (size_four inner (λ size. record { size = size; alignment = a }))

-- ---- the first refusal
not_tables : (n : ℕ) → (n ≡ 4) ⊎ (8 ≤ n) → Among n of_tables → ⊥
not_tables n (inl h) (inl e) = omega (arith, h, e)
not_tables n (inl h) (inr (inl e)) = omega (arith, h, e)
not_tables n (inl h) (inr (inr (inl e))) = omega (arith, h, e)
not_tables n (inl h) (inr (inr (inr (inl e)))) = omega (arith, h, e)
not_tables n (inl h) (inr (inr (inr (inr (inl e))))) = omega (arith, h, e)
not_tables n (inl h) (inr (inr (inr (inr (inr (inl e)))))) = omega (arith, h, e)
not_tables n (inl h) (inr (inr (inr (inr (inr (inr a)))))) = a
not_tables n (inr h) (inl e) = omega (arith, h, e)
not_tables n (inr h) (inr (inl e)) = omega (arith, h, e)
not_tables n (inr h) (inr (inr (inl e))) = omega (arith, h, e)
not_tables n (inr h) (inr (inr (inr (inl e)))) = omega (arith, h, e)
not_tables n (inr h) (inr (inr (inr (inr (inl e))))) = omega (arith, h, e)
not_tables n (inr h) (inr (inr (inr (inr (inr (inl e)))))) = omega (arith, h, e)
not_tables n (inr h) (inr (inr (inr (inr (inr (inr a)))))) = a

pub laid_in_order : (o : Outcome) → LaidOut o → InOrder o
laid_in_order Accepted h = tt
laid_in_order (Refused n ty member detail) h = not_tables n (inl h)

pub also_in_order : (v w : Outcome) → InOrder v → InOrder w → InOrder (also v w)
also_in_order Accepted w h k = k
also_in_order (Refused n ty member detail) w h k = h

also_laid : (v w : Outcome) → LaidOut v → LaidOut w → LaidOut (also v w)
also_laid Accepted w h k = k
also_laid (Refused n ty member detail) w h k = h

outcome_in_order : {A : Type 0} (i : ℕ) (r : Result A) → Late r → InOrder (outcome_at i r)
outcome_in_order i (err n m d) l = not_tables n (inr (l.late n m d refl))
outcome_in_order i (ok a) l = tt

outcome_laid : {A : Type 0} (i : ℕ) (r : Result A) → Four r → LaidOut (outcome_at i r)
outcome_laid i (err n m d) l = l.four n m d refl
outcome_laid i (ok a) l = tt

module _ {A : Type 0} (f : ℕ → Result A) where
  pub first_in_order : ((i : ℕ) → Late (f i)) → (n : ℕ) → InOrder (first_refusal f n)
  first_in_order l zero = tt
  first_in_order l (suc n) = also_in_order (first_refusal f n) (outcome_at n (f n)) (first_in_order l n) (outcome_in_order n (f n) (l n))

  pub first_laid : (n : ℕ) → ((i : ℕ) → i < n → Four (f i)) → LaidOut (first_refusal f n)
  first_laid zero l = tt
  first_laid (suc n) l =
      also_laid (first_refusal f n) (outcome_at n (f n)) (first_laid n (λ i h. l i (omega (arith, h)))) (outcome_laid n (f n) (l n (omega arith)))
