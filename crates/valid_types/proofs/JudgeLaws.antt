-- Laws of the judgement of one type: its parts, which types are DATA, and which records it reads.
-- Assumes nothing.
use mathlib.Core.Path.{◌≡◌, refl, sym, ◌∙◌, ap}
use mathlib.Core.Bool.{Bool, true, false, not, ◌&&◌, ◌||◌}
use mathlib.Core.List.{List}
use Prim.Native.Nat.{ℕ, ◌<◌}
use lib.Bits.{bit_and, bit_or}
use lib.Dec.{T, eqb, leb}
use Rattle.ir_records.specs.Result.{ok, pick}
use Rattle.ir_records.specs.Record.{member_type}
use Rattle.ir_records.specs.declared.Leaf.{Leaf}
use Rattle.ir_records.specs.declared.Leaf.TheVariants.{Scalar, Vector, Matrix, CooperativeMatrix, Atomic, RayQuery}
use Rattle.ir_records.specs.declared.NonData.{NonData}
use Rattle.ir_records.specs.declared.NonData.TheVariants.{Pointer, ValuePointer, Image, Sampler, AccelerationStructure, BindingArray}
use Rattle.ir_records.specs.declared.TypeInner.{TypeInner}
use Rattle.ir_records.specs.declared.TypeInner.TheVariants.{Plain, Array, RuntimeArray, Struct, Other}
use Rattle.ir_records.proofs.ResultLaws.{required, and_then_ok, ok_inj, T_true, and_left}
use Rattle.proc_type_alignment.specs.declared.TypeLayout.{TypeLayout}
use Rattle.valid_flags.specs.Flags.{bit, data_bit, sized_bit, creation_resolved_bit, scalar_flags, binding_array_flags, is_sized_data}
use Rattle.valid_flags.proofs.BitLaws.{bit-and, bit_and_both}
use Rattle.valid_width.specs.Width.{float, cooperative_matrix, cube_array_textures, texture_external, ray_query, ray_tracing_pipeline, ray_hit_vertex_position, check_width, atomic_width}
use Rattle.valid_type_flags.specs.TypeFlags.{leaf_flags, is_struct, is_external_image}
use Rattle.valid_type_info.specs.declared.Row.{Row}
use Rattle.valid_type_info.specs.TypeInfo.{row_sizes, row_flags}
use Rattle.valid_type_info.specs.Verdict.{span_verdict}
use Rattle.valid_member_bounds.proofs.BoundsLaws.{members-in, members_data}
use Rattle.valid_member_bounds.proofs.BoundsSame.{bounds-inner}
use Rattle.valid_member_rules.proofs.MemberSame.{uniform_inner}
use Rattle.valid_blend.proofs.BlendLaws.{blend_inner, blend_bit}
use Rattle.valid_types.specs.ValidateType.{non_data_flags, flags_of, uniform_of, row_of, judge}
use Rattle.valid_types.proofs.StructFlags.{struct_flags, flags_struct}

-- ---- parts: the flags, and the row made with them
pub record Judged (least c : ℕ) (inner : ℕ → TypeInner) (rows : ℕ → Row) (i : ℕ) (l : TypeLayout) (this : TypeInner) (members : List ℕ) (r : Row) : Type 0 where
  pub flags : flags_of c inner (row_sizes rows) (row_flags rows) this members ≡ ok r.flags
  pub is : r ≡ row_of least inner rows i l this members r.flags

-- a judged row has the type's flags and is made with them
pub judged_parts : (least c : ℕ) (inner : ℕ → TypeInner) (rows : ℕ → Row) (i : ℕ) (l : TypeLayout) (this : TypeInner) (members : List ℕ) (r : Row)
    → judge least c inner rows i l this members ≡ ok r → Judged least c inner rows i l this members r
unfolding judge row_of
judged_parts least c inner rows i l this members r e =
    let a = and_then_ok (flags_of c inner (row_sizes rows) (row_flags rows) this members) _ r e in
    let q = ok_inj a.2 in
    let f : a.0 ≡ r.flags = ap (λ (x : Row). x.flags) q in
    record { flags = a.1 ∙ ap ok f; is = sym q ∙ ap (row_of least inner rows i l this members) f }

-- a row that has the type's flags and is made with them is the judged one
pub judged_whole : (least c : ℕ) (inner : ℕ → TypeInner) (rows : ℕ → Row) (i : ℕ) (l : TypeLayout) (this : TypeInner) (members : List ℕ) (r : Row)
    → Judged least c inner rows i l this members r → judge least c inner rows i l this members ≡ ok r
unfolding judge
judged_whole least c inner rows i l this members r p = rw p.flags (ap ok (sym p.is))

-- ---- DATA is a matter of the kind
-- leaves, arrays and structs are data, the others are not
abbrev pub is_data_inner : TypeInner → Bool
is_data_inner (Plain leaf) = true
is_data_inner (Array base count stride) = true
is_data_inner (RuntimeArray base stride) = true
is_data_inner (Struct count span) = true
is_data_inner (Other o) = false

-- a test that does not hold is false
false_test : (b : Bool) → (T b → ⊥) → b ≡ false
false_test true n = absurd (n tt)
false_test false n = refl

-- the flags of scalars and vectors have DATA
scalar_data : (k : ℕ) → bit (scalar_flags k 255) data_bit ≡ true
scalar_data k = go (eqb k 3)
  where
    go : (b : Bool) → bit (pick b (bit_and 255 231) 255) data_bit ≡ true
    go true = refl
    go false = refl

-- the flags of a leaf have DATA
leaf_data : (c : ℕ) (leaf : Leaf) (f : ℕ) → leaf_flags c leaf ≡ ok f → bit f data_bit ≡ true
unfolding leaf_flags
leaf_data c (Scalar k w) f e = let a = and_then_ok (check_width c k w) _ f e in rw (ok_inj a.2) at (scalar_data k)
leaf_data c (Vector n k w) f e = let a = and_then_ok (check_width c k w) _ f e in rw (ok_inj a.2) at (scalar_data k)
leaf_data c (Matrix cs rs k w) f e =
    let b = required (eqb k float) 11 0 0 _ f e in
    let a = and_then_ok (check_width c k w) _ f b.1 in
    rw (← ok_inj a.2) refl
leaf_data c (CooperativeMatrix cs rs k w o) f e =
    let b = required (bit c cooperative_matrix) 8 0 cooperative_matrix _ f e in
    let a = required (eqb k float && (eqb w 2 || eqb w 4)) 11 0 0 _ f b.1 in
    rw (← ok_inj a.1) refl
leaf_data c (Atomic k w) f e = let a = and_then_ok (atomic_width c k w) _ f e in rw (← ok_inj a.2) refl
leaf_data c (RayQuery v) f e =
    let b = required (bit c ray_query) 8 0 ray_query _ f e in
    let a = required (eqb v 0 || bit c ray_hit_vertex_position) 8 0 ray_hit_vertex_position _ f b.1 in
    rw (← ok_inj a.1) refl

-- the flags of pointers have no DATA
pointer_no_data : (b : Bool) → bit (bit_or 134 (pick b 32 0)) data_bit ≡ false
pointer_no_data true = refl
pointer_no_data false = refl

-- the flags of binding arrays have no DATA
binding_no_data : (b : Bool) (base : ℕ) → T (bit (bit_and base (pick b 146 144)) data_bit) → ⊥
binding_no_data true base t = (bit-and base 146 data_bit t).1
binding_no_data false base t = (bit-and base 144 data_bit t).1

-- the flags of what is no data have no DATA
other_no_data : (c : ℕ) (inner : ℕ → TypeInner) (flags : ℕ → ℕ) (o : NonData) (f : ℕ) → non_data_flags c inner flags o ≡ ok f → bit f data_bit ≡ false
unfolding non_data_flags
other_no_data c inner flags (Pointer base space) f e =
    let a = required (bit (flags base) data_bit) 13 0 0 _ f e in
    let b = required (bit (flags base) sized_bit || eqb space 4) 14 0 0 _ f a.1 in
    rw (← ok_inj b.1) (pointer_no_data (leb space 1 || leb 8 space))
other_no_data c inner flags (ValuePointer k w space) f e =
    let a = and_then_ok (check_width c k w) _ f e in
    rw (← ok_inj a.2) (pointer_no_data (leb space 1 || leb 8 space))
other_no_data c inner flags (Image dim arrayed class) f e =
    let x = required (not (eqb arrayed 1 && eqb dim 2)) 22 0 0 _ f e in
    let y = required (not (eqb arrayed 1 && eqb dim 3) || bit c cube_array_textures) 8 0 cube_array_textures _ f x.1 in
    let z = required (not (eqb class 2) || eqb dim 1 && eqb arrayed 0) 22 0 0 _ f y.1 in
    let u = required (not (eqb class 2) || bit c texture_external) 8 0 texture_external _ f z.1 in
    rw (← ok_inj u.1) refl
other_no_data c inner flags Sampler f e = rw (← ok_inj e) refl
other_no_data c inner flags (AccelerationStructure v) f e =
    let x = required (bit c ray_tracing_pipeline || bit c ray_query) 8 0 ray_query _ f e in
    let y = required (eqb v 0 || bit c ray_hit_vertex_position) 8 0 ray_hit_vertex_position _ f x.1 in
    rw (← ok_inj y.1) refl
other_no_data c inner flags (BindingArray base form count) f e =
    let x = required (not (bit (flags base) data_bit) || is_struct (inner base)) 23 0 0 _ f e in
    let y = required (not (is_external_image (inner base))) 24 0 0 _ f x.1 in
    let z = required (bit (flags base) creation_resolved_bit) 17 0 0 _ f y.1 in
    rw (← ok_inj z.1) (false_test (bit (binding_array_flags form (flags base)) data_bit) (binding_no_data (eqb form 0) (flags base)))

-- the base of an array is DATA, and a mask that keeps DATA keeps it
array_data : (base mask : ℕ) → T (is_sized_data base) → T (bit mask data_bit) → bit (bit_and base mask) data_bit ≡ true
array_data base mask t u =
    let d = and_left (bit base data_bit) (bit base sized_bit) (and_left (bit base data_bit && bit base sized_bit) (bit base creation_resolved_bit) t) in
    T_true (bit (bit_and base mask) data_bit) (bit_and_both base mask data_bit d u)

-- the flags that are accepted have DATA just for leaves, arrays and structs
pub flags_data : (c : ℕ) (inner : ℕ → TypeInner) (sizes flags : ℕ → ℕ) (this : TypeInner) (members : List ℕ) (f : ℕ)
    → flags_of c inner sizes flags this members ≡ ok f → bit f data_bit ≡ is_data_inner this
unfolding flags_of
flags_data c inner sizes flags (Plain leaf) members f e = leaf_data c leaf f e
flags_data c inner sizes flags (Array base count stride) members f e =
    let a = required (is_sized_data (flags base)) 15 0 0 _ f e in rw (← ok_inj a.1) (array_data (flags base) 247 a.0 tt)
flags_data c inner sizes flags (RuntimeArray base stride) members f e =
    let a = required (is_sized_data (flags base)) 15 0 0 _ f e in rw (← ok_inj a.1) (array_data (flags base) 149 a.0 tt)
flags_data c inner sizes flags (Struct count span) members f e =
    let s = struct_flags c inner sizes flags count span members f e in
    blend_bit inner flags members count s.after.flags f s.blend data_bit refl
    ∙ T_true (bit s.after.flags data_bit) (members_data inner sizes flags count span members count s.after s.accepted)
flags_data c inner sizes flags (Other o) members f e = other_no_data c inner flags o f e

-- ---- a type that is accepted reads only what the records of CREATION_RESOLVED types say
module _ (c : ℕ) (inner inner' : ℕ → TypeInner) (rows : ℕ → Row)
    (same : (k : ℕ) → T (bit (rows k).flags creation_resolved_bit) → inner k ≡ inner' k) where
  -- the flags of what is no data are the same
  non_data_inner : (o : NonData) (f : ℕ) → non_data_flags c inner (row_flags rows) o ≡ ok f → non_data_flags c inner' (row_flags rows) o ≡ ok f
  unfolding non_data_flags
  non_data_inner (Pointer base space) f e = e
  non_data_inner (ValuePointer k w space) f e = e
  non_data_inner (Image dim arrayed class) f e = e
  non_data_inner Sampler f e = e
  non_data_inner (AccelerationStructure v) f e = e
  non_data_inner (BindingArray base form count) f e =
      let x = required (not (bit (rows base).flags data_bit) || is_struct (inner base)) 23 0 0 _ f e in
      let y = required (not (is_external_image (inner base))) 24 0 0 _ f x.1 in
      let z = required (bit (rows base).flags creation_resolved_bit) 17 0 0 _ f y.1 in
      rw (← same base z.0) e

  -- the flags of a type are the same
  flags_inner : (this : TypeInner) (members : List ℕ) (f : ℕ) → flags_of c inner (row_sizes rows) (row_flags rows) this members ≡ ok f → flags_of c inner' (row_sizes rows) (row_flags rows) this members ≡ ok f
  unfolding flags_of
  flags_inner (Plain leaf) members f e = e
  flags_inner (Array base count stride) members f e = e
  flags_inner (RuntimeArray base stride) members f e = e
  flags_inner (Struct count span) members f e =
      let s = struct_flags c inner (row_sizes rows) (row_flags rows) count span members f e in
      let resolved : (j : ℕ) → j < count → inner (member_type members j) ≡ inner' (member_type members j) =
      λ j h. same (member_type members j) (members-in inner (row_sizes rows) (row_flags rows) count span members count s.after s.accepted j h).resolved in
      flags_struct c inner' (row_sizes rows) (row_flags rows) count span members f
      (record {
        nonempty = s.nonempty;
        after = s.after;
        accepted = bounds-inner inner inner' (row_sizes rows) (row_flags rows) members same count span count s.after s.accepted;
        pass = s.pass;
        blend = sym (blend_inner inner inner' (row_flags rows) members count s.after.flags resolved) ∙ s.blend;
      })
  flags_inner (Other o) members f e = non_data_inner o f e

  -- the uniform verdict of an accepted type is the same
  uniform_of_inner : (least i a : ℕ) (this : TypeInner) (members : List ℕ) (f : ℕ) → flags_of c inner (row_sizes rows) (row_flags rows) this members ≡ ok f
      → uniform_of least inner rows i a this members ≡ uniform_of least inner' rows i a this members
  unfolding flags_of uniform_of
  uniform_of_inner least i a (Plain leaf) members f e = refl
  uniform_of_inner least i a (Array base count stride) members f e = refl
  uniform_of_inner least i a (RuntimeArray base stride) members f e = refl
  uniform_of_inner least i a (Struct count span) members f e =
      let s = struct_flags c inner (row_sizes rows) (row_flags rows) count span members f e in
      ap (span_verdict i span a)
      (uniform_inner inner inner' rows members same least i count (λ m h. (members-in inner (row_sizes rows) (row_flags rows) count span members count s.after s.accepted m h).resolved))
  uniform_of_inner least i a (Other o) members f e = refl

  -- the row of an accepted type is the same
  pub judge_inner : (least i : ℕ) (l : TypeLayout) (this : TypeInner) (members : List ℕ) (r : Row)
      → judge least c inner rows i l this members ≡ ok r → judge least c inner' rows i l this members ≡ ok r
  unfolding row_of
  judge_inner least i l this members r e =
      let p = judged_parts least c inner rows i l this members r e in
      let u = uniform_of_inner least i l.alignment this members r.flags p.flags in
      judged_whole least c inner' rows i l this members r
      (record {
        flags = flags_inner this members r.flags p.flags;
        is = p.is ∙ rw u refl;
      })
