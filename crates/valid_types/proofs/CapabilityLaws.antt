-- What a type is judged to be stays where capabilities are added.
-- Assumes nothing.
use mathlib.Core.Path.{◌≡◌, ◌∙◌}
use mathlib.Core.Bool.{Bool, true, false, not, ◌&&◌, ◌||◌}
use mathlib.Core.List.{List}
use Prim.Native.Nat.{ℕ}
use lib.Dec.{T, eqb, leb}
use Rattle.ir_records.specs.Result.{Result, ok, pick, require, and_then}
use Rattle.ir_records.specs.declared.Leaf.{Leaf}
use Rattle.ir_records.specs.declared.Leaf.TheVariants.{Scalar, Vector, Matrix, CooperativeMatrix, Atomic, RayQuery}
use Rattle.ir_records.specs.declared.NonData.{NonData}
use Rattle.ir_records.specs.declared.NonData.TheVariants.{Pointer, ValuePointer, Image, Sampler, AccelerationStructure, BindingArray}
use Rattle.ir_records.specs.declared.TypeInner.{TypeInner}
use Rattle.ir_records.specs.declared.TypeInner.TheVariants.{Plain, Array, RuntimeArray, Struct, Other}
use Rattle.ir_records.proofs.ResultLaws.{required, require_pass, and_then_ok}
use Rattle.proc_type_alignment.specs.declared.TypeLayout.{TypeLayout}
use Rattle.valid_flags.specs.Flags.{bit}
use Rattle.valid_width.specs.Width.{float64, shader_float16, shader_int16, shader_int64, shader_float32_atomic, shader_int64_atomic_min_max, shader_int64_atomic_all_ops, cooperative_matrix, cube_array_textures, texture_external, ray_query, ray_tracing_pipeline, ray_hit_vertex_position, dual_source_blending, uint, float, integer_width, float_width, check_width, integer_atomic, atomic_width}
use Rattle.valid_type_flags.specs.TypeFlags.{leaf_flags, image_flags}
use Rattle.valid_type_info.specs.declared.Row.{Row}
use Rattle.valid_type_info.specs.TypeInfo.{row_sizes, row_flags}
use Rattle.valid_blend.proofs.BlendLaws.{source_more}
use Rattle.valid_types.specs.ValidateType.{non_data_flags, flags_of, judge}
use Rattle.valid_types.proofs.StructFlags.{struct_flags, flags_struct}

-- every capability of c is one of d
abbrev pub HasAll : (c d : ℕ) → Type 0
HasAll c d = (b : ℕ) → T (bit c b) → T (bit d b)

-- ---- a result that stays where its tests are met more easily
-- one of two tests that hold more easily holds
or_more : (a a' b b' : Bool) → (T a → T a') → (T b → T b') → T (a || b) → T (a' || b')
or_more true true b b' f g t = tt
or_more true false b b' f g t = absurd (f tt)
or_more false true b b' f g t = tt
or_more false false b b' f g t = g t

-- a result behind a test that holds more easily
require_more {ℓ} : {A : Type ℓ} (b b' : Bool) (n m d : ℕ) (o o' : Result A) (a : A) → (T b → T b') → (o ≡ ok a → o' ≡ ok a)
    → require b n m d o ≡ ok a → require b' n m d o' ≡ ok a
require_more b b' n m d o o' a f g e = let x = required b n m d o a e in require_pass b' n m d o' (f x.0) ∙ g x.1

-- a result that is one of two, by a test
pick_more {ℓ} : {A : Type ℓ} (b : Bool) (x x' y y' : Result A) (a : A) → (x ≡ ok a → x' ≡ ok a) → (y ≡ ok a → y' ≡ ok a)
    → pick b x y ≡ ok a → pick b x' y' ≡ ok a
pick_more true x x' y y' a f g e = f e
pick_more false x x' y y' a f g e = g e

-- a result that is made from another
and_then_more {ℓ κ} : {A : Type ℓ} {B : Type κ} (o o' : Result A) (f : A → Result B) (b : B) → ((a : A) → o ≡ ok a → o' ≡ ok a)
    → and_then o f ≡ ok b → and_then o' f ≡ ok b
and_then_more o o' f b g e = let x = and_then_ok o f b e in rw (g x.0 x.1) x.2

module _ (c d : ℕ) (adds : HasAll c d) where
  -- a test of one capability
  one_more {ℓ} : {A : Type ℓ} (b n m : ℕ) (o : Result A) (a : A) → require (bit c b) n m b o ≡ ok a → require (bit d b) n m b o ≡ ok a
  one_more b n m o a e = require_more (bit c b) (bit d b) n m b o o a (adds b) (λ x. x) e

  -- ---- widths
  -- an integer's width that is allowed stays allowed
  integer_more : (w : ℕ) (u : Unit {0}) → integer_width c w ≡ ok u → integer_width d w ≡ ok u
  unfolding integer_width
  integer_more w u e =
      pick_more (eqb w 2) _ _ _ _ u (λ x. one_more shader_int16 8 0 _ u x)
      (λ y. pick_more (eqb w 8) _ _ _ _ u (λ x. one_more shader_int64 8 0 _ u x) (λ x. x) y) e

  -- a float's width that is allowed stays allowed
  float_more : (w : ℕ) (u : Unit {0}) → float_width c w ≡ ok u → float_width d w ≡ ok u
  unfolding float_width
  float_more w u e =
      pick_more (eqb w 8) _ _ _ _ u (λ x. one_more float64 8 0 _ u x)
      (λ y. pick_more (eqb w 2) _ _ _ _ u (λ x. one_more shader_float16 8 0 _ u x) (λ x. x) y) e

  -- a scalar's width that is allowed stays allowed
  pub width_more : (k w : ℕ) (u : Unit {0}) → check_width c k w ≡ ok u → check_width d k w ≡ ok u
  unfolding check_width
  width_more k w u e =
      pick_more (leb k uint) (integer_width c w) (integer_width d w) _ _ u (integer_more w u)
      (λ y. pick_more (eqb k float) (float_width c w) (float_width d w) _ _ u (float_more w u) (λ x. x) y) e

  -- an integer atomic's width that is allowed stays allowed
  integer_atomic_more : (w : ℕ) (u : Unit {0}) → integer_atomic c w ≡ ok u → integer_atomic d w ≡ ok u
  unfolding integer_atomic
  integer_atomic_more w u e =
      pick_more (eqb w 8) _ _ _ _ u
      (require_more (bit c shader_int64_atomic_min_max || bit c shader_int64_atomic_all_ops) (bit d shader_int64_atomic_min_max || bit d shader_int64_atomic_all_ops) 8 0 shader_int64_atomic_all_ops _ _ u
      (or_more (bit c shader_int64_atomic_min_max) (bit d shader_int64_atomic_min_max) (bit c shader_int64_atomic_all_ops) (bit d shader_int64_atomic_all_ops) (adds shader_int64_atomic_min_max) (adds shader_int64_atomic_all_ops))
      (λ x. x))
      (λ x. x) e

  -- an atomic's width that is allowed stays allowed
  pub atomic_more : (k w : ℕ) (u : Unit {0}) → atomic_width c k w ≡ ok u → atomic_width d k w ≡ ok u
  unfolding atomic_width
  atomic_more k w u e =
      pick_more (leb k uint) (integer_atomic c w) (integer_atomic d w) _ _ u (integer_atomic_more w u)
      (λ y. pick_more (eqb k float && eqb w 4) _ _ _ _ u (λ x. one_more shader_float32_atomic 8 0 _ u x) (λ x. x) y) e

  -- ---- flags
  -- the test of vertex return stays met
  vertex_more {ℓ} : {A : Type ℓ} (v : ℕ) (o : Result A) (a : A)
      → require (eqb v 0 || bit c ray_hit_vertex_position) 8 0 ray_hit_vertex_position o ≡ ok a
      → require (eqb v 0 || bit d ray_hit_vertex_position) 8 0 ray_hit_vertex_position o ≡ ok a
  vertex_more v o a e =
      require_more (eqb v 0 || bit c ray_hit_vertex_position) (eqb v 0 || bit d ray_hit_vertex_position) 8 0 ray_hit_vertex_position o o a
      (or_more (eqb v 0) (eqb v 0) (bit c ray_hit_vertex_position) (bit d ray_hit_vertex_position) (λ x. x) (adds ray_hit_vertex_position)) (λ x. x) e

  -- the flags of a leaf stay
  leaf_more : (leaf : Leaf) (f : ℕ) → leaf_flags c leaf ≡ ok f → leaf_flags d leaf ≡ ok f
  unfolding leaf_flags
  leaf_more (Scalar k w) f e = and_then_more (check_width c k w) (check_width d k w) _ f (width_more k w) e
  leaf_more (Vector n k w) f e = and_then_more (check_width c k w) (check_width d k w) _ f (width_more k w) e
  leaf_more (Matrix cs rs k w) f e =
      require_more (eqb k float) (eqb k float) 11 0 0 _ _ f (λ x. x) (λ x. and_then_more (check_width c k w) (check_width d k w) _ f (width_more k w) x) e
  leaf_more (CooperativeMatrix cs rs k w o) f e = one_more cooperative_matrix 8 0 _ f e
  leaf_more (Atomic k w) f e = and_then_more (atomic_width c k w) (atomic_width d k w) _ f (atomic_more k w) e
  leaf_more (RayQuery v) f e = require_more (bit c ray_query) (bit d ray_query) 8 0 ray_query _ _ f (adds ray_query) (λ x. vertex_more v _ f x) e

  -- the flags of an image stay
  image_more : (dim arrayed class f : ℕ) → image_flags c dim arrayed class ≡ ok f → image_flags d dim arrayed class ≡ ok f
  image_more dim arrayed class f e =
      require_more (not (eqb arrayed 1 && eqb dim 2)) (not (eqb arrayed 1 && eqb dim 2)) 22 0 0 _ _ f (λ x. x)
      (require_more (not (eqb arrayed 1 && eqb dim 3) || bit c cube_array_textures) (not (eqb arrayed 1 && eqb dim 3) || bit d cube_array_textures) 8 0 cube_array_textures _ _ f
      (or_more (not (eqb arrayed 1 && eqb dim 3)) (not (eqb arrayed 1 && eqb dim 3)) (bit c cube_array_textures) (bit d cube_array_textures) (λ x. x) (adds cube_array_textures))
      (require_more (not (eqb class 2) || eqb dim 1 && eqb arrayed 0) (not (eqb class 2) || eqb dim 1 && eqb arrayed 0) 22 0 0 _ _ f (λ x. x)
      (require_more (not (eqb class 2) || bit c texture_external) (not (eqb class 2) || bit d texture_external) 8 0 texture_external _ _ f
      (or_more (not (eqb class 2)) (not (eqb class 2)) (bit c texture_external) (bit d texture_external) (λ x. x) (adds texture_external)) (λ x. x)))) e

  -- the flags of what is no data stay
  non_data_more : (inner : ℕ → TypeInner) (flags : ℕ → ℕ) (o : NonData) (f : ℕ) → non_data_flags c inner flags o ≡ ok f → non_data_flags d inner flags o ≡ ok f
  unfolding non_data_flags
  non_data_more inner flags (Pointer base space) f e = e
  non_data_more inner flags (ValuePointer k w s) f e = and_then_more (check_width c k w) (check_width d k w) _ f (width_more k w) e
  non_data_more inner flags (Image dim arrayed class) f e = image_more dim arrayed class f e
  non_data_more inner flags Sampler f e = e
  non_data_more inner flags (AccelerationStructure v) f e =
      require_more (bit c ray_tracing_pipeline || bit c ray_query) (bit d ray_tracing_pipeline || bit d ray_query) 8 0 ray_query _ _ f
      (or_more (bit c ray_tracing_pipeline) (bit d ray_tracing_pipeline) (bit c ray_query) (bit d ray_query) (adds ray_tracing_pipeline) (adds ray_query))
      (λ x. vertex_more v _ f x) e
  non_data_more inner flags (BindingArray base form count) f e = e

  -- the flags of a type stay
  pub flags_more : (inner : ℕ → TypeInner) (sizes flags : ℕ → ℕ) (this : TypeInner) (members : List ℕ) (f : ℕ)
      → flags_of c inner sizes flags this members ≡ ok f → flags_of d inner sizes flags this members ≡ ok f
  unfolding flags_of
  flags_more inner sizes flags (Plain leaf) members f e = leaf_more leaf f e
  flags_more inner sizes flags (Array base count stride) members f e = e
  flags_more inner sizes flags (RuntimeArray base stride) members f e = e
  flags_more inner sizes flags (Struct count span) members f e =
      let s = struct_flags c inner sizes flags count span members f e in
      flags_struct d inner sizes flags count span members f
      (record {
        nonempty = s.nonempty;
        after = s.after;
        accepted = s.accepted;
        pass = λ m h. source_more (bit c dual_source_blending) (bit d dual_source_blending) (adds dual_source_blending) members m (s.pass m h);
        blend = s.blend;
      })
  flags_more inner sizes flags (Other o) members f e = non_data_more inner flags o f e

  -- the row of a type stays
  pub judge_more : (least : ℕ) (inner : ℕ → TypeInner) (rows : ℕ → Row) (i : ℕ) (l : TypeLayout) (this : TypeInner) (members : List ℕ) (r : Row)
      → judge least c inner rows i l this members ≡ ok r → judge least d inner rows i l this members ≡ ok r
  unfolding judge
  judge_more least inner rows i l this members r e =
      and_then_more (flags_of c inner (row_sizes rows) (row_flags rows) this members) (flags_of d inner (row_sizes rows) (row_flags rows) this members) _ r (flags_more inner (row_sizes rows) (row_flags rows) this members) e
