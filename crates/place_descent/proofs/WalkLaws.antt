-- Laws of the walk along a list of steps: what a place says of the steps on the way to it.
-- Assumes nothing.
use mathlib.Core.Path.{◌≡◌, refl, ◌∙◌}
use mathlib.Core.Bool.{Bool, true, false}
use mathlib.Core.List.{List, [], ◌∷◌}
use Prim.Native.Nat.{ℕ, ◌+◌, ◌*◌, ◌^◌, ◌≤◌, ◌<◌}
use native.Mathlib.Nat.{le_refl}
use native.Mathlib.Omega.{arith}
use lib.Dec.{T, ltb, ltb→lt}
use borrow.Author.Tests.{lt-ltb, le-ltb}
use Rattle.ir_records.specs.Result.{pick}
use Rattle.ir_records.specs.Record.{decoded, type_count, member_type, member_offset}
use Rattle.ir_records.specs.declared.Leaf.{Leaf}
use Rattle.ir_records.specs.declared.Leaf.TheVariants.{Scalar, Vector, Matrix, CooperativeMatrix, Atomic, RayQuery}
use Rattle.ir_records.specs.declared.NonData.{NonData}
use Rattle.ir_records.specs.declared.TypeInner.{TypeInner}
use Rattle.ir_records.specs.declared.TypeInner.TheVariants.{Plain, Array, RuntimeArray, Struct, Other}
use Rattle.ir_records.proofs.ResultLaws.{T_true}
use Rattle.place_steps.specs.Step.{Step}
use Rattle.place_steps.specs.Step.{To, Column, NoStep}
use Rattle.place_descent.specs.Place.{Place}
use Rattle.place_descent.specs.Place.{At, NoPlace}
use Rattle.proc_type_methods.specs.TypeMethods.{leaf_column_step}
use Rattle.place_steps.specs.Columns.{is_whole, column_count}
use Rattle.place_steps.specs.Steps.{is_leaf, step_of}
use Rattle.place_descent.specs.Place.{ended, follow, walk, step_in, leaf_in, place_in, place_of}

-- no place is no place anywhere
no_place {ℓ} : {A : Type ℓ} (byte leaf : ℕ) → NoPlace ≡ At byte leaf → A
no_place byte leaf e = let z : ◌≡◌ {A = ℕ} 0 1 = cc in absurd (omega arith)

-- a place that hangs on a test
place_picked : (b : Bool) (o : Place) (byte leaf : ℕ) → pick b o NoPlace ≡ At byte leaf → T b × (o ≡ At byte leaf)
place_picked true o byte leaf e = (tt, e)
place_picked false o byte leaf e = no_place byte leaf e

-- where the steps end, the type is a leaf and the place is the one that is held
at_leaf : (b : Bool) (p t byte leaf : ℕ) → pick b (At p t) NoPlace ≡ At byte leaf → T b × (p ≡ byte) × (t ≡ leaf)
at_leaf true p t byte leaf e = (tt, cc, cc)
at_leaf false p t byte leaf e = no_place byte leaf e

-- the way from type t at byte place p to a leaf: the type itself, a column of it, or on by a step
pub data Way (step : ℕ → ℕ → Step) (isEnd : ℕ → Bool) : (t p : ℕ) → List ℕ → (byte leaf : ℕ) → Type 0 where
  whole : {t p : ℕ} → T (isEnd t) → Way step isEnd t p [] p t
  column : {t p : ℕ} (s bytes : ℕ) → step t s ≡ Column bytes → Way step isEnd t p (s ∷ []) (p + bytes) t
  onward : {t p byte leaf : ℕ} {steps : List ℕ} (s ty bytes : ℕ) → step t s ≡ To ty bytes → Way step isEnd ty (p + bytes) steps byte leaf → Way step isEnd t p (s ∷ steps) byte leaf

module _ (step : ℕ → ℕ → Step) (isEnd : ℕ → Bool) where
  -- at a column the steps end
  at_column : (t p s bytes : ℕ) → step t s ≡ Column bytes → (steps : List ℕ) (byte leaf : ℕ) → ended (p + bytes) t steps ≡ At byte leaf → Way step isEnd t p (s ∷ steps) byte leaf
  at_column t p s bytes o [] byte leaf e =
      let place : p + bytes ≡ byte = cc in
      let type : t ≡ leaf = cc in
      rw (← place, ← type) (column s bytes o)
  at_column t p s bytes o (r ∷ steps) byte leaf e = no_place byte leaf e

  -- steps to a place are a way
  pub way : (steps : List ℕ) (t p byte leaf : ℕ) → walk step isEnd t p steps ≡ At byte leaf → Way step isEnd t p steps byte leaf
  way [] t p byte leaf e = let g = at_leaf (isEnd t) p t byte leaf e in rw (← g.1, ← g.2) (whole g.0)
  way (s ∷ steps) t p byte leaf e = go (step t s) refl e (λ u q. way steps u q byte leaf)
    where
      go : (o : Step) → step t s ≡ o → follow o (λ bytes. ended (p + bytes) t steps) (λ next bytes. walk step isEnd next (p + bytes) steps) ≡ At byte leaf
          → ((u q : ℕ) → walk step isEnd u q steps ≡ At byte leaf → Way step isEnd u q steps byte leaf) → Way step isEnd t p (s ∷ steps) byte leaf
      go (To ty bytes) o e on = onward s ty bytes o (on ty (p + bytes) e)
      go (Column bytes) o e on = at_column t p s bytes o steps byte leaf e
      go NoStep o e on = no_place byte leaf e

  -- and a way is one of steps to a place
  pub way_walk : {steps : List ℕ} {t p byte leaf : ℕ} → Way step isEnd t p steps byte leaf → walk step isEnd t p steps ≡ At byte leaf
  way_walk {t = t} (whole e) = rw (T_true (isEnd t) e) refl
  way_walk (column s bytes o) = rw o refl
  way_walk (onward s ty bytes o w) = rw o (way_walk w)

  -- I t p: what is known of a type t at a byte place p. It goes along each step, so it comes to the leaf
  pub along : (I : ℕ → ℕ → Type 0) → ((t p s ty bytes : ℕ) → step t s ≡ To ty bytes → I t p → I ty (p + bytes))
      → ((t p s bytes : ℕ) → step t s ≡ Column bytes → I t p → I t (p + bytes))
      → {steps : List ℕ} {t p byte leaf : ℕ} → Way step isEnd t p steps byte leaf → I t p → I leaf byte
  along I go last (whole e) i = i
  along I go last {t = t} {p = p} (column s bytes o) i = last t p s bytes o i
  along I go last {t = t} {p = p} (onward s ty bytes o w) i = along I go last w (go t p s ty bytes o i)

  -- a leaf stands at or past the place where the walk starts
  pub after_start : {steps : List ℕ} {t p byte leaf : ℕ} → Way step isEnd t p steps byte leaf → p ≤ byte
  after_start {p = p} w = along (λ (u q : ℕ). p ≤ q) (λ u q s ty bytes o i. omega arith) (λ u q s bytes o i. omega arith) w (le_refl p)

-- ---- the whole walk
-- a place is one in the decoded records
pub place_found : (ts ms : List ℕ) (t : ℕ) (steps : List ℕ) (byte leaf : ℕ) → place_of ts ms t steps ≡ At byte leaf → place_in (decoded ts ms) t 0 steps ≡ At byte leaf
unfolding place_of
place_found ts ms t steps byte leaf e = (place_picked (ltb t (type_count ts)) (place_in (decoded ts ms) t 0 steps) byte leaf e).1

-- and its start is a type of the arena
pub place_started : (ts ms : List ℕ) (t : ℕ) (steps : List ℕ) (byte leaf : ℕ) → place_of ts ms t steps ≡ At byte leaf → t < type_count ts
unfolding place_of
place_started ts ms t steps byte leaf e = ltb→lt t (type_count ts) (place_picked (ltb t (type_count ts)) (place_in (decoded ts ms) t 0 steps) byte leaf e).0

-- from a type of the arena the place is the one in the decoded records
pub place_from : (ts ms : List ℕ) (t : ℕ) → t < type_count ts → (steps : List ℕ) → place_of ts ms t steps ≡ place_in (decoded ts ms) t 0 steps
unfolding place_of
place_from ts ms t h steps = rw (lt-ltb t (type_count ts) h) refl

-- a way from a type of the arena is one of steps to a place
pub place_of_way : (ts ms : List ℕ) (t : ℕ) → t < type_count ts → {steps : List ℕ} {byte leaf : ℕ} → Way (step_in (decoded ts ms)) (leaf_in (decoded ts ms)) t 0 steps byte leaf
    → place_of ts ms t steps ≡ At byte leaf
place_of_way ts ms t h {steps = steps} w = place_from ts ms t h steps ∙ way_walk (step_in (decoded ts ms)) (leaf_in (decoded ts ms)) w

-- ---- one step
-- no step is no step to anywhere
pub no_step {ℓ} : {A : Type ℓ} (ty bytes : ℕ) → NoStep ≡ To ty bytes → A
no_step ty bytes e = let z : ◌≡◌ {A = ℕ} 0 1 = cc in absurd (omega arith)

-- a step that hangs on a test
step_picked : (b : Bool) (u v ty bytes : ℕ) → pick b (To u v) NoStep ≡ To ty bytes → T b × (u ≡ ty) × (v ≡ bytes)
step_picked true u v ty bytes e = (tt, cc, cc)
step_picked false u v ty bytes e = no_step ty bytes e

-- nor a step to a column
pub no_column {ℓ} : {A : Type ℓ} (bytes : ℕ) → NoStep ≡ Column bytes → A
no_column bytes e = let z : ◌≡◌ {A = ℕ} 0 1 = cc in absurd (omega arith)

-- a step to a column is no step to a type
column_or_type {ℓ} : {A : Type ℓ} (v ty bytes : ℕ) → Column v ≡ To ty bytes → A
column_or_type v ty bytes e = let z : ◌≡◌ {A = ℕ} 0 1 = cc in absurd (omega arith)

-- a step to a column hangs on a test
column_picked : (b : Bool) (v bytes : ℕ) → pick b (Column v) NoStep ≡ Column bytes → T b × (v ≡ bytes)
column_picked true v bytes e = (tt, cc)
column_picked false v bytes e = no_column bytes e

-- a step to a type that hangs on a test is none to a column
not_picked {ℓ} : {A : Type ℓ} (b : Bool) (u v bytes : ℕ) → pick b (To u v) NoStep ≡ Column bytes → A
not_picked true u v bytes e = let z : ◌≡◌ {A = ℕ} 0 1 = cc in absurd (omega arith)
not_picked false u v bytes e = no_column bytes e

-- what is neither array nor struct has no step to a type
pub plain_step {ℓ} : {A : Type ℓ} (leaf : Leaf) (members : List ℕ) (s ty bytes : ℕ) → step_of (Plain leaf) members s ≡ To ty bytes → A
unfolding step_of
plain_step {A = A} leaf members s ty bytes e = go (ltb s (column_count leaf)) e
  where
    go : (b : Bool) → pick b (Column (s * leaf_column_step leaf)) NoStep ≡ To ty bytes → A
    go true e = column_or_type (s * leaf_column_step leaf) ty bytes e
    go false e = no_step ty bytes e

-- a step at an array is below the count, leads to the base and adds step times stride
pub array_step : (base count stride : ℕ) (members : List ℕ) (s ty bytes : ℕ) → step_of (Array base count stride) members s ≡ To ty bytes
    → (s < count) × (base ≡ ty) × (s * stride ≡ bytes)
unfolding step_of
array_step base count stride members s ty bytes e =
    let a = step_picked (ltb s count) base (s * stride) ty bytes e in (ltb→lt s count a.0, a.1, a.2)

-- a step at a runtime array is a 32-bit number, leads to the base and adds step times stride
pub runtime_array_step : (base stride : ℕ) (members : List ℕ) (s ty bytes : ℕ) → step_of (RuntimeArray base stride) members s ≡ To ty bytes
    → (s < 2 ^ 32) × (base ≡ ty) × (s * stride ≡ bytes)
unfolding step_of
runtime_array_step base stride members s ty bytes e =
    let a = step_picked (ltb s (2 ^ 32)) base (s * stride) ty bytes e in (ltb→lt s (2 ^ 32) a.0, a.1, a.2)

-- a step at a struct is below the member count, leads to the member's type and adds its offset
pub struct_step : (count span : ℕ) (members : List ℕ) (s ty bytes : ℕ) → step_of (Struct count span) members s ≡ To ty bytes
    → (s < count) × (member_type members s ≡ ty) × (member_offset members s ≡ bytes)
unfolding step_of
struct_step count span members s ty bytes e =
    let a = step_picked (ltb s count) (member_type members s) (member_offset members s) ty bytes e in (ltb→lt s count a.0, a.1, a.2)

-- what is no data has no step
pub other_step {ℓ} : {A : Type ℓ} (o : NonData) (members : List ℕ) (s ty bytes : ℕ) → step_of (Other o) members s ≡ To ty bytes → A
unfolding step_of
other_step o members s ty bytes e = no_step ty bytes e

-- a step to a column is below the columns of a matrix and adds step times column step
pub column-step : (this : TypeInner) (members : List ℕ) (s bytes : ℕ) → step_of this members s ≡ Column bytes
    → (leaf : Leaf) × (this ≡ Plain leaf) × (s < column_count leaf) × (s * leaf_column_step leaf ≡ bytes)
unfolding step_of
column-step (Plain leaf) members s bytes e =
    let a = column_picked (ltb s (column_count leaf)) (s * leaf_column_step leaf) bytes e in
    (leaf, refl, ltb→lt s (column_count leaf) a.0, a.1)
column-step (Array base count stride) members s bytes e = not_picked (ltb s count) base (s * stride) bytes e
column-step (RuntimeArray base stride) members s bytes e = not_picked (ltb s (2 ^ 32)) base (s * stride) bytes e
column-step (Struct count span) members s bytes e = not_picked (ltb s count) (member_type members s) (member_offset members s) bytes e
column-step (Other o) members s bytes e = no_column bytes e

-- a leaf has no columns
whole_columns : (leaf : Leaf) → T (is_whole leaf) → column_count leaf ≡ 0
whole_columns (Scalar k w) t = refl
whole_columns (Vector n k w) t = refl
whole_columns (Matrix cs rs k w) t = absurd t
whole_columns (CooperativeMatrix cs rs k w o) t = refl
whole_columns (Atomic k w) t = refl
whole_columns (RayQuery v) t = refl

-- a leaf has no step
pub leaf_step : (this : TypeInner) (members : List ℕ) (s : ℕ) → T (is_leaf this) → step_of this members s ≡ NoStep
unfolding step_of
leaf_step (Plain leaf) members s t = rw (whole_columns leaf t, le-ltb s 0 (omega arith)) refl
leaf_step (Array base count stride) members s t = absurd t
leaf_step (RuntimeArray base stride) members s t = absurd t
leaf_step (Struct count span) members s t = absurd t
leaf_step (Other o) members s t = refl
