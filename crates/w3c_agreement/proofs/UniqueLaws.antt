-- A record is at most one placed type.
-- Assumes nothing.
use mathlib.Core.Path.{◌≡◌, refl, sym, ◌∙◌, ap}
use Prim.Native.Nat.{ℕ, suc, ◌<◌}
use native.Mathlib.Omega.{arith}
use lib.Dec.{eqb}
use Rattle.ir_records.specs.Result.{pick}
use Rattle.ir_records.specs.Record.{Decoded, member_type, member_offset}
use Rattle.ir_records.specs.declared.Leaf.{Leaf}
use Rattle.ir_records.specs.declared.Leaf.TheVariants.{Scalar as ScalarLeaf, Vector as VectorLeaf, Matrix as MatrixLeaf, CooperativeMatrix, Atomic as AtomicLeaf, RayQuery}
use Rattle.w3c_agreement.specs.Plain.{Integer, i32, u32, Float, f32, f16, Scalar, bool, integer, float, Dimension, two, three, four, Plain, scalar, vector, matrix, atomic, number, kind_of, width_of, leaf_of}
use Rattle.w3c_agreement.specs.Placed.{Placed, plain, array, runtime_array, struct, PlacedMembers, last, member, last_member, member_total, offset_of_member, IsPlaced, IsMember}

-- ---- plain types: what a record says gives the type back
scalar_from : (kind width : ℕ) → Scalar
scalar_from kind width =
    pick (eqb kind 0) (integer i32) (pick (eqb kind 1) (integer u32) (pick (eqb kind 3) bool (pick (eqb width 4) (float f32) (float f16))))

scalar_back : (s : Scalar) → scalar_from (kind_of s) (width_of s) ≡ s
unfolding scalar_from
scalar_back bool = refl
scalar_back (integer i32) = refl
scalar_back (integer u32) = refl
scalar_back (float f32) = refl
scalar_back (float f16) = refl

dimension_from : ℕ → Dimension
dimension_from n = pick (eqb n 2) two (pick (eqb n 3) three four)

dimension_back : (d : Dimension) → dimension_from (number d) ≡ d
unfolding dimension_from
dimension_back two = refl
dimension_back three = refl
dimension_back four = refl

float_from : (width : ℕ) → Float
float_from width = pick (eqb width 4) f32 f16

float_back : (f : Float) → float_from (width_of (float f)) ≡ f
unfolding float_from
float_back f32 = refl
float_back f16 = refl

integer_from : (kind : ℕ) → Integer
integer_from kind = pick (eqb kind 0) i32 u32

integer_back : (i : Integer) → integer_from (kind_of (integer i)) ≡ i
unfolding integer_from
integer_back i32 = refl
integer_back u32 = refl

-- of a record that is no plain WGSL type anything
plain_from : Leaf → Plain
plain_from (ScalarLeaf kind width) = scalar (scalar_from kind width)
plain_from (VectorLeaf size kind width) = vector (dimension_from size) (scalar_from kind width)
plain_from (MatrixLeaf columns rows kind width) = matrix (dimension_from columns) (dimension_from rows) (float_from width)
plain_from (CooperativeMatrix columns rows kind width role) = scalar bool
plain_from (AtomicLeaf kind width) = atomic (integer_from kind)
plain_from (RayQuery vertexReturn) = scalar bool

plain_back : (p : Plain) → plain_from (leaf_of p) ≡ p
unfolding plain_from
plain_back (scalar s) = rw (scalar_back s) refl
plain_back (vector n s) = rw (dimension_back n, scalar_back s) refl
plain_back (matrix columns rows f) = rw (dimension_back columns, dimension_back rows, float_back f) refl
plain_back (atomic i) = rw (integer_back i) refl

leaf_unique : (p q : Plain) → leaf_of p ≡ leaf_of q → p ≡ q
leaf_unique p q e = sym (plain_back p) ∙ ap plain_from e ∙ plain_back q

-- ---- placed types
mutual
  unfolding IsPlaced last_member offset_of_member

  -- one record, one type
  pub placed_unique : (a b : Placed) (types : ℕ → Decoded) (t : ℕ) → IsPlaced a types t → IsPlaced b types t → a ≡ b
  placed_unique (plain p) (plain q) types t x y = let e : leaf_of p ≡ leaf_of q = cc in ap plain (leaf_unique p q e)
  placed_unique (array element count stride) (array other count' stride') types t x y =
      let v = x.1 in
      let w = y.1 in
      let b : x.0 ≡ y.0 = cc in
      let c : count ≡ count' = cc in
      let s : stride ≡ stride' = cc in
      rw (placed_unique element other types y.0 (rw b at x.2) y.2, c, s) refl
  placed_unique (runtime_array element stride) (runtime_array other stride') types t x y =
      let v = x.1 in
      let w = y.1 in
      let b : x.0 ≡ y.0 = cc in
      let s : stride ≡ stride' = cc in
      rw (placed_unique element other types y.0 (rw b at x.2) y.2, s) refl
  placed_unique (struct members span) (struct others span') types t x y =
      let v = x.0 in
      let w = y.0 in
      let n : member_total members ≡ member_total others = cc in
      let s : span ≡ span' = cc in
      rw (members_unique members others types (λ i. member_type (types t).members i) (λ i. member_offset (types t).members i) (omega (arith, n)) x.1 y.1 x.2 y.2, s) refl
  -- records of other kinds
  placed_unique (plain p) (array element count stride) types t x y = let w = y.1 in let z : ◌≡◌ {A = ℕ} 0 1 = cc in absurd (omega arith)
  placed_unique (plain p) (runtime_array element stride) types t x y = let w = y.1 in let z : ◌≡◌ {A = ℕ} 0 1 = cc in absurd (omega arith)
  placed_unique (plain p) (struct members span) types t x y = let w = y.0 in let z : ◌≡◌ {A = ℕ} 0 1 = cc in absurd (omega arith)
  placed_unique (array element count stride) (plain q) types t x y = let v = x.1 in let z : ◌≡◌ {A = ℕ} 0 1 = cc in absurd (omega arith)
  placed_unique (array element count stride) (runtime_array other stride') types t x y =
      let v = x.1 in let w = y.1 in let z : ◌≡◌ {A = ℕ} 0 1 = cc in absurd (omega arith)
  placed_unique (array element count stride) (struct members span) types t x y =
      let v = x.1 in let w = y.0 in let z : ◌≡◌ {A = ℕ} 0 1 = cc in absurd (omega arith)
  placed_unique (runtime_array element stride) (plain q) types t x y = let v = x.1 in let z : ◌≡◌ {A = ℕ} 0 1 = cc in absurd (omega arith)
  placed_unique (runtime_array element stride) (array other count stride') types t x y =
      let v = x.1 in let w = y.1 in let z : ◌≡◌ {A = ℕ} 0 1 = cc in absurd (omega arith)
  placed_unique (runtime_array element stride) (struct members span) types t x y =
      let v = x.1 in let w = y.0 in let z : ◌≡◌ {A = ℕ} 0 1 = cc in absurd (omega arith)
  placed_unique (struct members span) (plain q) types t x y = let v = x.0 in let z : ◌≡◌ {A = ℕ} 0 1 = cc in absurd (omega arith)
  placed_unique (struct members span) (array element count stride) types t x y =
      let v = x.0 in let w = y.1 in let z : ◌≡◌ {A = ℕ} 0 1 = cc in absurd (omega arith)
  placed_unique (struct members span) (runtime_array element stride) types t x y =
      let v = x.0 in let w = y.1 in let z : ◌≡◌ {A = ℕ} 0 1 = cc in absurd (omega arith)

  -- and so are the members, whose records f says, at the offsets o
  members_unique : (m n : PlacedMembers) (types : ℕ → Decoded) (f o : ℕ → ℕ) → last_member m ≡ last_member n
      → ((i : ℕ) → i < member_total m → o i ≡ offset_of_member m i) → ((i : ℕ) → i < member_total n → o i ≡ offset_of_member n i)
      → ((i : ℕ) → i < member_total m → IsMember m types i (f i)) → ((i : ℕ) → i < member_total n → IsMember n types i (f i)) → m ≡ n
  members_unique (last a x) (last b y) types f o e p q u v =
      rw (placed_unique a b types (f 0) (u 0 (omega arith)) (v 0 (omega arith)), sym (p 0 (omega arith)) ∙ q 0 (omega arith)) refl
  members_unique (last a x) (member b y n) types f o e p q u v = absurd (omega arith)
  members_unique (member a x m) (last b y) types f o e p q u v = absurd (omega arith)
  members_unique (member a x m) (member b y n) types f o e p q u v =
      rw (
        placed_unique a b types (f 0) (u 0 (omega arith)) (v 0 (omega arith)),
        sym (p 0 (omega arith)) ∙ q 0 (omega arith),
        members_unique m n types (λ i. f (suc i)) (λ i. o (suc i)) (omega arith) (λ i h. p (suc i) (omega arith)) (λ i h. q (suc i) (omega arith))
            (λ i h. u (suc i) (omega arith)) (λ i h. v (suc i) (omega arith)),
      ) refl
