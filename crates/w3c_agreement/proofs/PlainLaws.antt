-- Laws of plain types and of alignments: what the records of numeric plain types measure is the standard's, and alignments are powers of two.
-- Assumes nothing.
use mathlib.Core.Path.{◌≡◌, refl, ◌∙◌, ap}
use mathlib.Core.Logic.{◌↔◌, ◌⊎◌, inl, inr}
use Prim.Native.Nat.{ℕ, zero, suc, ◌*◌, ◌≤◌, ◌∣◌, max}
use native.Mathlib.Nat.{mul_comm, dvd_trans, mod-eq-zero_of_dvd}
use native.Mathlib.Omega.{arith}
use Rattle.proc_alignment.specs.Alignment.{Power, vector_alignment, round_up}
use Rattle.proc_alignment.proofs.PowerLaws.{le_cases, power_max, power_divides, power_positive}
use Rattle.proc_type_methods.specs.TypeMethods.{leaf_size}
use Rattle.proc_type_alignment.specs.TypeAlignment.{leaf_width, leaf_factor}
use Rattle.valid_types.specs.ValidateType.{leaf_verdict_alignment}
use Rattle.w3c_agreement.specs.Plain.{Scalar, bool, integer, float, Float, f32, f16, Dimension, two, three, four, Plain, scalar, vector, matrix, atomic, number, by_scalar, size_of_scalar, align_of_vector, size_of_vector, align_of_plain, size_of_plain, Numeric, NumericPlain, width_of, leaf_of}
use Rattle.w3c_agreement.specs.Wgsl.{max_over}
use Rattle.w3c_agreement.specs.Placed.{Space, storage, uniform}
use Rattle.proc_alignment.proofs.RoundLaws.{round_up_multiple, round_up_next}

-- ---- scalars, vectors, matrices
-- the width of a numeric scalar is the standard's size and alignment
pub scalar_size : (s : Scalar) → Numeric s → width_of s ≡ size_of_scalar s
scalar_size bool p = absurd p
scalar_size (integer i) p = refl
scalar_size (float f32) p = refl
scalar_size (float f16) p = refl

-- a numeric vector has its components one after the other
pub vector_size : (n : Dimension) (s : Scalar) → Numeric s → number n * width_of s ≡ size_of_vector n s
vector_size n bool p = absurd p
vector_size two (integer i) p = refl
vector_size three (integer i) p = refl
vector_size four (integer i) p = refl
vector_size two (float f32) p = refl
vector_size three (float f32) p = refl
vector_size four (float f32) p = refl
vector_size two (float f16) p = refl
vector_size three (float f16) p = refl
vector_size four (float f16) p = refl

-- the alignment of a numeric vector is 2 or 4 times the width
pub vector_align : (n : Dimension) (s : Scalar) → Numeric s → vector_alignment (number n) * width_of s ≡ align_of_vector n s
vector_align n bool p = absurd p
vector_align two (integer i) p = refl
vector_align three (integer i) p = refl
vector_align four (integer i) p = refl
vector_align two (float f32) p = refl
vector_align three (float f32) p = refl
vector_align four (float f32) p = refl
vector_align two (float f16) p = refl
vector_align three (float f16) p = refl
vector_align four (float f16) p = refl

-- a column of a matrix is a vector rounded up to its alignment
column_size : (rows : Dimension) (f : Float) → vector_alignment (number rows) * width_of (float f) ≡ round_up (align_of_vector rows (float f)) (size_of_vector rows (float f))
column_size two f32 = refl
column_size three f32 = refl
column_size four f32 = refl
column_size two f16 = refl
column_size three f16 = refl
column_size four f16 = refl

-- a matrix has its columns one after the other
matrix_size : (columns rows : Dimension) (f : Float) → vector_alignment (number rows) * width_of (float f) * number columns ≡ size_of_plain (matrix columns rows f)
matrix_size columns rows f =
    mul_comm (vector_alignment (number rows) * width_of (float f)) (number columns) ∙ ap (λ (x : ℕ). number columns * x) (column_size rows f)

-- ---- plain types by their records
-- the record of a numeric plain type measures SizeOf
pub plain_size : (p : Plain) → NumericPlain p → leaf_size (leaf_of p) ≡ size_of_plain p
plain_size (scalar s) numeric = scalar_size s numeric
plain_size (vector n s) numeric = vector_size n s numeric
plain_size (matrix columns rows f) numeric = matrix_size columns rows f
plain_size (atomic i) numeric = refl

-- and is aligned to AlignOf
pub plain_align : (p : Plain) → NumericPlain p → leaf_factor (leaf_of p) * leaf_width (leaf_of p) ≡ align_of_plain p
plain_align (scalar s) numeric = omega (arith, scalar_size s numeric)
plain_align (vector n s) numeric = vector_align n s numeric
plain_align (matrix columns rows f) numeric = vector_align rows (float f) tt
plain_align (atomic i) numeric = refl

-- so is its verdict
pub plain_verdict : (p : Plain) → NumericPlain p → leaf_verdict_alignment (leaf_of p) ≡ align_of_plain p
plain_verdict (scalar s) numeric = scalar_size s numeric
plain_verdict (vector n s) numeric = vector_align n s numeric
plain_verdict (matrix columns rows f) numeric = vector_align rows (float f) tt
plain_verdict (atomic i) numeric = refl

-- ---- alignments are powers of two
-- a line of the table is a power of two where its two numbers are
by_scalar_power : (s : Scalar) (a b : ℕ) → Power a → Power b → Power (by_scalar s a b)
by_scalar_power bool a b p q = p
by_scalar_power (integer i) a b p q = p
by_scalar_power (float f32) a b p q = p
by_scalar_power (float f16) a b p q = q

-- the alignment of a vector is a power of two
vector_power : (n : Dimension) (s : Scalar) → Power (align_of_vector n s)
vector_power two s = by_scalar_power s 8 4 (record { exponent = 3; is = refl }) (record { exponent = 2; is = refl })
vector_power three s = by_scalar_power s 16 8 (record { exponent = 4; is = refl }) (record { exponent = 3; is = refl })
vector_power four s = by_scalar_power s 16 8 (record { exponent = 4; is = refl }) (record { exponent = 3; is = refl })

-- the largest of powers of two is one
pub largest_power : (f : ℕ → ℕ) → ((i : ℕ) → Power (f i)) → (n : ℕ) → Power (max_over f n)
unfolding max_over
largest_power f p zero = p zero
largest_power f p (suc n) = power_max (max_over f n) (f (suc n)) (largest_power f p n) (p (suc n))

-- the largest of equal numbers
pub largest_same : (f g : ℕ → ℕ) → ((i : ℕ) → f i ≡ g i) → (n : ℕ) → max_over f n ≡ max_over g n
unfolding max_over
largest_same f g each zero = each zero
largest_same f g each (suc n) = rw (each (suc n), largest_same f g each n) refl

-- of plain types
pub plain_power : (p : Plain) → Power (align_of_plain p)
plain_power (scalar s) = by_scalar_power s 4 2 (record { exponent = 2; is = refl }) (record { exponent = 1; is = refl })
plain_power (vector n s) = vector_power n s
plain_power (matrix columns rows f) = vector_power rows (float f)
plain_power (atomic i) = record { exponent = 2; is = refl }

-- sixteen is a power of two
pub power_sixteen : Power 16
power_sixteen = record { exponent = 4; is = refl }

-- roundUp(16, a) of a power of two a is the larger of the two
pub round_sixteen : (a : ℕ) → Power a → round_up 16 a ≡ max a 16
round_sixteen a p = go (le_cases a 16)
  where
    go : (a ≤ 16) ⊎ (16 ≤ a) → round_up 16 a ≡ max a 16
    go (inl h) =
        omega (arith, power_positive p, round_up_next 16 a (omega arith), mod-eq-zero_of_dvd 16 (round_up_multiple 16 a (omega arith)))
    go (inr h) =
        omega (arith, mod-eq-zero_of_dvd 16 (power_divides 16 a power_sixteen p h), round_up_next 16 a (omega arith), mod-eq-zero_of_dvd 16 (round_up_multiple 16 a (omega arith)))

-- rounded up to 16 it is one
pub rounded_power : (a : ℕ) → Power a → Power (round_up 16 a)
rounded_power a p = rw (round_sixteen a p) (power_max a 16 p power_sixteen)

-- a number is a multiple of two powers of two exactly where it is one of the larger
pub multiple_both : (a b n : ℕ) → Power a → Power b → ((a ∣ n) × (b ∣ n)) ↔ (max a b ∣ n)
multiple_both a b n p q = (λ d. larger d (le_cases a b), λ d. (part a p (omega arith) d, part b q (omega arith) d))
  where
    larger : (a ∣ n) × (b ∣ n) → (a ≤ b) ⊎ (b ≤ a) → max a b ∣ n
    larger d (inl h) = let e : max a b ≡ b = omega arith in rw e d.1
    larger d (inr h) = let e : max a b ≡ a = omega arith in rw e d.0

    part : (x : ℕ) → Power x → x ≤ max a b → max a b ∣ n → x ∣ n
    part x r h d = dvd_trans x (power_divides x (max a b) r (power_max a b p q) h) d

-- what a space asks of an alignment at least: 16 in uniform
abbrev pub least_in : Space → ℕ
least_in storage = 1
least_in uniform = 16
