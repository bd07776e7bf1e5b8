-- Numbers in decimal: digits alone, with a last one, and one number to each text.
-- Assumes nothing.
use mathlib.Core.Path.{◌≡◌, refl, sym, ap, ◌∙◌}
use mathlib.Core.Bool.{true}
use mathlib.Core.List.{List, [], ◌∷◌, ◌++◌, reverse, reverse-append}
use Prim.Native.Nat.{ℕ, zero, suc, ◌+◌, ◌/◌, ◌%◌, ◌^◌, ◌≤◌, ◌<◌}
use native.Mathlib.Nat.{pow-suc}
use native.Mathlib.Decide.{dec_le}
use native.Mathlib.Omega.{arith}
use lib.ListN.{length, length-append}
use borrow.Author.Tests.{lt-ltb, le-ltb, le-leb}
use Rattle.std.specs.Char.{is_ascii_digit}
use Rattle.std.specs.List.{list_all}
use Rattle.std.proofs.lemmas.List.{append_cancel_right}
use Rattle.std.proofs.lemmas.List.Folds.{list_all-append}
use Rattle.program_output.specs.Bytes.{decimal_in, digit}

-- ---- the last element of two lists
pub last_same : {A : Type 0} (xs ys : List A) (x y : A) → xs ++ (x ∷ []) ≡ ys ++ (y ∷ []) → (xs ≡ ys) × (x ≡ y)
last_same xs ys x y e =
    let turned : x ∷ reverse xs ≡ y ∷ reverse ys = sym (reverse-append xs (x ∷ [])) ∙ (ap reverse e ∙ reverse-append ys (y ∷ [])) in
    let same : x ≡ y = cc in
    (append_cancel_right xs ys (y ∷ []) (ap (λ z. xs ++ (z ∷ [])) (sym same) ∙ e), same)

-- ---- digits
is_digit : (d : ℕ) → d < 10 → is_ascii_digit (digit d) ≡ true
is_digit d h = rw (le-leb 48 (48 + d) (omega arith), le-leb (48 + d) 57 (omega arith))

digits_small : (most n : ℕ) → n < 10 → decimal_in (suc most) n ≡ digit n ∷ []
unfolding decimal_in
digits_small most n h = rw (lt-ltb n 10 h)

digits_large : (most n : ℕ) → 10 ≤ n → decimal_in (suc most) n ≡ decimal_in most (n / 10) ++ (digit (n % 10) ∷ [])
unfolding decimal_in
digits_large most n h = rw (le-ltb n 10 h)

digits_none : (n : ℕ) → list_all is_ascii_digit (decimal_in zero n) ≡ true
unfolding decimal_in
digits_none n = refl

pub digits_all : (most n : ℕ) → list_all is_ascii_digit (decimal_in most n) ≡ true
digits_all zero n = digits_none n
digits_all (suc most) n = by (digits_all most (n / 10)) (dec_le 10 n)
  where
    by : list_all is_ascii_digit (decimal_in most (n / 10)) ≡ true → Dec (10 ≤ n) → list_all is_ascii_digit (decimal_in (suc most) n) ≡ true
    by front (yes large) =
        let last = is_digit (n % 10) (omega arith) in
        rw (digits_large most n large, list_all-append is_ascii_digit (decimal_in most (n / 10)) (digit (n % 10) ∷ []), front, last)
    by front (no few) = rw (digits_small most n (omega arith), is_digit n (omega arith))

-- a number ends with a digit
pub record Ends (text : List ℕ) : Type 0 where
  pub front : List ℕ
  pub last : ℕ
  pub below : last < 10
  pub is : text ≡ front ++ (digit last ∷ [])

pub digits_end : (most n : ℕ) → Ends (decimal_in (suc most) n)
digits_end most n = by (dec_le 10 n)
  where
    by : Dec (10 ≤ n) → Ends (decimal_in (suc most) n)
    by (yes large) = record { front = decimal_in most (n / 10); last = n % 10; below = omega arith; is = digits_large most n large }
    by (no few) = record { front = []; last = n; below = omega arith; is = digits_small most n (omega arith) }

digits_some : (most n : ℕ) → 0 < length (decimal_in (suc most) n)
digits_some most n =
    let e = digits_end most n in
    rw e.is (omega (arith, length-append e.front (digit e.last ∷ [])))

-- ---- one number to each text
-- a number with one digit is not one with more
one_digit : (most a b : ℕ) → a < 10 → 10 ≤ b → b < 10 ^ suc most → decimal_in (suc most) a ≡ decimal_in (suc most) b → ⊥
one_digit zero a b h k m e = omega arith
one_digit (suc most) a b h k m e =
    let texts = sym (digits_small (suc most) a h) ∙ (e ∙ digits_large (suc most) b k) in
    let long : 1 ≡ length (decimal_in (suc most) (b / 10) ++ (digit (b % 10) ∷ [])) = ap length texts in
    omega (arith, long, length-append (decimal_in (suc most) (b / 10)) (digit (b % 10) ∷ []), digits_some most (b / 10))

pub digits_same : (most a b : ℕ) → a < 10 ^ most → b < 10 ^ most → decimal_in most a ≡ decimal_in most b → a ≡ b
digits_same zero a b h k e = omega arith
digits_same (suc most) a b h k e = by (digits_same most (a / 10) (b / 10)) (dec_le 10 a) (dec_le 10 b)
  where
    by : (a / 10 < 10 ^ most → b / 10 < 10 ^ most → decimal_in most (a / 10) ≡ decimal_in most (b / 10) → a / 10 ≡ b / 10)
        → Dec (10 ≤ a)
        → Dec (10 ≤ b)
        → a ≡ b
    by same (yes m) (yes n) =
        let texts = sym (digits_large most a m) ∙ (e ∙ digits_large most b n) in
        let ends = last_same (decimal_in most (a / 10)) (decimal_in most (b / 10)) (digit (a % 10)) (digit (b % 10)) texts in
        let p = pow-suc 10 most in
        let front = same (omega (arith, h, p)) (omega (arith, k, p)) ends.0 in
        omega (arith, front, ends.1)
    by same (yes m) (no n) = absurd (one_digit most b a (omega arith) m h (sym e))
    by same (no m) (yes n) = absurd (one_digit most a b (omega arith) n k e)
    by same (no m) (no n) =
        let a_is : a < 10 = omega arith in
        let b_is : b < 10 = omega arith in
        let texts : digit a ∷ [] ≡ digit b ∷ [] = sym (digits_small most a a_is) ∙ (e ∙ digits_small most b b_is) in
        let digits : digit a ≡ digit b = cc in
        omega (arith, digits)
